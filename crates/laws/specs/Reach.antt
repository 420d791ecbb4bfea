-- `reachb` decides `Reach`.
use Rattle.std.specs.Prelude.{◌≡◌, ◌⊎◌, Bool, replicate, set}
use Rattle.std.proofs.Math.Path.{refl, sym, ap, subst}
use Rattle.std.proofs.Common.{◌∙◌, le_of_suc-le-suc, not-suc-le-zero, add-zero, add-suc, suc-add, zero-add, le_of_eq, arith, length-set, get_or-set_same, get_or-set_other}
use Rattle.std.proofs.Math.Logic.{inl, inr}
use Rattle.std.proofs.Math.Bool.{true, false}
use mathlib.Core.List.{List, [], ◌∷◌}
use Prim.Native.Nat.{ℕ, zero, suc, ◌+◌, ◌≤◌, ◌<◌, zero-le, suc-le-suc}
use Rattle.std.proofs.Math.Decide.{ℕ_discrete}
use Rattle.std.proofs.Math.Dec.{T}
use Rattle.std.proofs.Math.ListN.{length, get_or}
use Rattle.std.proofs.lemmas.List.{length-replicate, get_or-replicate}
use Rattle.rules.specs.Tests.{◌or◌}
use Rattle.laws.specs.Tests.{or_left, or_right, or_cases}
use Rattle.laws.specs.Below.{some→, →some}
use Rattle.rules.specs.Reach.{Link, Reach, here, chain, hit, widen_from, widen, close, reaching, reachb}

-- how many are not marked
unmarked : List Bool → ℕ
unmarked [] = 0
unmarked (true ∷ l) = unmarked l
unmarked (false ∷ l) = suc (unmarked l)

marked_below : (m : List Bool) (p : ℕ) → T (get_or m p false) → p < length m
marked_below [] p t = absurd t
marked_below (b ∷ m) zero t = suc-le-suc zero-le
marked_below (b ∷ m) (suc p) t = suc-le-suc (marked_below m p t)

module _ (at : ℕ → ℕ → ℕ) where
  hit-of : (m : List Bool) (p q k : ℕ) → k < 4 → at p k ≡ q → T (get_or m q false) → T (hit at m p)
  unfolding hit
  hit-of m p q k h e t = →some (λ j. get_or m (at p j) false) 4 k h (subst (λ (x : ℕ). T (get_or m x false)) (sym e) t)

  of-hit : (m : List Bool) (p : ℕ) → T (hit at m p) → (k : ℕ) × (k < 4) × T (get_or m (at p k) false)
  unfolding hit
  of-hit m p t = some→ (λ j. get_or m (at p j) false) 4 t

  length-widen_from : (p : ℕ) (l m : List Bool) → length (widen_from at p l m) ≡ length l
  unfolding widen_from
  length-widen_from p [] m = refl
  length-widen_from p (b ∷ l) m = ap suc (length-widen_from (suc p) l m)

  length-close : (k : ℕ) (m : List Bool) → length (close at k m) ≡ length m
  unfolding close widen
  length-close zero m = refl
  length-close (suc k) m = length-close k (widen at m) ∙ length-widen_from 0 m m

  -- what a widened mark says
  at-widen : (p : ℕ) (l m : List Bool) (i : ℕ) → i < length l → get_or (widen_from at p l m) i false ≡ (get_or l i false or hit at m (p + i))
  unfolding widen_from
  at-widen p [] m i h = absurd (not-suc-le-zero h)
  at-widen p (b ∷ l) m zero h = ap (λ (k : ℕ). b or hit at m k) (sym (add-zero p))
  at-widen p (b ∷ l) m (suc i) h =
      at-widen (suc p) l m i (le_of_suc-le-suc h) ∙ ap (λ (k : ℕ). get_or l i false or hit at m k) (suc-add p i ∙ sym (add-suc p i))

  -- a widening adds nothing, or fewer are left unmarked
  grows : (p : ℕ) (l m : List Bool) → (widen_from at p l m ≡ l) ⊎ (unmarked (widen_from at p l m) < unmarked l)
  unfolding widen_from unmarked
  grows p [] m = inl refl
  grows p (true ∷ l) m = go (grows (suc p) l m)
    where
      go : (widen_from at (suc p) l m ≡ l) ⊎ (unmarked (widen_from at (suc p) l m) < unmarked l)
          → (◌≡◌ {A = List Bool} (true ∷ widen_from at (suc p) l m) (true ∷ l)) ⊎ (unmarked (widen_from at (suc p) l m) < unmarked l)
      go (inl e) = inl (ap {B = List Bool} (λ x. true ∷ x) e)
      go (inr h) = inr h
  grows p (false ∷ l) m = go (hit at m p) (grows (suc p) l m)
    where
      go : (b : Bool) → (widen_from at (suc p) l m ≡ l) ⊎ (unmarked (widen_from at (suc p) l m) < unmarked l)
          → (◌≡◌ {A = List Bool} (b ∷ widen_from at (suc p) l m) (false ∷ l)) ⊎ (unmarked (b ∷ widen_from at (suc p) l m) < suc (unmarked l))
      go true (inl e) = inr (suc-le-suc (le_of_eq (ap unmarked e)))
      go true (inr h) = inr (omega arith)
      go false (inl e) = inl (ap {B = List Bool} (λ x. false ∷ x) e)
      go false (inr h) = inr (suc-le-suc h)

  closed_stays : (k : ℕ) (m : List Bool) → widen at m ≡ m → close at k m ≡ m
  unfolding close
  closed_stays zero m e = refl
  closed_stays (suc k) m e = ap (close at k) e ∙ closed_stays k m e

  none_left : (p : ℕ) (l m : List Bool) → unmarked l ≡ 0 → widen_from at p l m ≡ l
  none_left p l m e = go (grows p l m)
    where
      go : (widen_from at p l m ≡ l) ⊎ (unmarked (widen_from at p l m) < unmarked l) → widen_from at p l m ≡ l
      go (inl h) = h
      go (inr h) = absurd (omega arith)

  -- widened as often as there are unmarked pieces, the marks are closed
  closed : (k : ℕ) (m : List Bool) → unmarked m ≤ k → widen at (close at k m) ≡ close at k m
  unfolding close widen
  closed zero m h = none_left 0 m m (omega arith)
  closed (suc k) m h = go (closed k (widen at m)) (grows 0 m m)
    where
      go : (unmarked (widen at m) ≤ k → widen at (close at k (widen at m)) ≡ close at k (widen at m))
          → (widen_from at 0 m m ≡ m) ⊎ (unmarked (widen_from at 0 m m) < unmarked m) → widen at (close at k (widen at m)) ≡ close at k (widen at m)
      go ih (inl e) = let c : close at k (widen at m) ≡ m = ap (close at k) e ∙ closed_stays k m e in ap (widen at) c ∙ e ∙ sym c
      go ih (inr f) = ih (omega arith)

  -- a mark is never lost
  keeps : (k : ℕ) (m : List Bool) (i : ℕ) → T (get_or m i false) → T (get_or (close at k m) i false)
  unfolding close widen
  keeps zero m i t = t
  keeps (suc k) m i t =
      keeps k (widen at m) i
      (subst T (sym (at-widen 0 m m i (marked_below m i t))) (or_left (get_or m i false) (hit at m (0 + i)) t))

module _ (n : ℕ) (at : ℕ → ℕ → ℕ) (t : ℕ) where
  -- each marked piece reaches t
  Right : List Bool → Type 0
  Right m = (p : ℕ) → T (get_or m p false) → Reach n at p t

  widen-right : (m : List Bool) → length m ≡ n → Right m → Right (widen at m)
  unfolding Right widen
  widen-right m e r p h = go (or_cases (get_or m p false) (hit at m (0 + p)) (subst T (at-widen at 0 m m p below) h))
    where
      below : p < length m
      below = subst (λ (k : ℕ). p < k) (length-widen_from at 0 m m) (marked_below (widen_from at 0 m m) p h)

      go : T (get_or m p false) ⊎ T (hit at m (0 + p)) → Reach n at p t
      go (inl u) = r p u
      go (inr u) =
          let w = of-hit at m (0 + p) u in
          let q = at (0 + p) w.0 in
          chain
          (record {
            from = subst (λ (k : ℕ). p < k) e below;
            to = subst (λ (k : ℕ). q < k) e (marked_below m q w.2);
            place = w.0;
            inside = w.1;
            names = ap (λ (x : ℕ). at x w.0) (sym (zero-add p));
          }) (r q w.2)

  close-right : (k : ℕ) (m : List Bool) → length m ≡ n → Right m → Right (close at k m)
  unfolding close widen
  close-right zero m e r = r
  close-right (suc k) m e r = close-right k (widen at m) (length-widen_from at 0 m m ∙ e) (widen-right m e r)

  -- what reaches a marked piece of closed marks is marked
  closed_all : (m : List Bool) → length m ≡ n → widen at m ≡ m → {p q : ℕ} → Reach n at p q → T (get_or m q false) → T (get_or m p false)
  unfolding widen
  closed_all m e c here u = u
  closed_all m e c {p = p} (chain {q = q} l r) u =
      subst T (ap (λ (x : List Bool). get_or x p false) c)
      (subst T (sym (at-widen at 0 m m p (subst (λ (k : ℕ). p < k) (sym e) l.from)))
      (or_right (get_or m p false) (hit at m (0 + p)) (hit-of at m (0 + p) q l.place l.inside (ap (λ (x : ℕ). at x l.place) (zero-add p) ∙ l.names) (closed_all m e c r u))))

start_right : (n t p : ℕ) → T (get_or (set (replicate n false) t true) p false) → p ≡ t
start_right n t p h = go (ℕ_discrete p t)
  where
    none : (k : ℕ) → T (get_or (replicate n false) k false) → ⊥
    none k u = subst T (get_or-replicate n k false false (subst (λ (j : ℕ). k < j) (length-replicate n false) (marked_below (replicate n false) k u))) u

    go : Dec (p ≡ t) → p ≡ t
    go (yes e) = e
    go (no d) = absurd (none p (subst T (get_or-set_other (replicate n false) t p true false d) h))

unmarked_le : (m : List Bool) → unmarked m ≤ length m
unfolding unmarked
unmarked_le [] = zero-le
unmarked_le (true ∷ l) = let h = unmarked_le l in omega arith
unmarked_le (false ∷ l) = suc-le-suc (unmarked_le l)

start_length : (n t : ℕ) → length (set (replicate n false) t true) ≡ n
start_length n t = length-set (replicate n false) t true ∙ length-replicate n false

pub reachb→Reach : (n : ℕ) (at : ℕ → ℕ → ℕ) (p t : ℕ) → T (reachb n at p t) → Reach n at p t
unfolding reachb reaching Right
reachb→Reach n at p t h =
    close-right n at t n (set (replicate n false) t true) (start_length n t)
    (λ q u. subst (λ (k : ℕ). Reach n at q k) (start_right n t q u) here) p h

pub Reach→reachb : (n : ℕ) (at : ℕ → ℕ → ℕ) (p t : ℕ) → t < n → Reach n at p t → T (reachb n at p t)
unfolding reachb reaching
Reach→reachb n at p t b r =
    let m : List Bool = set (replicate n false) t true in
    closed_all n at t (close at n m) (length-close at n m ∙ start_length n t)
    (closed at n m (subst (λ (k : ℕ). unmarked m ≤ k) (start_length n t) (unmarked_le m))) r
    (keeps at n m t (subst T (sym (get_or-set_same (replicate n false) t true false (subst (λ (k : ℕ). t < k) (sym (length-replicate n false)) b))) tt))

pub reachb_below : (n : ℕ) (at : ℕ → ℕ → ℕ) (p t : ℕ) → T (reachb n at p t) → p < n
unfolding reachb reaching
reachb_below n at p t h =
    subst (λ (k : ℕ). p < k) (length-close at n (set (replicate n false) t true) ∙ start_length n t) (marked_below (reaching n at t) p h)

-- ---- for a marking loop: what holds of p and is handed on by each link holds of all that p reaches; and backwards
pub reach_forward : {n : ℕ} {at : ℕ → ℕ → ℕ} (M : ℕ → Type 0) → ((x y : ℕ) → M x → Link n at x y → M y) → {p q : ℕ} → M p → Reach n at p q → M q
reach_forward M on m here = m
reach_forward M on {p = p} m (chain {q = q} l r) = reach_forward M on (on p q m l) r

pub reach_backward : {n : ℕ} {at : ℕ → ℕ → ℕ} (M : ℕ → Type 0) → ((x y : ℕ) → M y → Link n at x y → M x) → {p q : ℕ} → M q → Reach n at p q → M p
reach_backward M on m here = m
reach_backward M on {p = p} m (chain {q = q} l r) = on p q (reach_backward M on m r) l

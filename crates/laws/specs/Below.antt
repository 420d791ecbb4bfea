-- What the tests, sums, tables and lists over the numbers below a bound say.
use Rattle.std.specs.Prelude.{◌≡◌, refl, ◌⊎◌, ◌↔◌, ◌≢◌, Bool, true, false, not, length, get_or}
use Rattle.std.proofs.Common.{sym, ap, ap₂, ◌∙◌, ⊎_elim, le_of_suc-le-suc, not-suc-le-zero, add-zero, add-suc, suc-add, zero-add, le_refl, add-one, T_not}
use Rattle.std.proofs.Math.Path.{subst}
use Rattle.std.proofs.Math.Logic.{inl, inr}
use mathlib.Core.List.{List, [], ◌∷◌}
use Prim.Native.Nat.{ℕ, zero, suc, ◌+◌, ◌≤◌, ◌<◌, zero-le}
use Rattle.std.proofs.Math.Decide.{ℕ_discrete}
use native.Mathlib.Omega.{arith}
use Rattle.std.proofs.Math.Dec.{T}
use Rattle.rules.specs.Tests.{◌or◌, pick}
use Rattle.laws.specs.Tests.{or_left, or_right, or_cases, and_both, and_left, and_right}
use Rattle.rules.specs.Lists.{Among, first, later, Ascending, nil, one, more}
use Rattle.rules.specs.Below.{every, any, sum, table_from, table, lowest_from, lowest, list_from, list}

-- a test passes or fails
pub T_dec : (b : Bool) → T b ⊎ T (not b)
T_dec true = inl tt
T_dec false = inr tt

pub pick_true {ℓ} : {A : Type ℓ} (b : Bool) (x y : A) → T b → pick b x y ≡ x
pick_true true x y t = refl
pick_true false x y t = absurd t

pub pick-false {ℓ} : {A : Type ℓ} (b : Bool) (x y : A) → T (not b) → pick b x y ≡ y
pick-false true x y t = absurd t
pick-false false x y t = refl

last : {p k : ℕ} → p < suc k → (p < k) ⊎ (p ≡ k)
last {p} {k} h = go (ℕ_discrete p k)
  where
    go : Dec (p ≡ k) → (p < k) ⊎ (p ≡ k)
    go (yes e) = inr e
    go (no d) = inl (omega arith)

pub every→ : (f : ℕ → Bool) (k : ℕ) → T (every f k) → (p : ℕ) → p < k → T (f p)
unfolding every
every→ f zero t p h = absurd (not-suc-le-zero h)
every→ f (suc k) t p h = go (every→ f k (and_left (every f k) (f k) t) p) (last h)
  where
    go : (p < k → T (f p)) → (p < k) ⊎ (p ≡ k) → T (f p)
    go ih (inl l) = ih l
    go ih (inr e) = subst (λ (x : ℕ). T (f x)) (sym e) (and_right (every f k) (f k) t)

pub →every : (f : ℕ → Bool) (k : ℕ) → ((p : ℕ) → p < k → T (f p)) → T (every f k)
unfolding every
→every f zero h = tt
→every f (suc k) h = and_both (every f k) (f k) (→every f k (λ p l. h p (omega arith))) (h k (le_refl (suc k)))

pub some→ : (f : ℕ → Bool) (k : ℕ) → T (any f k) → (p : ℕ) × (p < k) × T (f p)
unfolding any
some→ f zero t = absurd t
some→ f (suc k) t = go (λ u. some→ f k u) (or_cases (any f k) (f k) t)
  where
    go : (T (any f k) → (p : ℕ) × (p < k) × T (f p)) → T (any f k) ⊎ T (f k) → (p : ℕ) × (p < suc k) × T (f p)
    go ih (inl u) = let r = ih u in (r.0, let h = r.1 in omega arith, r.2)
    go ih (inr u) = (k, le_refl (suc k), u)

pub →some : (f : ℕ → Bool) (k p : ℕ) → p < k → T (f p) → T (any f k)
unfolding any
→some f zero p h t = absurd (not-suc-le-zero h)
→some f (suc k) p h t = go (λ l. →some f k p l t) (last h)
  where
    go : (p < k → T (any f k)) → (p < k) ⊎ (p ≡ k) → T (any f k or f k)
    go ih (inl l) = or_left (any f k) (f k) (ih l)
    go ih (inr e) = or_right (any f k) (f k) (subst (λ (x : ℕ). T (f x)) e t)

pub sum-next : (f : ℕ → ℕ) (k : ℕ) → sum f (k + 1) ≡ sum f k + f k
unfolding sum
sum-next f k = rw add-one

-- ---- tables

length-table_from : (p : ℕ) (f : ℕ → ℕ) (k : ℕ) → length (table_from p f k) ≡ k
unfolding table_from
length-table_from p f zero = refl
length-table_from p f (suc k) = ap suc (length-table_from (suc p) f k)

get_or-table_from : (p : ℕ) (f : ℕ → ℕ) (k i d : ℕ) → i < k → get_or (table_from p f k) i d ≡ f (p + i)
unfolding table_from
get_or-table_from p f zero i d h = absurd (not-suc-le-zero h)
get_or-table_from p f (suc k) zero d h = ap f (sym (add-zero p))
get_or-table_from p f (suc k) (suc i) d h = get_or-table_from (suc p) f k i d (le_of_suc-le-suc h) ∙ ap f (suc-add p i ∙ sym (add-suc p i))

pub length-table : (f : ℕ → ℕ) (k : ℕ) → length (table f k) ≡ k
unfolding table
length-table f k = length-table_from 0 f k

pub get_or-table : (f : ℕ → ℕ) (k i d : ℕ) → i < k → get_or (table f k) i d ≡ f i
unfolding table
get_or-table f k i d h = get_or-table_from 0 f k i d h ∙ ap f (zero-add i)

-- ---- the lowest

pub record Lowest (f : ℕ → Bool) (k l : ℕ) : Type 0 where
  pub below : l < k
  pub is : T (f l)
  pub least : (q : ℕ) → T (f q) → l ≤ q

lowest_from_is : (p : ℕ) (f : ℕ → Bool) (k q : ℕ) → p ≤ q → q < p + k → T (f q)
    → (p ≤ lowest_from p f k) × (lowest_from p f k < p + k) × T (f (lowest_from p f k)) × ((r : ℕ) → p ≤ r → T (f r) → lowest_from p f k ≤ r)
unfolding lowest_from
lowest_from_is p f zero q a h t = absurd (omega arith)
lowest_from_is p f (suc k) q a h t = go (λ x. lowest_from_is (suc p) f k q x (omega arith) t) (T_dec (f p))
  where
    go : (suc p ≤ q → (suc p ≤ lowest_from (suc p) f k) × (lowest_from (suc p) f k < suc p + k) × T (f (lowest_from (suc p) f k))
        × ((r : ℕ) → suc p ≤ r → T (f r) → lowest_from (suc p) f k ≤ r))
        → T (f p) ⊎ T (not (f p))
        → (p ≤ lowest_from p f (suc k)) × (lowest_from p f (suc k) < p + suc k) × T (f (lowest_from p f (suc k))) × ((r : ℕ) → p ≤ r → T (f r) → lowest_from p f (suc k) ≤ r)
    go ih (inl u) =
        let e : lowest_from p f (suc k) ≡ p = pick_true (f p) p (lowest_from (suc p) f k) u in
        (omega arith, omega arith, subst (λ (x : ℕ). T (f x)) (sym e) u, λ r b v. omega arith)
    go ih (inr u) =
        let e : lowest_from p f (suc k) ≡ lowest_from (suc p) f k = pick-false (f p) p (lowest_from (suc p) f k) u in
        let ne : (r : ℕ) → T (f r) → p ≢ r = λ r v w. T_not (f p) u (subst (λ (x : ℕ). T (f x)) (sym w) v) in
        let d : p ≢ q = ne q t in
        let ir = ih (omega arith) in
        (omega arith, omega arith, subst (λ (x : ℕ). T (f x)) (sym e) ir.2, λ r b v. let d' : p ≢ r = ne r v in omega (arith, ir.3 r (omega arith) v))

pub lowest_is : (f : ℕ → Bool) (k q : ℕ) → q < k → T (f q) → Lowest f k (lowest f k)
unfolding lowest
lowest_is f k q h t = let r = lowest_from_is 0 f k q zero-le (omega arith) t in record { below = omega arith; is = r.2; least = λ x u. r.3 x zero-le u }

-- ---- the list

pub among_nil : {x : ℕ} → Among x [] → ⊥
among_nil h = elim h [ ]

pub among_cons : {x y : ℕ} {ys : List ℕ} → Among x (y ∷ ys) → (x ≡ y) ⊎ Among x ys
among_cons (first e) = inl e
among_cons (later a) = inr a

module _ (f : ℕ → Bool) where
  cons_or : (p : ℕ) (l : List ℕ) (q : ℕ) → Among q (pick (f p) (p ∷ l) l) ↔ (((q ≡ p) × T (f p)) ⊎ Among q l)
  cons_or p l q = go (f p)
    where
      go : (b : Bool) → Among q (pick b (p ∷ l) l) ↔ (((q ≡ p) × T b) ⊎ Among q l)
      go true = (λ a. ⊎_elim (λ e. inl (e, tt)) (λ x. inr x) (among_cons a), ⊎_elim (λ e. first e.0) (λ x. later x))
      go false = (λ a. inr a, ⊎_elim (λ e. absurd e.1) (λ x. x))

  among_list_from : (p k q : ℕ) → p ≤ q → q < p + k → T (f q) → Among q (list_from p f k)
  unfolding list_from
  among_list_from p zero q a h t = absurd (omega arith)
  among_list_from p (suc k) q a h t = (cons_or p (list_from (suc p) f k) q).1 (go (λ x. among_list_from (suc p) k q x (omega arith) t) (ℕ_discrete q p))
    where
      go : (suc p ≤ q → Among q (list_from (suc p) f k)) → Dec (q ≡ p) → ((q ≡ p) × T (f p)) ⊎ Among q (list_from (suc p) f k)
      go ih (yes e) = inl (e, subst (λ (x : ℕ). T (f x)) e t)
      go ih (no d) = inr (ih (omega arith))

  of-list_from : (p k q : ℕ) → Among q (list_from p f k) → (p ≤ q) × (q < p + k) × T (f q)
  unfolding list_from
  of-list_from p zero q a = absurd (among_nil a)
  of-list_from p (suc k) q a = go (λ x. of-list_from (suc p) k q x) ((cons_or p (list_from (suc p) f k) q).0 a)
    where
      go : (Among q (list_from (suc p) f k) → (suc p ≤ q) × (q < suc p + k) × T (f q)) → ((q ≡ p) × T (f p)) ⊎ Among q (list_from (suc p) f k) → (p ≤ q) × (q < p + suc k) × T (f q)
      go ih (inl e) = let h = e.0 in (omega arith, omega arith, subst (λ (x : ℕ). T (f x)) (sym h) e.1)
      go ih (inr x) = let r = ih x in (omega arith, omega arith, r.2)

  -- `list f k` has exactly the numbers below k with f
  pub among_list : (k q : ℕ) → Among q (list f k) ↔ ((q < k) × T (f q))
  unfolding list
  among_list k q = (λ a. let r = of-list_from 0 k q a in (omega arith, r.2), λ h. let l = h.0 in among_list_from 0 k q zero-le (omega arith) h.1)

  -- it is ascending
  ascending_list_from : (p k : ℕ) → Ascending (list_from p f k)
  unfolding list_from
  ascending_list_from p zero = nil
  ascending_list_from p (suc k) = go (f p) (ascending_list_from (suc p) k)
    where
      on : (l : List ℕ) → ((q : ℕ) → Among q l → p < q) → Ascending l → Ascending (p ∷ l)
      on [] h a = one
      on (q ∷ l) h a = more (h q (first refl)) a

      go : (b : Bool) → Ascending (list_from (suc p) f k) → Ascending (pick b (p ∷ list_from (suc p) f k) (list_from (suc p) f k))
      go true a = on (list_from (suc p) f k) (λ q m. (of-list_from (suc p) k q m).0) a
      go false a = a

  pub ascending_list : (k : ℕ) → Ascending (list f k)
  unfolding list
  ascending_list k = ascending_list_from 0 k

-- ---- sums

pub sum_cong : (f g : ℕ → ℕ) (k : ℕ) → ((p : ℕ) → p < k → f p ≡ g p) → sum f k ≡ sum g k
unfolding sum
sum_cong f g zero h = refl
sum_cong f g (suc k) h = ap₂ (λ (x y : ℕ). x + y) (sum_cong f g k (λ p l. h p (omega arith))) (h k (le_refl (suc k)))

-- two sums that differ in one place
pub sum_change : (f g : ℕ → ℕ) (k q : ℕ) → q < k → ((p : ℕ) → p < k → p ≢ q → f p ≡ g p) → sum f k + g q ≡ sum g k + f q
unfolding sum
sum_change f g zero q l h = absurd (not-suc-le-zero l)
sum_change f g (suc k) q l h = go (λ m. sum_change f g k q m (λ p x d. h p (omega arith) d)) (ℕ_discrete k q)
  where
    go : (q < k → sum f k + g q ≡ sum g k + f q) → Dec (k ≡ q) → sum f k + f k + g q ≡ sum g k + g k + f q
    go ih (yes e) =
        let a : sum f k ≡ sum g k = sum_cong f g k (λ p x. h p (omega arith) (λ y. absurd (let w = y in omega arith))) in
        let c : f k ≡ f q = ap f e in
        let d : g k ≡ g q = ap g e in
        omega arith
    go ih (no d) = let a = ih (omega arith) in let c = h k (le_refl (suc k)) d in omega arith

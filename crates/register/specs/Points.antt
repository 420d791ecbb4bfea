-- How many lines behind the first a test holds of: the point at which a halving ends.
use Rattle.register.specs.Lines.{IsLines, line_at}
use Rattle.register.specs.Order.{used_down}
use Rattle.std.specs.Prelude.{◌≡◌, refl, Bool, true, false, List, [], ℕ, ◌+◌, ◌-◌, ◌≤◌, ◌<◌, length, get_or, take, drop}
use Rattle.std.specs.List.Sorted.{IsPartitionedBy, IsPartitionPoint}
use Rattle.std.proofs.Common.{sym, ap, ◌∙◌, subst, ⊎_elim, arith, length-drop}
use Rattle.std.proofs.lemmas.List.{get_or-drop, get_or-take, length-take-le}
use Rattle.rules.specs.Limits.{lines}
use Rattle.rules.specs.Register.{number_at, Ordered}
use Rattle.laws.specs.Numbers.{lt_or}

-- behind line 0 the test holds of used lines alone, the first of them
pub record Fronts (l : List ℕ) (p : List ℕ → Bool) : Type 0 where
  pub used : (i : ℕ) → 0 < i → i < lines → p (line_at l i) ≡ true → 0 < number_at l i
  pub down : (i j : ℕ) → 0 < i → i ≤ j → j < lines → p (line_at l j) ≡ true → p (line_at l i) ≡ true

-- it holds of r of them
pub record PointSaid (l : List ℕ) (p : List ℕ → Bool) (r : ℕ) : Type 0 where
  pub most : r ≤ 1023
  pub front : (i : ℕ) → 0 < i → i ≤ r → p (line_at l i) ≡ true
  pub rest : (i : ℕ) → r < i → i < lines → p (line_at l i) ≡ false

is_false : (b : Bool) → (b ≡ true → ⊥) → b ≡ false
is_false true d = absurd (d refl)
is_false false d = refl

-- the k lines behind the first are halved, and the next of them, if there is one, is unused
module _ {l : List ℕ} {xs : List (List ℕ)} (v : IsLines l xs) (k : ℕ) (h : k < lines) where
  abbrev part : List (List ℕ)
  part = take k (drop 1 xs)

  size : length part ≡ k
  size = length-take-le k (drop 1 xs) (omega (arith, length-drop 1 xs, v.size))

  line : (i : ℕ) (d : List ℕ) → i < k → get_or part i d ≡ line_at l (1 + i)
  line i d g = get_or-take k (drop 1 xs) i d g ∙ get_or-drop 1 xs i d ∙ v.at (1 + i) d (omega arith)

  pub point_said : {p : List ℕ → Bool} {r : ℕ} → Ordered l → (1 + k < lines → get_or (get_or xs (1 + k) []) 2 0 ≡ 0) → r ≤ length part
      → (IsPartitionedBy p part → IsPartitionPoint (λ y. p y ≡ true) (λ y. p y ≡ false) part r) → Fronts l p → PointSaid l p r
  point_said {p} {r} o u b w f = record {
    most = omega (arith, size);
    front = λ i a c. at true i a (omega (arith, size)) ((w parted).0 (i - 1) [] (omega arith) (omega arith));
    rest = λ i a c. ⊎_elim (λ g. at false i (omega arith) g ((w parted).1 (i - 1) [] (omega arith) (omega (arith, size)))) (λ g. unused i g c) (lt_or i (1 + k));
  }
    where
      parted : IsPartitionedBy p part
      parted i j d a c e =
          subst (λ (x : List ℕ). p x ≡ true) (sym (line i d (omega (arith, size))))
          (f.down (1 + i) (1 + j) (omega arith) (omega arith) (omega (arith, size)) (subst (λ (x : List ℕ). p x ≡ true) (line j d (omega (arith, size))) e))

      at : (t : Bool) (i : ℕ) → 0 < i → i < 1 + k → p (get_or part (i - 1) []) ≡ t → p (line_at l i) ≡ t
      at t i a c e =
          let x : 1 + (i - 1) ≡ i = omega arith in
          ap p (ap (line_at l) (sym x) ∙ sym (line (i - 1) [] (omega arith))) ∙ e

      unused : (i : ℕ) → 1 + k ≤ i → i < lines → p (line_at l i) ≡ false
      unused i a c = is_false (p (line_at l i)) (λ t.
          let n = f.used i (omega arith) c t in
          let m : 0 < number_at l (1 + k) = used_down l o (1 + k) i a n in
          omega (arith, u (omega arith), m, ap (λ (x : List ℕ). get_or x 2 0) (v.at (1 + k) [] (omega arith))))

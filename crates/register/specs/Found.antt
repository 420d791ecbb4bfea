-- The line where a pair stands or would stand: the first that is unused or not before it.
use Rattle.register.specs.Order.{number_past, used_down, order_up}
use Rattle.register.specs.Adds.{and_on, and_off, and_off_2}
use Rattle.std.specs.Prelude.{◌≡◌, ◌⊎◌, Bool, true, false, List, ltb}
use Rattle.std.proofs.Math.Path.{refl, ap}
use Rattle.std.proofs.Common.{sym, ◌∙◌, subst, inl, inr, arith, le_refl, lt-ltb, le-ltb}
use Rattle.std.proofs.Math.Logic.{⊎_elim}
use Prim.Native.Nat.{ℕ, zero, suc, ◌+◌, ◌≤◌, ◌<◌}
use Rattle.rules.specs.Tests.{pick}
use Rattle.rules.specs.Limits.{lines}
use Rattle.rules.specs.Register.{seat_at, piece_at, number_at, order, order_at, Ordered, is_before, line_from, line_of}
use Rattle.laws.specs.Numbers.{eq_or, lt_or}

-- r is that line
pub record Found (l : List ℕ) (s p r : ℕ) : Type 0 where
  pub most : r ≤ lines
  pub before : (i : ℕ) → i < r → (0 < number_at l i) × (order_at l i < order s p)
  pub here : 0 < number_at l r → order s p ≤ order_at l r

-- the first u lines are used and the next is not
pub record Used (l : List ℕ) (u : ℕ) : Type 0 where
  pub most : u ≤ lines
  pub before : (i : ℕ) → i < u → 0 < number_at l i
  pub here : number_at l u ≡ 0

module _ (l : List ℕ) (o : Ordered l) (s p : ℕ) where
  -- the lines below k are all before the pair, or one of them is found
  scanned : (k : ℕ) → k ≤ lines → ((i : ℕ) → i < k → (0 < number_at l i) × (order_at l i < order s p)) ⊎ ((r : ℕ) × Found l s p r)
  scanned zero h = inl (λ i u. absurd (omega arith))
  scanned (suc k) h = ⊎_elim (λ all. go all (lt_or 0 (number_at l k)) (lt_or (order_at l k) (order s p))) (λ r. inr r) (scanned k (omega arith))
    where
      go : ((i : ℕ) → i < k → (0 < number_at l i) × (order_at l i < order s p)) → (0 < number_at l k) ⊎ (number_at l k ≤ 0) → (order_at l k < order s p) ⊎ (order s p ≤ order_at l k)
          → ((i : ℕ) → i < suc k → (0 < number_at l i) × (order_at l i < order s p)) ⊎ ((r : ℕ) × Found l s p r)
      go all (inl u) (inl v) = inl (λ i x. ⊎_elim (λ e. subst (λ (j : ℕ). (0 < number_at l j) × (order_at l j < order s p)) (sym e) (u, v)) (λ d. all i (omega (arith, d))) (eq_or i k))
      go all (inl u) (inr v) = inr (k, record { most = omega arith; before = all; here = λ w. v })
      go all (inr u) v = inr (k, record { most = omega arith; before = all; here = λ w. absurd (omega arith) })

  -- there is one
  some_found : (r : ℕ) × Found l s p r
  some_found =
      ⊎_elim
      (λ all. (lines, record { most = le_refl lines; before = all; here = λ u. absurd (omega (arith, number_past l o.size lines (le_refl lines))) }))
      (λ r. r)
      (scanned lines (le_refl lines))

  -- no line before it is the one looked for, and it is
  line_on : (i k : ℕ) → is_before l (order s p) i ≡ true → line_from l (order s p) i (suc k) ≡ line_from l (order s p) (suc i) k
  unfolding line_from
  line_on i k e = ap (λ (b : Bool). pick b (line_from l (order s p) (suc i) k) i) e

  line_here : (i k : ℕ) → is_before l (order s p) i ≡ false → line_from l (order s p) i k ≡ i
  unfolding line_from
  line_here i zero e = refl
  line_here i (suc k) e = ap (λ (b : Bool). pick b (line_from l (order s p) (suc i) k) i) e

  line_end : (i : ℕ) → line_from l (order s p) i 0 ≡ i
  unfolding line_from
  line_end i = refl

  module _ (r : ℕ) (f : Found l s p r) where
    before_on : (i : ℕ) → i < r → is_before l (order s p) i ≡ true
    unfolding is_before
    before_on i h = and_on (lt-ltb 0 (number_at l i) (f.before i h).0) (lt-ltb (order_at l i) (order s p) (f.before i h).1)

    before_off : is_before l (order s p) r ≡ false
    unfolding is_before
    before_off =
        ⊎_elim
        (λ u. and_off_2 (ltb 0 (number_at l r)) (le-ltb (order_at l r) (order s p) (f.here u)))
        (λ u. and_off (ltb (order_at l r) (order s p)) (le-ltb 0 (number_at l r) u))
        (lt_or 0 (number_at l r))

    line_from_lem : (i k : ℕ) → i ≤ r → r ≤ i + k → line_from l (order s p) i k ≡ r
    line_from_lem i zero h g = let x : i ≡ r = omega arith in line_end i ∙ x
    line_from_lem i (suc k) h g =
        ⊎_elim
        (λ u. line_on i k (before_on i u) ∙ line_from_lem (suc i) k u (omega arith))
        (λ u. let x : r ≡ i = omega arith in line_here i (suc k) (subst (λ (j : ℕ). is_before l (order s p) j ≡ false) x before_off) ∙ sym x)
        (lt_or i r)

  pub found_line : (r : ℕ) → Found l s p r → line_of l s p ≡ r
  unfolding line_of
  found_line r f = line_from_lem r f 0 lines (omega arith) (omega (arith, f.most))

  pub line_found : Found l s p (line_of l s p)
  line_found = subst (λ (r : ℕ). Found l s p r) (sym (found_line some_found.0 some_found.1)) some_found.1

  -- if the pair has a line, it is this one
  pub found_is : (r i : ℕ) → Found l s p r → 0 < number_at l i → seat_at l i ≡ s → piece_at l i ≡ p → i ≡ r
  found_is r i f u a b =
      ⊎_elim
      (λ h. absurd (omega (arith, (f.before i h).1)))
      (λ h. ⊎_elim (λ k. absurd (omega (arith, f.here (used_down l o r i h u), order_up l o r i k u))) (λ k. omega arith) (lt_or r i))
      (lt_or i r)

-- The numbers of the picked lines added up: in an ordered register a sum over all lines.
use Rattle.register.specs.Sums.{sum-none, sum_same}
use Rattle.register.specs.Order.{used_down}
use Rattle.register.specs.Adds.{adds_none, adds_some}
use Rattle.std.specs.Prelude.{◌≡◌, ◌⊎◌, Bool, List, eqb}
use Rattle.std.proofs.Math.Path.{refl}
use Rattle.std.proofs.Common.{ap, inl, inr, ⊎_elim, arith, eq-eqb, ne_eqb}
use Rattle.std.proofs.Math.Bool.{true, false}
use Prim.Native.Nat.{ℕ, zero, suc, ◌+◌, ◌≤◌, ◌<◌}
use Rattle.rules.specs.Tests.{pick}
use Rattle.rules.specs.Limits.{lines}
use Rattle.rules.specs.Register.{seat_at, piece_at, number_at, Ordered, adds, total_from, total}
use Rattle.rules.specs.Below.{sum}
use Rattle.laws.specs.Below.{sum-next}
use Rattle.laws.specs.Numbers.{eq_or, lt_or}

module _ (f : ℕ → ℕ → Bool) (l : List ℕ) where
  chosen : (b c : Bool) (x y : ℕ) → b ≡ c → pick b x y ≡ pick c x y
  chosen b c x y e = ap (λ (a : Bool). pick a x y) e

  -- an unused line ends the sum
  pub total-ends : (i k : ℕ) → number_at l i ≡ 0 → total_from f l i k ≡ 0
  unfolding total_from
  total-ends i zero e = refl
  total-ends i (suc k) e = chosen (eqb (number_at l i) 0) true 0 (adds f l i + total_from f l (suc i) k) (eq-eqb (number_at l i) 0 e)

  -- a used one adds its number
  pub total_goes : (i k : ℕ) → (number_at l i ≡ 0 → ⊥) → total_from f l i (suc k) ≡ adds f l i + total_from f l (suc i) k
  unfolding total_from
  total_goes i k d = chosen (eqb (number_at l i) 0) false 0 (adds f l i + total_from f l (suc i) k) (ne_eqb (number_at l i) 0 d)

  pub total-none : (i : ℕ) → total_from f l i 0 ≡ 0
  unfolding total_from
  total-none i = refl

  -- ---- a sum over all lines

  module _ (later : (i j : ℕ) → i ≤ j → number_at l i ≡ 0 → number_at l j ≡ 0) where
    sum_from : (i k : ℕ) → total_from f l i k + sum (adds f l) i ≡ sum (adds f l) (i + k)
    sum_from i zero = let x : i ≡ i + 0 = omega arith in omega (arith, total-none i, ap (sum (adds f l)) x)
    sum_from i (suc k) = go (sum_from (suc i) k) (eq_or (number_at l i) 0)
      where
        go : total_from f l (suc i) k + sum (adds f l) (suc i) ≡ sum (adds f l) (suc i + k) → (number_at l i ≡ 0) ⊎ (number_at l i ≡ 0 → ⊥)
            → total_from f l i (suc k) + sum (adds f l) i ≡ sum (adds f l) (i + suc k)
        go q (inl e) = omega (arith, total-ends i (suc k) e, sum_same (adds f l) i (i + suc k) (omega arith) (λ j g h. adds_none f l j (later i j g e)))
        go q (inr d) =
            let x : suc i ≡ i + 1 = omega arith in
            let y : suc i + k ≡ i + suc k = omega arith in
            omega (arith, q, total_goes i k d, sum-next (adds f l) i, ap (sum (adds f l)) x, ap (sum (adds f l)) y)

    pub total-all : total f l ≡ sum (adds f l) lines
    unfolding total
    total-all = omega (arith, sum_from 0 lines, sum-none (adds f l))

  pub total-sum : Ordered l → total f l ≡ sum (adds f l) lines
  total-sum o = total-all (λ i j h e. ⊎_elim (λ u. absurd (omega (arith, used_down l o i j h u))) (λ u. omega arith) (lt_or 0 (number_at l j)))

  -- ---- whatever the register

  some_from : (i k : ℕ) → 0 < total_from f l i k → (j : ℕ) × (0 < number_at l j) × (f (seat_at l j) (piece_at l j) ≡ true)
  some_from i zero h = absurd (omega (arith, total-none i))
  some_from i (suc k) h = go (λ u. some_from (suc i) k u) (eq_or (number_at l i) 0) (lt_or 0 (adds f l i))
    where
      go : (0 < total_from f l (suc i) k → (j : ℕ) × (0 < number_at l j) × (f (seat_at l j) (piece_at l j) ≡ true)) → (number_at l i ≡ 0) ⊎ (number_at l i ≡ 0 → ⊥)
          → (0 < adds f l i) ⊎ (adds f l i ≤ 0) → (j : ℕ) × (0 < number_at l j) × (f (seat_at l j) (piece_at l j) ≡ true)
      go next (inl e) w = absurd (omega (arith, total-ends i (suc k) e))
      go next (inr d) (inl u) = let x = adds_some f l i u in (i, x.1, x.0)
      go next (inr d) (inr u) = next (omega (arith, total_goes i k d))

  -- a sum above 0 has a line that is picked
  pub total_some : 0 < total f l → (j : ℕ) × (0 < number_at l j) × (f (seat_at l j) (piece_at l j) ≡ true)
  unfolding total
  total_some h = some_from 0 lines h

-- where every line adds at most as much, so do all
module _ (f g : ℕ → ℕ → Bool) (l : List ℕ) (h : (i : ℕ) → adds f l i ≤ adds g l i) where
  most_from : (i k : ℕ) → total_from f l i k ≤ total_from g l i k
  most_from i zero = omega (arith, total-none f l i)
  most_from i (suc k) = go (most_from (suc i) k) (eq_or (number_at l i) 0)
    where
      go : total_from f l (suc i) k ≤ total_from g l (suc i) k → (number_at l i ≡ 0) ⊎ (number_at l i ≡ 0 → ⊥) → total_from f l i (suc k) ≤ total_from g l i (suc k)
      go q (inl e) = omega (arith, total-ends f l i (suc k) e)
      go q (inr d) = omega (arith, total_goes f l i k d, total_goes g l i k d, h i)

  pub total-most : total f l ≤ total g l
  unfolding total
  total-most = most_from 0 lines

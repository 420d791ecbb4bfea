-- The holds of a piece are the holds of the seats on it, added up.
use Rattle.register.specs.Sums.{sum-zero, sum_only}
use Rattle.register.specs.Adds.{pair_off, adds_off}
use Rattle.register.specs.Totals.{total-none, total-ends, total_goes}
use Rattle.std.specs.Prelude.{◌≡◌, refl, ◌⊎◌, Bool, List, ℕ, zero, suc, ◌+◌, ◌<◌}
use Rattle.std.proofs.Common.{sym, ap, ◌∙◌, inl, inr, arith, eq-eqb}
use Rattle.std.proofs.Math.Dec.{eqb}
use Rattle.rules.specs.Tests.{◌&◌, only_if}
use Rattle.rules.specs.Limits.{seats, lines}
use Rattle.rules.specs.Register.{seat_at, piece_at, number_at, Right, adds, total_from, total, pair, held_by, held_in}
use Rattle.rules.specs.Below.{sum}
use Rattle.laws.specs.Below.{sum_cong}
use Rattle.laws.specs.Numbers.{eq_or}

-- two sums in one
pub sum_both : (f g : ℕ → ℕ) (k : ℕ) → sum (λ i. f i + g i) k ≡ sum f k + sum g k
unfolding sum
sum_both f g zero = refl
sum_both f g (suc k) = omega (arith, sum_both f g k)

module _ (l : List ℕ) (p : ℕ) (below : (i : ℕ) → 0 < number_at l i → seat_at l i < seats) where
  -- a used line counts for its own seat alone
  line_seat : (i : ℕ) → 0 < number_at l i → sum (λ s. adds (pair s p) l i) seats ≡ adds (λ t q. eqb q p) l i
  line_seat i u =
      sum_only (λ s. adds (pair s p) l i) seats (seat_at l i) (below i u)
      (λ s h d. adds_off (pair s p) l i (pair_off s p (seat_at l i) (piece_at l i) (λ x y. d (sym x))))
      ∙ (unfold adds in (ap (λ (x : Bool). only_if (x & eqb (piece_at l i) p) (number_at l i)) (eq-eqb (seat_at l i) (seat_at l i) refl)))

  seats_from : (i k : ℕ) → sum (λ s. total_from (pair s p) l i k) seats ≡ total_from (λ t q. eqb q p) l i k
  seats_from i zero = omega (arith, sum-zero (λ s. total_from (pair s p) l i 0) seats (λ s h. total-none (pair s p) l i), total-none (λ t q. eqb q p) l i)
  seats_from i (suc k) = go (seats_from (suc i) k) (eq_or (number_at l i) 0)
    where
      go : sum (λ s. total_from (pair s p) l (suc i) k) seats ≡ total_from (λ t q. eqb q p) l (suc i) k → (number_at l i ≡ 0) ⊎ (number_at l i ≡ 0 → ⊥)
          → sum (λ s. total_from (pair s p) l i (suc k)) seats ≡ total_from (λ t q. eqb q p) l i (suc k)
      go e (inl z) =
          omega (arith, sum-zero (λ s. total_from (pair s p) l i (suc k)) seats (λ s h. total-ends (pair s p) l i (suc k) z), total-ends (λ t q. eqb q p) l i (suc k) z)
      go e (inr d) =
          let x = sum_cong (λ s. total_from (pair s p) l i (suc k)) (λ s. adds (pair s p) l i + total_from (pair s p) l (suc i) k) seats (λ s h. total_goes (pair s p) l i k d) in
          let y = sum_both (λ s. adds (pair s p) l i) (λ s. total_from (pair s p) l (suc i) k) seats in
          omega (arith, e, x, y, line_seat i (omega (arith, d)), total_goes (λ t q. eqb q p) l i k d)

pub held_in_seats : {n : ℕ} {l : List ℕ} → Right n l → (p : ℕ) → sum (λ i. held_by l i p) seats ≡ held_in l p
unfolding total
held_in_seats {l = l} r p = seats_from l p r.seats 0 lines

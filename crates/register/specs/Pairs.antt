-- The holds of a pair are the number in its line, and part of the holds of its piece.
use Rattle.register.specs.Sums.{sum_only}
use Rattle.register.specs.Order.{used_below, one_line}
use Rattle.register.specs.Adds.{pair_on, pair_off, pair-told, adds_on, adds_off, adds_none}
use Rattle.register.specs.Totals.{total-sum, total_some, total-most}
use Rattle.std.specs.Prelude.{◌≡◌, ◌⊎◌, Bool, true, false, List, ℕ, ◌≤◌, ◌<◌, eqb}
use Rattle.std.proofs.Common.{◌∙◌, inl, inr, zero-le, arith, le_refl}
use Rattle.rules.specs.Tests.{◌&◌, only_if}
use Rattle.rules.specs.Limits.{lines}
use Rattle.rules.specs.Register.{seat_at, piece_at, number_at, Ordered, adds, pair, held_by, held_in}
use Rattle.laws.specs.Numbers.{eq_or}

module _ (l : List ℕ) (s p : ℕ) where
  pub held_by_some : 0 < held_by l s p → (i : ℕ) × (0 < number_at l i) × (seat_at l i ≡ s) × (piece_at l i ≡ p)
  held_by_some h =
      let w = total_some (pair s p) l h in
      let e = pair-told s p (seat_at l w.0) (piece_at l w.0) w.2 in
      (w.0, w.1, e.0, e.1)

  pub held_by_line : Ordered l → (i : ℕ) → 0 < number_at l i → seat_at l i ≡ s → piece_at l i ≡ p → held_by l s p ≡ number_at l i
  held_by_line o i u a b =
      total-sum (pair s p) l o
      ∙ sum_only (adds (pair s p) l) lines i (used_below l o i u) (λ j h d. go j d (eq_or (number_at l j) 0))
      ∙ adds_on (pair s p) l i (pair_on s p (seat_at l i) (piece_at l i) a b)
    where
      go : (j : ℕ) → (j ≡ i → ⊥) → (number_at l j ≡ 0) ⊎ (number_at l j ≡ 0 → ⊥) → adds (pair s p) l j ≡ 0
      go j d (inl e) = adds_none (pair s p) l j e
      go j d (inr n) = adds_off (pair s p) l j (pair_off s p (seat_at l j) (piece_at l j) (λ x y. d (one_line l o j i (omega (arith, n)) u (omega arith))))

-- a pair's holds are part of its piece's holds
pub held_by_in : (l : List ℕ) (s p : ℕ) → held_by l s p ≤ held_in l p
unfolding adds
held_by_in l s p = total-most (pair s p) (λ t q. eqb q p) l (λ i. go (eqb (seat_at l i) s) (eqb (piece_at l i) p) (number_at l i))
  where
    go : (a b : Bool) (k : ℕ) → only_if (a & b) k ≤ only_if b k
    go true b k = le_refl (only_if b k)
    go false b k = zero-le

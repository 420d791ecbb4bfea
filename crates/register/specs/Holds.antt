-- The holds of a piece and the lines that name it.
use Rattle.register.specs.Order.{used_below}
use Rattle.register.specs.Adds.{adds_on}
use Rattle.register.specs.Totals.{total-sum, total_some}
use Rattle.std.specs.Prelude.{◌≡◌, refl, List, ℕ, ◌≤◌, ◌<◌, eqb}
use Rattle.std.proofs.Common.{ap, arith, eq-eqb, eqb-true}
use Rattle.rules.specs.Limits.{lines}
use Rattle.rules.specs.Register.{piece_at, number_at, Ordered, adds, held_in}
use Rattle.laws.specs.Kept.{sum_term}

-- a line's number is part of its piece's holds
pub held-line : (l : List ℕ) → Ordered l → (i : ℕ) → 0 < number_at l i → number_at l i ≤ held_in l (piece_at l i)
held-line l o i u =
    omega (
      arith,
      total-sum (λ t q. eqb q (piece_at l i)) l o,
      sum_term (adds (λ t q. eqb q (piece_at l i)) l) lines i (used_below l o i u),
      adds_on (λ t q. eqb q (piece_at l i)) l i (eq-eqb (piece_at l i) (piece_at l i) refl),
    )

-- a piece with holds is named by a line
pub held_some : (l : List ℕ) (p : ℕ) → 0 < held_in l p → (i : ℕ) × (0 < number_at l i) × (piece_at l i ≡ p)
held_some l p h = let w = total_some (λ t q. eqb q p) l h in (w.0, w.1, eqb-true (piece_at l w.0) p w.2)

-- a piece without holds has no line
pub held_none : (l : List ℕ) (p : ℕ) → Ordered l → held_in l p ≡ 0 → (i : ℕ) → 0 < number_at l i → piece_at l i ≡ p → ⊥
held_none l p o e i u x = omega (arith, held-line l o i u, ap (held_in l) x)

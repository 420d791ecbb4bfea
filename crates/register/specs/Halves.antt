-- What the tests on one line say.
use Rattle.register.specs.Order.{number_past}
use Rattle.register.specs.Adds.{and_parts}
use Rattle.register.specs.Has.{has_on, has_off}
use Rattle.laws.specs.Numbers.{lt_or}
use Rattle.register.specs.Lines.{line_at}
use Rattle.std.specs.Prelude.{◌≡◌, Bool, true, false, List, ℕ, ◌≤◌, ◌<◌, length, get_or}
use Rattle.std.proofs.Math.Path.{refl, sym, ap}
use Rattle.std.proofs.Common.{◌∙◌, ⊎_elim, arith}
use borrow.Author.Tests.{ltb-true}
use Rattle.std.proofs.Math.Dec.{ltb}
use Rattle.rules.specs.Tests.{only_if}
use Rattle.rules.specs.Limits.{lines, entries}
use Rattle.rules.specs.Register.{number_at, order_at, is_before, has_line}

abbrev first : List ℕ → ℕ
first x = get_or x 0 0

abbrev second : List ℕ → ℕ
second x = get_or x 1 0

abbrev third : List ℕ → ℕ
third x = get_or x 2 0

none : (b : Bool) {k : ℕ} → k ≡ 0 → only_if b k ≡ 0
none true e = e
none false e = refl

module _ (l : List ℕ) (i : ℕ) where
  -- ---- before a pair

  pub before_true : (k : ℕ) → is_before l k i ≡ true → (0 < number_at l i) × (order_at l i < k)
  unfolding is_before
  before_true k e = let w = and_parts (ltb 0 (number_at l i)) (ltb (order_at l i) k) e in (ltb-true 0 (number_at l i) w.0, ltb-true (order_at l i) k w.1)

  -- ---- the number of a pair's line

  module _ (s p : ℕ) where
    pub number_none : length l ≡ entries → lines ≤ i → 0 ≡ only_if (has_line l i s p) (number_at l i)
    number_none z h = sym (none (has_line l i s p) (number_past l z i h))

    module _ {x : List ℕ} (e : x ≡ line_at l i) where
      pub number_same : get_or x 0 0 ≡ s → get_or x 1 0 ≡ p → get_or x 2 0 ≡ only_if (has_line l i s p) (number_at l i)
      number_same a b = ⊎_elim
          (λ u. ap third e ∙ sym (ap (λ (b : Bool). only_if b (number_at l i)) (has_on l i s p u (sym (ap first e) ∙ a) (sym (ap second e) ∙ b))))
          (λ u. let v : number_at l i ≡ 0 = omega arith in ap third e ∙ v ∙ sym (none (has_line l i s p) v))
          (lt_or 0 (number_at l i))

      pub other_seat : (get_or x 0 0 ≡ s → ⊥) → 0 ≡ only_if (has_line l i s p) (number_at l i)
      other_seat f = ap (λ (b : Bool). only_if b (number_at l i)) (sym (has_off l i s p (λ u a b. f (ap first e ∙ a))))

      pub other_piece : (get_or x 1 0 ≡ p → ⊥) → 0 ≡ only_if (has_line l i s p) (number_at l i)
      other_piece f = ap (λ (b : Bool). only_if b (number_at l i)) (sym (has_off l i s p (λ u a b. f (ap second e ∙ b))))

pub ruleset number_laws = (number_none, number_same, other_seat, other_piece)

-- Whether the holds are those of the register: each compared with what was added up.
use Rattle.register.specs.Folds.{every_same, all_same, same_every}
use Rattle.register.specs.Judged.{RightSaid}
use Rattle.std.specs.Prelude.{◌≡◌, Bool, true, List, ℕ, ◌≤◌, eqb, length}
use Rattle.std.proofs.Common.{sym, ap, ◌∙◌, arith}
use Rattle.rules.specs.Tests.{◌&◌}
use Rattle.rules.specs.Lists.{◌!◌}
use Rattle.rules.specs.Below.{every}
use Rattle.rules.specs.Register.{is_right, held_in}
use Rattle.tallies.specs.Adding.{LaterSame}

module _ {n : ℕ} {l w₀ w₁ : List ℕ} {b : Bool} (s : RightSaid n l w₀ w₁ b) where
  pub right_agreed : (holds : List ℕ) {r : Bool} → length holds ≡ n → n ≤ length w₀ → b ≡ true → r ≡ all_same holds w₁
      → r ≡ (is_right n l & every (λ p. eqb (holds ! p) (held_in l p)) n)
  right_agreed holds h g t e =
      e
      ∙ same_every holds w₁ h (omega (arith, s.size))
      ∙ every_same (λ p. eqb (holds ! p) (w₁ ! p)) (λ p. eqb (holds ! p) (held_in l p)) n (λ p u. ap (eqb (holds ! p)) (s.held t p u))
      ∙ ap (λ (x : Bool). x & every (λ p. eqb (holds ! p) (held_in l p)) n) (sym t ∙ s.says)

-- behind the sums work is as it was
pub agreed_later : {n : ℕ} {l w w₁ : List ℕ} {b : Bool} → RightSaid n l w w₁ b → LaterSame n w w₁
agreed_later s = record { size = s.size; later = s.later }

-- Faults counted over all pieces: none exactly if every piece is right.
use Rattle.std.specs.Prelude.{◌≡◌, ℕ, ◌≤◌}

-- r is 0 exactly if P holds, and at most k
pub record Faults (P : Type 0) (k r : ℕ) : Type 0 where
  pub most : r ≤ k
  pub right : r ≡ 0 → P
  pub none : P → r ≡ 0

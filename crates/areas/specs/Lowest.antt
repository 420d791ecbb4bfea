-- The lowest free number of a table of states.
use Rattle.std.specs.Prelude.{◌≡◌, List, ℕ, ◌≤◌, ◌<◌, get_or}

-- no number below `from` is free
abbrev pub NoneFree : List ℕ → ℕ → Type 0
NoneFree states from = (q : ℕ) → q < from → get_or states q 0 ≡ 0 → ⊥

-- r is free, or n where no number is, and none below it is free
pub record LowestFree (n : ℕ) (states : List ℕ) (r : ℕ) : Type 0 where
  pub most : r ≤ n
  pub before : NoneFree states r
  pub is : r < n → get_or states r 0 ≡ 0

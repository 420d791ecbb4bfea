-- One piece put at the tail of the queue, which is the front of the entries; a draft that stands there has a leader, any.
use Rattle.std.specs.Prelude.{◌≡◌, List, ℕ, ◌+◌, ◌≤◌, ◌<◌, length, set}
use Rattle.rules.specs.Lists.{◌!◌}
use Rattle.rules.specs.Limits.{none}

-- t is a draft that does not stand in the queue
pub record Ungathered (n : ℕ) (states leaders : List ℕ) (t : ℕ) : Type 0 where
  pub below : t < n
  pub draft : states ! t ≡ 1
  pub bare : leaders ! t ≡ none

-- the areas in their lengths, and room for t
pub record Putting (n : ℕ) (states leaders entries : List ℕ) (t tail : ℕ) : Type 0 where
  pub small : n ≤ 1024
  pub states_n : length states ≡ n
  pub leaders_n : length leaders ≡ n
  pub entries_n : n ≤ length entries
  pub room : Ungathered n states leaders t → tail < n

-- it is put there if it is
pub data Put (n : ℕ) (states leaders entries : List ℕ) (t tail : ℕ) : List ℕ → List ℕ → ℕ → Type 0 where
  stayed : (Ungathered n states leaders t → ⊥) → Put n states leaders entries t tail leaders entries tail
  put : Ungathered n states leaders t → Put n states leaders entries t tail (set leaders t t) (set entries tail t) (tail + 1)

-- Entries that are all 0.
use Rattle.std.specs.Prelude.{◌≡◌, Bool, true, false, List, ℕ, ◌≤◌, ◌<◌, get_or}
use Rattle.rules.specs.Limits.{entries}

abbrev pub ZeroFrom : List ℕ → ℕ → ℕ → Type 0
ZeroFrom l a b = (k : ℕ) → a ≤ k → k < b → get_or l k 0 ≡ 0

-- r says whether the entries from a on are all 0
pub record ZeroSaid (l : List ℕ) (a : ℕ) (r : Bool) : Type 0 where
  pub yes : r ≡ true → ZeroFrom l a entries
  pub no : r ≡ false → ZeroFrom l a entries → ⊥

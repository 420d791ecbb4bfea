-- The four links of a piece as one word, the first lowest.
use Rattle.std.specs.Prelude.{◌≡◌, List, ℕ, ◌+◌, ◌*◌, ◌≤◌, ◌<◌, get_or}
use Rattle.rules.specs.Limits.{none}

-- the word of four empty links; from here on up the last three are empty; the last two
abbrev pub four_none : ℕ
four_none = 18446744073709551615

abbrev pub one_at_most : ℕ
one_at_most = 18446744073709486080

abbrev pub two_at_most : ℕ
two_at_most = 18446744069414584320

-- what the word w says of the links of p
pub record Four (links : List ℕ) (p w : ℕ) : Type 0 where
  pub empty : w ≡ four_none → (k : ℕ) → k < 4 → get_or links (4 * p + k) 0 ≡ none
  pub named : (w ≡ four_none → ⊥) → ((k : ℕ) → k < 4 → get_or links (4 * p + k) 0 ≡ none) → ⊥
  pub rest : one_at_most ≤ w → (k : ℕ) → k < 4 → 0 < k → get_or links (4 * p + k) 0 ≡ none
  pub last : two_at_most ≤ w → (k : ℕ) → k < 4 → 1 < k → get_or links (4 * p + k) 0 ≡ none

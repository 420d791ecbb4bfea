-- Words for lists of numbers.
use Rattle.std.specs.Prelude.{◌≡◌, List, [], ◌∷◌, ℕ, ◌<◌, get_or}

-- entry i of a table, and 0 past its end
infixl 90 ◌!◌
abbrev pub ◌!◌ : List ℕ → ℕ → ℕ
l ! i = get_or l i 0

-- x is one of the list
pub data Among (x : ℕ) : List ℕ → Type 0 where
  first : {y : ℕ} {ys : List ℕ} → x ≡ y → Among x (y ∷ ys)
  later : {y : ℕ} {ys : List ℕ} → Among x ys → Among x (y ∷ ys)

-- each once, lowest number first
pub data Ascending : List ℕ → Type 0 where
  nil : Ascending []
  one : {p : ℕ} → Ascending (p ∷ [])
  more : {p q : ℕ} {l : List ℕ} → p < q → Ascending (q ∷ l) → Ascending (p ∷ q ∷ l)

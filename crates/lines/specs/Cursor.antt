-- What the line cursor hands back, against the rules' words.
use Rattle.std.specs.Prelude.{List, ℕ, ◌-◌, leb, drop, Option, Some, None}
use Rattle.rules.specs.Tests.{◌&◌, pick}
use Rattle.rules.specs.Trace.{Word, is, bad, is_digit}
use Rattle.lines.specs.declared.Cursor.{Cursor}

-- a word's number, with the cursor past it; none where no word stands
abbrev pub Taken : Type 0
Taken = Option (ℕ × Cursor)

-- a digit's value, and 10 for any other byte
abbrev pub digit_of : ℕ → ℕ
digit_of b = pick (is_digit b) (b - 48) 10

-- the number v of k digits that ends before a place, where k is at most 5
abbrev pub taken_of : ℕ → ℕ → ℕ → Taken
taken_of v k at = pick (leb 1 k & leb v 65535) (Some (v, record { at = at })) None

-- the word that was taken, with what is left of the line after it
abbrev pub word_of : List ℕ → Taken → Word
word_of line (Some (p, c)) = is p (drop c.at line)
word_of line None = bad

-- the place after the word
abbrev pub place_of : Taken → ℕ
place_of (Some (p, c)) = c.at
place_of None = 0

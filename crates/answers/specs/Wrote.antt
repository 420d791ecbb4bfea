-- Bytes written into a lent room, and the lines that are written there.
use Rattle.std.specs.Prelude.{◌≡◌, List, [], ◌∷◌, ◌++◌, ℕ, zero, suc, ◌+◌, ◌*◌, ◌/◌, ◌%◌, length, take, Ok, Err}
use Rattle.std.proofs.lemmas.List.Edits.{sets}
use Rattle.rules.specs.Limits.{most, none}
use Rattle.rules.specs.Calls.{number_of}
use Rattle.rules.specs.Trace.{decimal, value_or, spaced, answer_line}
use Rattle.rules.specs.Replies.{Answer}

-- the most bytes of a line: 64, and 6 for each freed number
abbrev pub longest : ℕ
longest = 64 + 6 * most

-- bytes were written at a place, and `next` is the place after them
pub record Wrote (before : List ℕ) (at : ℕ) (bytes : List ℕ) (after : List ℕ) (next : ℕ) : Type 0 where
  pub place : next ≡ at + length bytes
  pub room : after ≡ sets before at bytes

-- the last k decimal digits of v
unfoldable pub digits_of : ℕ → ℕ → List ℕ
digits_of zero v = []
digits_of (suc k) v = digits_of k (v / 10) ++ ((48 + v % 10) ∷ [])

-- the line of an answer, whose freed numbers are the first of the list
abbrev pub line_of : Answer → List ℕ → List ℕ
line_of (Ok d) list = answer_line 0 d.value (take d.freed list)
line_of (Err r) list = answer_line (number_of r) none []

-- An accepted look gives `0`, state, leader or `-`, count, holds
abbrev pub piece_line : ℕ → ℕ → ℕ → ℕ → List ℕ
piece_line s l c h =
    decimal 0 ++ (32 ∷ (decimal s ++ (32 ∷ (value_or l ++ (32 ∷ (decimal c ++ (32 ∷ (decimal h ++ (10 ∷ [])))))))))

-- At the end: `=`, drafts, frozen pieces, groups
abbrev pub closing_line : ℕ → ℕ → ℕ → List ℕ
closing_line drafts frozen groups = 61 ∷ (spaced (drafts ∷ frozen ∷ groups ∷ []) ++ (10 ∷ []))

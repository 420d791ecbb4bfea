-- The worked trace, as one theorem over the trace definitions.
use Rattle.std.specs.Prelude.{◌≡◌, refl, List, [], ◌∷◌, ◌++◌, ℕ}
use Prim.Native.String.{String}
use Rattle.rules.specs.Texts.{bytes}
use Rattle.rules.specs.Trace.{value_or, spaced, answer_line, accepted_line, line_by, answer_to, store_after, how_many, leads, end_line, output_of, trace_at}
use Rattle.rules.specs.Grammar.{reading}
use Rattle.rules.specs.Computing.{computing}

-- each line of the trace, and the line that answers it
unfoldable pub lines : List (String × String)
lines =
    ("n", "0 0 0")
    ∷ ("n", "0 1 0")
    ∷ ("n", "0 2 0")
    ∷ ("s 0 0 1", "0 - 0")
    ∷ ("s 1 0 0", "0 - 0")
    ∷ ("s 0 1 2", "0 - 0")
    ∷ ("f 0", "0 - 0")
    ∷ ("l 1", "0 2 0 1 0")
    ∷ ("a 2", "0 - 0")
    ∷ ("r 1", "7 - 0")
    ∷ ("r 0", "0 - 2 0 1")
    ∷ ("n", "0 0 0")
    ∷ ("r 2", "0 - 1 2")
    ∷ []

-- the lines, each ended by byte 10
unfoldable pub input : List (String × String) → List ℕ
input [] = []
input (l ∷ ls) = bytes l.0 ++ (10 ∷ input ls)

-- their answers likewise, then what is left in the end
unfoldable pub output : List (String × String) → String → List ℕ
output [] end = bytes end ++ (10 ∷ [])
output (l ∷ ls) end = bytes l.1 ++ (10 ∷ output ls end)

-- the worked trace gives its output, on a store of capacity 32
pub worked : trace_at 32 (input lines) ≡ output lines "= 1 0 0"
unfolding computing reading value_or spaced answer_line accepted_line line_by answer_to store_after how_many leads end_line output_of trace_at lines input output
worked = refl

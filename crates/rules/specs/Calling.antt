-- A trace as a history: the call that each line makes, and the line that its outcome gives.
use Rattle.std.specs.Prelude.{List, [], ◌∷◌, ◌++◌, ℕ, ◌*◌, replicate, Ok, Err, Some, None}
use Rattle.rules.specs.Tests.{pick}
use Rattle.rules.specs.Limits.{none}
use Rattle.rules.specs.Tables.{Store}
use Rattle.rules.specs.Calls.{does, takes_list, Areas, areas_of, number_of, Reply, answered, saw, checked, Outcome, outcome_of}
use Rattle.rules.specs.Trace.{says, answer_line, look_line, bad_line, store_after}
use Rattle.rules.specs.History.{Event, event, listed}
use Rattle.rules.specs.declared.Command.{Command}
use Rattle.rules.specs.Replies.{Line}

-- what the call of a line is lent: the trace's store, and list and work of their least lengths
abbrev pub lent_to : Store → Command → Areas
lent_to s c = areas_of s (pick (takes_list (does c)) (replicate s.tables.base.n 0) []) (replicate (8 * s.tables.base.n) 0)

-- what comes of it
unfoldable pub came_of : Store → Command → Outcome
came_of s c = outcome_of (lent_to s c) (does c)

-- the calls with that of one more line, the newest first; a bad line makes none
unfoldable pub call_of : Store → Line → List Event → List Event
call_of s (Some c) h = event (does c) (came_of s c) ∷ h
call_of s None h = h

-- the calls of lines from store s on, after the calls h
unfoldable pub calls_of : Store → List (List ℕ) → List Event → List Event
calls_of s [] h = h
calls_of s (l ∷ ls) h = calls_of (store_after s (says l)) ls (call_of s (says l) h)

-- the store that lines leave
unfoldable pub left_by : Store → List (List ℕ) → Store
left_by s [] = s
left_by s (l ∷ ls) = left_by (store_after s (says l)) ls

-- the line that a call's outcome gives: refusal number, value or `-`, number freed, the numbers listed; of look what it saw
unfoldable pub line_in : Reply → List ℕ → List ℕ
line_in (answered (Ok d)) freed = answer_line 0 d.value freed
line_in (answered (Err r)) freed = answer_line (number_of r) none []
line_in (saw s) freed = look_line s
line_in (checked c) freed = []

unfoldable pub line_of : Outcome → List ℕ
line_of o = line_in o.reply (listed o)

-- a line's answer by the call that it makes
unfoldable pub answer_of : Store → Line → List ℕ
answer_of s (Some c) = line_of (came_of s c)
answer_of s None = bad_line

-- the answers of lines from store s on
unfoldable pub answers_of : Store → List (List ℕ) → List ℕ
answers_of s [] = []
answers_of s (l ∷ ls) = answer_of s (says l) ++ answers_of (store_after s (says l)) ls

-- What a call answers and what a line says: results and options, by the code's own types.
use Rattle.std.specs.Prelude.{ℕ, Bool, Result, Ok, Option}
use Rattle.rules.specs.declared.Refusal.{Refusal}
use Rattle.rules.specs.declared.Command.{Command}
use Rattle.rules.specs.declared.Done.{Done}
use Rattle.rules.specs.declared.Piece.{Piece}

-- what a call answers, but for look and check
abbrev pub Answer : Type 0
Answer = Result Done Refusal

-- what look answers
abbrev pub Seen : Type 0
Seen = Result Piece Refusal

-- what check answers: whether the tables are sound
abbrev pub Checked : Type 0
Checked = Result Bool Refusal

-- what a line of a trace says: a command, or nothing right
abbrev pub Line : Type 0
Line = Option Command

-- accepted: its value, and the number freed
abbrev pub done : ℕ → ℕ → Answer
done value freed = Ok (record { value = value; freed = freed })

-- accepted: state, leader, count of its group, holds
abbrev pub piece_seen : ℕ → ℕ → ℕ → ℕ → Seen
piece_seen state leader count holds = Ok (record { state = state; leader = leader; count = count; holds = holds })

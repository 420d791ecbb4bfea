-- The areas as the program builds them: the empty store at capacity 1,024.
use Rattle.std.specs.Prelude.{◌≡◌, List, [], ℕ, ◌*◌, replicate}
use Rattle.std.proofs.Common.{sym, subst, zero-le, arith}
use Rattle.rules.specs.Limits.{most}
use Rattle.rules.specs.Tables.{empty_tables, empty}
use Rattle.obeying.specs.Standing.{Standing}
use Rattle.reader.specs.Begun.{begun}
use Rattle.carrying.specs.Sofar.{Sofar, sofar_none}
use Rattle.trace.specs.Turned.{Keeps}

-- nothing is kept
pub started : {buf : List ℕ} → Keeps (record { store = empty most; list = replicate most 0; work = replicate (8 * most) 0; from = 0 }) buf 0
unfolding empty empty_tables
started = record { stands = begun most (omega arith) (omega arith); inside = zero-le; few = zero-le; unended = λ i a b e. omega arith }

-- the areas that hold just that
pub started_by : {a : Standing} {buf : List ℕ} → a ≡ record { store = empty most; list = replicate most 0; work = replicate (8 * most) 0; from = 0 }
    → Keeps a buf 0 × Sofar most a.store []
started_by {buf = buf} e = subst (λ (x : Standing). Keeps x buf 0 × Sofar most x.store []) (sym e) (started, sofar_none most)

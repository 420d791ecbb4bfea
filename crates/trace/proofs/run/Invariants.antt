-- `trace::run` starts with the empty store; what it goes on with from turn to turn, and what it ends with, is what the rules give for all that was read.
use Rattle.std.proofs.Common.{◌≡◌, length, take}
use Rattle.rules.specs.Limits.{most}
use Rattle.carrying.specs.Sofar.{Sofar}
use Rattle.obeying.specs.Held.{held}
use Rattle.trace.specs.Turned.{Keeps}
use Rattle.trace.proofs.run.Given as goal

abbrev pub invariant-loop : goal.invariant-loop
invariant-loop l =
    Keeps (held l.areas) l.buf l.kept × Sofar most (held l.areas).store (take l.kept l.buf) × ((length l.buf ≡ 65536) × (length l.out ≡ 65536))

-- The areas as they are made are the empty store; what a turn goes on with, and what it ends with, is what the rules give.
use Rattle.std.proofs.Common.{ℕ, arith}
use Rattle.std.proofs.lemmas.List.{length-replicate}
use Rattle.rules.specs.Limits.{most}
use Rattle.rules.specs.Tables.{empty_tables, empty}
use Rattle.reader.specs.Begun.{begun}
use Rattle.trace.specs.Started.{started_by}
use Rattle.trace.specs.Turned.{turned_more, turned_ended}
use Rattle.trace.proofs.run.Goals as goal

pub new-areas-requires : goal.new-areas-requires
unfolding empty empty_tables
new-areas-requires c = begun most (omega arith) (omega arith)

pub loop-init : goal.loop-init
unfolding empty empty_tables
loop-init c =
    let begun = started_by c.new-areas.ensures.held in
    (begun.0, begun.1, (length-replicate {A = ℕ} 65536 0, length-replicate {A = ℕ} 65536 0))

pub loop-preserved : goal.loop-preserved
loop-preserved c =
    let went = turned_more c.loop.invariant.1 (rw c.in-Some.is at c.in_ok-next.ensures.turned) in
    (went.0, went.1, omega arith)

pub finish-requires : goal.finish-requires
finish-requires c = ((turned_ended c.loop.invariant.1 (rw c.in_default.is at c.in_ok-next.ensures.turned)).1, omega arith)

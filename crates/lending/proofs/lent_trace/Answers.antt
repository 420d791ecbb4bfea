-- `lending::lent_trace` gives what the rules give: LONG first, else a store that starts empty.
use Rattle.std.proofs.Common.{ℕ, ap, arith}
use Rattle.std.proofs.Math.ListN.{length-replicate}
use Rattle.rules.specs.Limits.{most}
use Rattle.rules.specs.Tables.{empty_tables, empty}
use Rattle.obeying.specs.Standing.{Standing}
use Rattle.reader.specs.Begun.{begun}
use Rattle.lending.specs.Lent.{lent_full, lent_all}
use Rattle.lending.specs.Begun.{lent_long, lent_short}
use Rattle.lending.proofs.lent_trace.Goals as goal

pub returns-then-text-gt-TRACE : goal.returns-then-text-gt-TRACE
returns-then-text-gt-TRACE c = rw c.refused.ensures (lent_long c.args.text.now c.args.room.now c.if-text-gt-TRACE.true)

pub new-areas-requires : goal.new-areas-requires
unfolding empty empty_tables
new-areas-requires c = begun most (omega arith) (omega arith)

pub returns-in_default : goal.returns-in_default
unfolding empty empty_tables
returns-in_default c =
    lent_short c.args.text.now c.args.room.now c.if-text-gt-TRACE.false (ap (λ (a : Standing). a.store) c.new-areas.ensures.held)
    (lent_full (omega (arith, c.pour_all.auto)) c.in_default.ensures.filled c.no_room.ensures)

pub returns : goal.returns
unfolding empty empty_tables
returns c =
    lent_short c.args.text.now c.args.room.now c.if-text-gt-TRACE.false (ap (λ (a : Standing). a.store) c.new-areas.ensures.held)
    (lent_all (omega (arith, c.pour_all.auto)) c.in-Some.ensures.filled c.tables-tables.ensures.told
    c.close-k.ensures (omega (arith, c.close-k.ensures.few, c.pour_all.auto, length-replicate {A = ℕ} 8192 0)) c.finish.ensures)

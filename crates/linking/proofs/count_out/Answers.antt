-- `linking::count_out` meets its contract: each way through it is one law of what a target counts for.
use Rattle.std.proofs.Common.{arith}
use Rattle.editing.specs.Relink.{out_past, out_bare, out_some, out_hit}
use Rattle.linking.proofs.count_out.Goals as goal

pub returns-then-n-t : goal.returns-then-n-t
returns-then-n-t c = out_past c.requires c.if-n-t.true

pub returns-then-n-l : goal.returns-then-n-l
returns-then-n-l c = out_bare c.requires c.if-n-t.false c.if-n-l.true

pub overflow_sub-counts : goal.overflow_sub-counts
overflow_sub-counts c = omega (arith, out_some c.requires c.if-n-t.false c.if-n-l.false)

pub returns : goal.returns
returns c = out_hit c.requires c.if-n-t.false c.if-n-l.false

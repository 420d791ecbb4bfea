-- `letting_go::let_go`: where no leader fell nothing is marked; else the places of the queue are erased and the marked pieces listed, and the tables are then those of the rulebook after the freeing.
use Rattle.std.proofs.Common.{arith}
use Rattle.falling.specs.Steps.{going_on}
use Rattle.falling.specs.Listing.{waiting}
use Rattle.falling.specs.Freed.{none_freed, all_freed}
use Rattle.letting_go.proofs.let_go.Goals as goal

pub returns-then-first-eq0 : goal.returns-then-first-eq0
returns-then-first-eq0 c = none_freed c.if-first-eq0.true

pub sweep-requires : goal.sweep-requires
sweep-requires c = waiting (going_on c.requires c.drain-tail.ensures) (omega arith)

pub returns : goal.returns
returns c = all_freed c.drain-tail.ensures c.drain-tail.auto.list c.sweep.ensures

-- `into::forget` meets its contract: one link after another is taken off.
use Rattle.std.proofs.Common.{arith}
use Rattle.into.specs.Forgotten.{forgotten_none, forgetting_place, forgotten_more}
use Rattle.into.proofs.forget.Goals as goal

pub loop-k-init : goal.loop-k-init
loop-k-init c = forgotten_none c.requires

pub less-requires : goal.less-requires
less-requires c = forgetting_place c.requires (omega arith) c.loop-k.invariant

pub loop-k-preserved : goal.loop-k-preserved
loop-k-preserved c = forgotten_more c.requires (omega arith) c.loop-k.invariant c.less.ensures

-- `groups::search` meets its contract: each step keeps what held at the root, and the measure falls.
use Rattle.std.proofs.Common.{refl, arith}
use Rattle.groups.specs.Whole.{searching, searched}
use Rattle.groups.proofs.search.Goals as goal

pub loop-at-init : goal.loop-at-init
loop-at-init c = rw c.push-at.ensures.stands (searching c.requires.started refl c.requires.unseen c.push-at.ensures.stored)

pub returns : goal.returns
returns c = searched c.requires.started refl c.requires.unseen c.push-at.ensures.stored c.loop-at.invariant (omega (arith, c.loop-at-test.false))

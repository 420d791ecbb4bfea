-- `into::follow` meets its contract: the target is counted before the former one is taken away.
use Rattle.into.specs.Moves.{followable_reckoned, more_takable, follows}
use Rattle.into.proofs.follow.Goals as goal

pub more-requires : goal.more-requires
more-requires c = followable_reckoned c.requires

pub less-requires : goal.less-requires
less-requires c = more_takable c.requires c.more.ensures

pub returns : goal.returns
returns c = follows c.requires c.more.ensures c.less.ensures

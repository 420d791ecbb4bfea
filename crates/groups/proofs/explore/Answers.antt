-- `groups::explore` meets its contract: each place explored is one move of the search.
use Rattle.groups.specs.Advance.{exploring_on, exploring_all, ending_four}
use Rattle.groups.proofs.explore.Goals as goal

pub loop-at-preserved-then-at-eq0 : goal.loop-at-preserved-then-at-eq0
loop-at-preserved-then-at-eq0 c = exploring_on c.requires c.loop-at.invariant c.follow-at.auto.work c.follow-at.ensures ending_four

pub loop-at-preserved : goal.loop-at-preserved
loop-at-preserved c = exploring_on c.requires c.loop-at.invariant c.follow-at.auto.work c.follow-at.ensures (rw (c.follow-at.ensures.same c.if-at-eq0.false) c.loop-at.invariant.ending)

pub returns : goal.returns
returns c = exploring_all c.requires c.loop-at.invariant c.loop-at-test.false

-- `gathering::gather` meets its contract: piece after piece of the queue, until all of them are passed.
use Rattle.gathering.specs.Walked.{walked_looking, now_walked, now_most, now_more, gathered}
use Rattle.gathering.proofs.gather.Goals as goal

pub look-tail-requires : goal.look-tail-requires
look-tail-requires c = walked_looking c.requires (now_walked c.requires c.loop-j.invariant.walked) c.loop-j-test.true

pub loop-j-preserved : goal.loop-j-preserved
loop-j-preserved c =
    let more = now_more c.requires c.loop-j.invariant.walked c.loop-j-test.true c.look-tail.ensures c.look-tail.auto.leaders c.look-tail.auto.entries in
    record { walked = more; most = now_most c.requires more }

pub returns : goal.returns
returns c = gathered c.requires (now_walked c.requires c.loop-j.invariant.walked) c.loop-j-test.false

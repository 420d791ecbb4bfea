-- `reader::act` does a command and writes its answer: the command's effect gives both, and the store stands again.
use Rattle.obeying.specs.Freed.{freed_listed, freed_few}
use Rattle.reader.specs.Answered.{does_answered}
use Rattle.reader.proofs.act.Goals as goal

pub write_reply-requires : goal.write_reply-requires
write_reply-requires c =
    let did = c.obey-reply.ensures.obeys.did in
    (rw c.list.ensures (freed_listed did), freed_few c.obey-reply.ensures.stood.ready did, c.requires)

pub returns-clause-answered : goal.returns-clause-answered
returns-clause-answered c = does_answered c.obey-reply.ensures.obeys (rw c.list.ensures at c.write_reply.ensures.0) c.write_reply.ensures.1

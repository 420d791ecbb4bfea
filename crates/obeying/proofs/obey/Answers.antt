-- `obeying::obey` does what the rules do: each command's own work, cited by its arm.
use Rattle.std.proofs.Common.{refl}
use Rattle.rules.specs.Commands.{settles}
use Rattle.laws.specs.Calls.{ready_tables}
use Rattle.laws.specs.Verdicts.{bare_did}
use Rattle.into.specs.Stores.{with_into, leaves_into, into_ready, ready_by, still_into}
use Rattle.holding.specs.Acquired.{acquiring_of}
use Rattle.obeying.specs.Freed.{freed_listed, tables_listed}
use Rattle.obeying.specs.Arms.{obeyed_new, obeyed_kept, obeyed_freed, obeyed_bin}
use Rattle.obeying.proofs.obey.Goals as goal

pub set_link-answer-requires : goal.set_link-answer-requires
set_link-answer-requires c = (ready_tables c.requires.ready, into_ready c.requires.ready, c.requires.room)

pub lower-requires : goal.lower-requires
lower-requires c = tables_listed c.set_link-answer.ensures.0

pub acquire-answer-requires : goal.acquire-answer-requires
acquire-answer-requires c = acquiring_of (ready_by c.requires.ready)

pub release-answer-requires : goal.release-answer-requires
release-answer-requires c = (ready_by c.requires.ready, c.requires.room)

pub lower-requires-in-Release : goal.lower-requires-in-Release
lower-requires-in-Release c = freed_listed c.release-answer.ensures

pub bin-answer-requires : goal.bin-answer-requires
bin-answer-requires c = (ready_tables c.requires.ready, into_ready c.requires.ready, c.requires.room)

pub lower_bin-requires : goal.lower_bin-requires
lower_bin-requires c = tables_listed c.bin-answer.ensures.0

pub returns-in-New : goal.returns-in-New
unfolding leaves_into
returns-in-New c =
    obeyed_new c.in-New.is c.requires (still_into refl c.requires.ready (bare_did refl (c.new-answer.ensures.did (ready_tables c.requires.ready)))) c.above.ensures

pub returns-in-Set : goal.returns-in-Set
returns-in-Set c =
    obeyed_freed c.in-Set.is refl c.requires (with_into (into_ready c.requires.ready) c.set_link-answer.ensures.1 (bare_did refl c.set_link-answer.ensures.0)) c.lower.ensures

pub returns-in-Freeze : goal.returns-in-Freeze
unfolding settles
returns-in-Freeze c = obeyed_kept c.in-Freeze.is refl c.requires c.freeze-answer.ensures.did c.freeze-answer.auto.work

pub returns-in-Acquire : goal.returns-in-Acquire
unfolding settles leaves_into
returns-in-Acquire c =
    obeyed_kept c.in-Acquire.is refl c.requires (still_into refl c.requires.ready (c.acquire-answer.ensures.did (ready_by c.requires.ready))) refl

pub returns-in-Release : goal.returns-in-Release
unfolding leaves_into
returns-in-Release c =
    obeyed_freed c.in-Release.is refl c.requires (still_into refl c.requires.ready c.release-answer.ensures) c.lower-in-Release.ensures

pub returns-in-Bin : goal.returns-in-Bin
returns-in-Bin c =
    obeyed_bin c.in-Bin.is c.requires (with_into (into_ready c.requires.ready) c.bin-answer.ensures.1 (bare_did refl c.bin-answer.ensures.0)) c.lower_bin.ensures

pub returns-in-Look : goal.returns-in-Look
unfolding settles leaves_into
returns-in-Look c = obeyed_kept c.in-Look.is refl c.requires (still_into refl c.requires.ready (bare_did refl c.look.ensures)) refl

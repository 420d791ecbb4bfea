-- `draft` writes the line of a draft, byte after byte.
use Rattle.answers.specs.Page.{also}
use Rattle.answers.specs.Writes.{draft_line}
use Rattle.answers.proofs.Page.draft.Goals as goal

pub returns-clause-puts : goal.returns-clause-puts
returns-clause-puts c =
    rw draft_line (also c.byte.ensures (also c.byte-2.ensures (also c.byte-3.ensures (also c.byte-4.ensures (also c.byte-5.ensures
    (also c.byte-6.ensures (also c.byte-7.ensures (also c.byte-8.ensures (also c.byte-9.ensures c.byte-10.ensures)))))))))

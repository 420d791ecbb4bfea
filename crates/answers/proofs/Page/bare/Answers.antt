-- `bare` writes the line of a number, `-` and 0, byte after byte behind the number.
use Rattle.answers.specs.Page.{also}
use Rattle.answers.specs.Writes.{bare_line}
use Rattle.answers.proofs.Page.bare.Goals as goal

pub returns-clause-puts : goal.returns-clause-puts
returns-clause-puts c =
    rw bare_line (also c.number.ensures.puts (also c.byte.ensures (also c.byte-2.ensures (also c.byte-3.ensures (also c.byte-4.ensures c.byte-5.ensures)))))

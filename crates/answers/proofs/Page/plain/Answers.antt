-- `plain` writes the line of a number, a value or `-`, and 0, part after part.
use Rattle.answers.specs.Page.{also}
use Rattle.answers.specs.Writes.{plain_line}
use Rattle.answers.proofs.Page.plain.Goals as goal

pub returns-clause-puts : goal.returns-clause-puts
returns-clause-puts c = rw plain_line (also c.number.ensures.puts (also c.byte.ensures (also c.value.ensures.puts (also c.word.ensures.puts c.byte-2.ensures))))

-- `end` writes the last line, part after part.
use Rattle.answers.specs.Page.{also}
use Rattle.answers.specs.Writes.{closing-line}
use Rattle.answers.proofs.Page.end.Goals as goal

pub returns-clause-puts : goal.returns-clause-puts
returns-clause-puts c =
    rw closing-line (also c.byte.ensures (also c.word.ensures.puts (also c.word-2.ensures.puts (also c.word-3.ensures.puts c.byte-2.ensures))))

-- `done` writes the line of an accepted command, part after part.
use Rattle.rules.specs.Trace.{answer_line}
use Rattle.answers.specs.Page.{also}
use Rattle.answers.proofs.Page.done.Goals as goal

pub returns-else-freed-eq0-clause-puts : goal.returns-else-freed-eq0-clause-puts
unfolding answer_line
returns-else-freed-eq0-clause-puts c =
    also c.number.ensures.puts (also c.byte.ensures (also c.value.ensures.puts (also c.word.ensures.puts (also c.freed.ensures.puts c.byte-else-freed-eq0.ensures))))

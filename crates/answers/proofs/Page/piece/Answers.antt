-- `piece` writes the line of an accepted look, part after part.
use Rattle.answers.specs.Page.{also}
use Rattle.answers.proofs.Page.piece.Goals as goal

pub returns-clause-puts : goal.returns-clause-puts
returns-clause-puts c =
    rw (← c.from.ensures, ← c.from-2.ensures) (also c.number.ensures.puts (also c.word.ensures.puts (also c.byte.ensures
    (also c.value.ensures.puts (also c.word-2.ensures.puts (also c.word-3.ensures.puts c.byte-2.ensures))))))

-- `two` writes two digits, one after the other.
use Rattle.answers.specs.Page.{also}
use Rattle.answers.specs.Decimals.{digits_two}
use Rattle.answers.proofs.Page.two.Goals as goal

pub returns : goal.returns
returns c = rw (digits_two _ c.requires.1) (also c.byte.ensures c.byte-2.ensures)

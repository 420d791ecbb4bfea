-- `register::first` meets its contract: the pair has no line, and one comes in.
use Rattle.register.specs.Room.{room_free}
use Rattle.register.specs.Done.{none-line, more-inserted}
use Rattle.register.proofs.first.Goals as goal

pub insert-requires : goal.insert-requires
insert-requires c = (c.requires.0, c.requires.1, room_free _ _ _ c.requires.2 c.requires.3)

pub returns : goal.returns
returns c = more-inserted c.requires.0 c.requires.1 (none-line c.requires.0 c.requires.1 c.requires.3) c.insert.ensures

-- `sound::count_up` meets its contract: the part of work from 6n on is counted into, and the rest comes back as it was.
use Rattle.sound.specs.Counted.{part_given, part_tested}
use Rattle.sound.proofs.count_up.Goals as goal

pub all_linked-requires : goal.all_linked-requires
all_linked-requires c = part_given c.requires

pub returns : goal.returns
returns c = part_tested c.requires c.all_linked.ensures

-- `pieces_look` keeps `look`'s promise: its u64 is the number of what `store::look` answers, which keeps each area's length.
use Rattle.pieces.specs.Looks.{look_fits}
use Rattle.pieces.proofs.pieces_look.Goals as goal

pub pack_seen-requires : goal.pack_seen-requires
pack_seen-requires c = look_fits c.look.ensures

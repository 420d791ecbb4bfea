-- `lending::finish` puts the last bytes behind those of the room, and zeros behind them, where they fit.
use Rattle.std.proofs.Common.{refl, arith}
use Rattle.lending.specs.Poured.{placed_same, placed_front}
use Rattle.lending.specs.Lent.{lent_fits}
use Rattle.lending.proofs.finish.Goals as goal

pub returns : goal.returns
returns c =
    let end = c.copy_from_slice.ensures.after in
    lent_fits c.args.room.now c.args.end.now c.args.size c.requires (omega arith) _
    (placed_same _ _ _ end refl (omega arith)) (placed_front _ _ _ end refl (omega arith)) (c.fill.ensures.after (λ y e. e))

-- What is poured more stands in the room too, and the areas keep their lengths.
use Rattle.std.proofs.Common.{arith, length-take-le}
use Rattle.obeying.specs.Held.{same_on}
use Rattle.lending.specs.Poured.{placed_same, placed_front, pouring_more}
use Rattle.lending.proofs.pour.Goals as goal

pub loop-at-preserved : goal.loop-at-preserved
loop-at-preserved c =
    let said = c.copy_from_slice.ensures.after in
    let size = length-take-le c.feed-fed.result.written c.feed-fed.new.out c.feed-fed.ensures.fed.0.room in (
      pouring_more c.loop-at.invariant.0 c.feed-fed.ensures.fed.0 (omega arith)
          (placed_same _ _ _ said size (omega arith)) (placed_front _ _ _ said size (omega arith)),
      omega arith,
      same_on c.loop-at.invariant.2 c.feed-fed.ensures.same,
    )

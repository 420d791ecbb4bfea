-- `lending::pour` answers a text into the room part by part: the loop keeps `Pouring`, and each time some of the text is taken.
use Rattle.std.proofs.Common.{◌-◌, ◌≡◌, length}
use Rattle.obeying.specs.Held.{held, Same}
use Rattle.lending.specs.Poured.{Pouring}
use Rattle.lending.proofs.pour.Given as goal

abbrev pub invariant-loop-at : goal.invariant-loop-at
invariant-loop-at l =
    Pouring (held l.initial.areas).store l.text l.initial.room l.start (held l.areas).store l.room l.at l.size × (length l.out ≡ length l.initial.out)
    × Same l.initial.areas l.areas

abbrev pub decreases-loop-at : goal.decreases-loop-at
decreases-loop-at l = length l.text - l.at

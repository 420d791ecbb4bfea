-- `reader::feed` answers line after line: the loop keeps `Feeding`, one line more at each turn.
use Rattle.std.proofs.Common.{◌-◌, length}
use Rattle.obeying.specs.Held.{held, Same}
use Rattle.reader.specs.Fed.{Feeding}
use Rattle.reader.proofs.feed.Given as goal

abbrev pub invariant-loop-at : goal.invariant-loop-at
invariant-loop-at l =
    let a = held l.initial.areas in
    let b = held l.areas in
    Feeding a.store.tables.base.n a.store l.text l.start b.store b.list b.work l.out l.at l.written b.from × Same l.initial.areas l.areas

abbrev pub decreases-loop-at : goal.decreases-loop-at
decreases-loop-at l = length l.text - l.at

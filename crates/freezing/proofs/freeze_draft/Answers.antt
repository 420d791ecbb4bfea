-- `freezing::freeze_draft` freezes draft p with all that it links to: each step cites its law, and the tables are then those of the finished store.
use Rattle.std.proofs.Common.{arith}
use Rattle.freezing.specs.Whole.{gathering, findable, takable, behind, leader_below, leader_room, freezes, still_into}
use Rattle.freezing.proofs.freeze_draft.Goals as goal

pub gather-size-requires : goal.gather-size-requires
gather-size-requires c = gathering c.requires.0 (omega (arith, c.requires.0.wide))

pub find-requires : goal.find-requires
find-requires c = findable c.requires.0 (omega (arith, c.requires.0.wide)) c.gather-size.ensures (omega arith)

pub take_all-requires : goal.take_all-requires
take_all-requires c = takable c.requires.0 (omega (arith, c.requires.0.wide)) c.gather-size.ensures (omega arith) c.find.ensures c.requires.1

pub bounds-counts-l : goal.bounds-counts-l
bounds-counts-l c = omega (arith, leader_below c.requires.0 (omega (arith, c.requires.0.wide)) c.gather-size.ensures (omega arith) c.find.ensures c.take_all.ensures)

pub overflow_add-counts : goal.overflow_add-counts
overflow_add-counts c = omega (arith, leader_room c.requires.0 (omega (arith, c.requires.0.wide)) c.gather-size.ensures (omega arith) c.find.ensures c.take_all.ensures)

pub bounds-counts-l-2 : goal.bounds-counts-l-2
bounds-counts-l-2 c = omega (arith, leader_below c.requires.0 (omega (arith, c.requires.0.wide)) c.gather-size.ensures (omega arith) c.find.ensures c.take_all.ensures)

pub returns-clause-frozen : goal.returns-clause-frozen
returns-clause-frozen c = freezes c.requires.0 (omega (arith, c.requires.0.wide)) c.gather-size.ensures (omega arith) c.find.ensures c.take_all.ensures

pub returns-clause-named : goal.returns-clause-named
returns-clause-named c = still_into c.requires.0 (omega (arith, c.requires.0.wide)) c.gather-size.ensures (omega arith) c.find.ensures c.take_all.ensures c.requires.1

pub returns-clause-later : goal.returns-clause-later
returns-clause-later c =
    behind c.requires.0 (omega (arith, c.requires.0.wide)) c.gather-size.ensures (omega arith) c.find.ensures c.split_at_mut-regions.ensures.value
    c.split_at_mut-regions.ensures.front_len

-- `groups::finish` meets its contract: it pops the last block, or goes back to the parent.
use Rattle.std.proofs.Common.{refl, arith}
use Rattle.groups.specs.Explore.{stand_lt, size_n, blocks_some, blocks_n}
use Rattle.groups.specs.Finish.{standing, resumable, step_back, step_pop}
use Rattle.groups.proofs.finish.Goals as goal

pub overflow_add-n-2 : goal.overflow_add-n-2
overflow_add-n-2 c = omega (arith, blocks_n c.requires.going, c.requires.going.lent.most)

pub get-start-requires : goal.get-start-requires
get-start-requires c = omega (arith, blocks_some c.requires.going, blocks_n c.requires.going, c.put.auto.work, c.requires.going.lent.work_n)

pub overflow_add-n-3 : goal.overflow_add-n-3
overflow_add-n-3 c = omega (arith, stand_lt c.requires.going, size_n c.requires.going, c.requires.going.lent.most)

pub get-parent-requires : goal.get-parent-requires
get-parent-requires c = omega (arith, stand_lt c.requires.going, size_n c.requires.going, c.put.auto.work, c.requires.going.lent.work_n)

pub resume-requires : goal.resume-requires
resume-requires c = resumable c.requires c.put.ensures c.get-parent.ensures refl refl

pub returns-then-start-at : goal.returns-then-start-at
returns-then-start-at c = step_back c.requires c.put.ensures c.get-parent.ensures c.get-start.ensures c.if-start-at.true c.resume.ensures

pub close_block-requires : goal.close_block-requires
close_block-requires c = standing c.requires c.put.ensures

pub resume-requires-2 : goal.resume-requires-2
resume-requires-2 c = resumable c.requires c.put.ensures c.get-parent.ensures c.close_block.ensures.off.stack_same c.close_block.auto.work

pub returns : goal.returns
returns c =
    step_pop c.requires c.put.ensures c.get-parent.ensures c.get-start.ensures c.if-start-at.false
    c.close_block.auto.work c.close_block.ensures c.resume-2.ensures

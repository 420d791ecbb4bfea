-- `groups::follow` meets its contract: each way through it is one move of the search.
use Rattle.std.proofs.Common.{arith}
use Rattle.groups.specs.Explore.{blocks_n, stackable, blocks_ok, step_other, step_finished, step_push, step_merge}
use Rattle.groups.specs.Leaf.{leaf_empty, step_leaf}
use Rattle.groups.specs.Advance.{passed, pushed}
use Rattle.groups.proofs.follow.Goals as goal

pub returns-then-target-n : goal.returns-then-target-n
returns-then-target-n c = let G = c.requires.0 in passed G (step_other G c.requires.1 (λ lt e. omega arith))

pub returns-then-class-target : goal.returns-then-class-target
returns-then-class-target c = let G = c.requires.0 in passed G (step_other G c.requires.1 (λ lt e. c.if-class-target.true e))

pub returns-then-mark : goal.returns-then-mark
returns-then-mark c = let G = c.requires.0 in passed G (step_finished G c.requires.1 (omega arith) c.get-mark.ensures c.if-mark.true)

pub overflow_add-starts : goal.overflow_add-starts
overflow_add-starts c = omega (arith, blocks_n c.requires.0, c.requires.0.lent.most)

pub slice_bounds-starts-end : goal.slice_bounds-starts-end
slice_bounds-starts-end c = omega (arith, blocks_n c.requires.0, c.requires.0.lent.work_n)

pub merge-blocks-requires : goal.merge-blocks-requires
merge-blocks-requires c = blocks_ok c.requires.0

pub returns-then-mark-ne0 : goal.returns-then-mark-ne0
returns-then-mark-ne0 c =
    let G = c.requires.0 in
    passed G (step_merge G c.requires.1 (omega arith) c.get-mark.ensures c.if-class-target.false c.if-mark-ne0.true c.if-mark.false c.merge-blocks.ensures)

pub returns-then-four : goal.returns-then-four
returns-then-four c =
    let G = c.requires.0 in
    let bare = leaf_empty G c.four.ensures c.if-four.true in
    passed G (step_leaf G c.requires.1 (omega arith) c.get-mark.ensures c.if-class-target.false c.if-mark-ne0.false bare c.close_one.ensures)

pub push-requires : goal.push-requires
push-requires c = stackable c.requires.0 c.requires.1 (omega arith) c.get-mark.ensures c.if-class-target.false c.if-mark-ne0.false c.put.auto.work

pub returns : goal.returns
returns c =
    let G = c.requires.0 in
    pushed c.push.ensures.stands
    (step_push G c.requires.1 (omega arith) c.get-mark.ensures c.if-class-target.false c.if-mark-ne0.false c.put.ensures c.push.ensures.stored)

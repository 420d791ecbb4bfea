-- `register::insert` meets its contract: each block that moves leaves one less, and then the new line has its place.
use Rattle.std.proofs.Common.{arith}
use Rattle.register.specs.Opened.{opened_block, opened_end}
use Rattle.register.specs.Done.{insert_inside}
use Rattle.register.proofs.insert.Goals as goal

pub overflow_mul-blocks : goal.overflow_mul-blocks
overflow_mul-blocks c =
    let most = (c.loop-blocks.invariant _ c.open_last-blocks.ensures).most in
    omega (arith, most)

pub overflow_add-from : goal.overflow_add-from
overflow_add-from c =
    let most = (c.loop-blocks.invariant _ c.open_last-blocks.ensures).most in
    omega (arith, most)

pub lift-requires : goal.lift-requires
lift-requires c =
    let inv = c.loop-blocks.invariant _ c.open_last-blocks.ensures in
    record { size = inv.size; most = omega (arith, inv.most, c.loop-blocks-test.true) }

pub loop-blocks-preserved : goal.loop-blocks-preserved
loop-blocks-preserved c = λ l v. opened_block (c.loop-blocks.invariant l v) c.loop-blocks-test.true c.lift.ensures

pub returns : goal.returns
returns c =
    let inv = c.loop-blocks.invariant _ c.open_last-blocks.ensures in
    opened_end c.args.seat c.args.piece c.requires.0.size (insert_inside c.requires.0 c.requires.1 c.requires.2) inv (omega (arith, c.loop-blocks-test.false))

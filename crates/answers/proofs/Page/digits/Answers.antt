-- `digits` writes the last k digits of a number, the last one first.
use Rattle.std.proofs.Common.{◌∙◌, arith, length-set}
use Rattle.answers.specs.Decimals.{length_digits}
use Rattle.answers.specs.Writes.{digits_step, digits_done}
use Rattle.answers.proofs.Page.digits.Goals as goal

pub loop-i-preserved : goal.loop-i-preserved
loop-i-preserved c =
    let inv = c.loop-i.invariant in
    record {
      bytes = digits_step _ _ c.loop-i.i c.loop-i.left c.loop-i-test.true ∙ inv.bytes;
      same = inv.same;
      long = simp length-set inv.long;
    }

pub returns : goal.returns
returns c =
    let inv = c.loop-i.invariant in
    record {
      wrote = record { place = rw (length_digits c.args.k c.args.v); room = digits_done _ _ _ _ (omega arith) ∙ inv.bytes };
      same = inv.same;
      long = inv.long;
    }

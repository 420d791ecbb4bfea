-- `freed` writes the freed numbers, one after the other.
use Rattle.std.proofs.Common.{refl, get_or, arith}
use Rattle.rules.specs.Trace.{spaced}
use Rattle.answers.specs.Decimals.{decimal_five}
use Rattle.answers.specs.Writes.{nothing, spaced-more}
use Rattle.answers.specs.Page.{also}
use Rattle.answers.proofs.Page.freed.Goals as goal

pub loop-number-init : goal.loop-number-init
unfolding spaced
loop-number-init c = record { few_bytes = omega arith; written = record { wrote = nothing; same = refl; long = refl } }

pub loop-number-preserved : goal.loop-number-preserved
loop-number-preserved c =
    let i = c.loop-number.number-index in
    let small = decimal_five (get_or c.args.freed.now i 0) (omega (arith, c.type_inv.freed i)) in
    let puts = rw c.from.ensures at c.word.ensures.puts in
    record {
      few_bytes = omega (arith, puts.wrote.place);
      written = rw (spaced-more c.args.freed.now i (omega arith)) (also c.loop-number.invariant.written puts);
    }

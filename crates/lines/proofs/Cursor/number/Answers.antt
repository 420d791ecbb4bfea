-- `number` takes the number at the cursor: digit by digit until the byte that ends it, or five digits and one too many.
use Rattle.std.proofs.Common.{◌≡◌, ◌+◌, ◌<◌, get_or, sym, ◌∙◌, arith, add-zero}
use Rattle.lines.specs.Cursor.{digit_of}
use Rattle.lines.specs.Numbers.{number_start, digit_more, digit_many, digit_stop, digit_unended, finished_place, value_more}
use Rattle.lines.proofs.Cursor.number.Goals as goal

pub loop-k-init : goal.loop-k-init
loop-k-init c = record { inside = omega arith; few = omega arith; same = rw add-zero (number_start _) }

pub returns-in_default : goal.returns-in_default
returns-in_default c =
    let inv = c.loop-k.invariant in
    let stop = digit_stop _ _ _ _ inv.inside c.in_default.ensures (omega arith) in
    rw c.finished.ensures (sym stop ∙ inv.same, finished_place c.loop-k.v c.loop-k.k _ _ inv.inside)

pub loop-k-preserved : goal.loop-k-preserved
loop-k-preserved c =
    let text = c.args.text.now in
    let i = c.args.self.at + c.loop-k.k in
    let inv = c.loop-k.invariant in
    let e : c.args.self.at + (c.loop-k.k + 1) ≡ i + 1 = omega arith in
    let d : digit_of (get_or text i 0) < 10 = omega (arith, c.in-Some.ensures) in
    record {
      inside = rw e (c.requires.1 i inv.inside (digit_unended (get_or text i 0) d));
      few = value_more _ _ _ inv.few (omega (arith, c.in-Some.ensures));
      same = rw (e, c.in-Some.ensures.0) (sym (digit_more _ _ _ i inv.inside d) ∙ inv.same);
    }

pub returns-in-Some-digit : goal.returns-in-Some-digit
returns-in-Some-digit c =
    let inv = c.loop-k.invariant in
    let k : c.loop-k.k ≡ 5 = omega arith in
    let many = digit_many c.args.text.now 5 c.loop-k.v (c.args.self.at + 5) (omega arith) (omega (arith, c.in-Some-digit.ensures)) (omega arith) in
    (sym many ∙ rw k at inv.same, omega arith)

pub returns-in-None : goal.returns-in-None
returns-in-None c =
    let inv = c.loop-k.invariant in
    let k : c.loop-k.k ≡ 5 = omega arith in
    let stop = digit_stop c.args.text.now 5 c.loop-k.v (c.args.self.at + 5) (omega arith) c.in-None.ensures (omega arith) in
    rw c.finished-in-None.ensures (sym stop ∙ rw k at inv.same, finished_place c.loop-k.v 5 _ _ (rw k at inv.inside))

-- `width` gives how many digits a number has, by the powers of ten that it reaches.
use Rattle.std.proofs.Common.{◌≡◌, ◌+◌, ◌-◌, ◌^◌, ◌<◌, add-one, arith}
use Rattle.answers.specs.Decimals.{reached_width}
use Rattle.answers.proofs.width.Goals as goal

pub loop-k-preserved : goal.loop-k-preserved
loop-k-preserved c =
    let e : c.loop-k.k + 1 - 1 ≡ c.loop-k.k = omega arith in
    record { next = rw (add-one c.loop-k.k) (omega arith); reached = λ h. rw (e, ← c.loop-k.invariant.next) (omega arith) }

pub returns-then-from-power : goal.returns-then-from-power
returns-then-from-power c =
    let below : c.args.v < 10 ^ c.loop-k.k = rw (← c.loop-k.invariant.next) (omega arith) in
    reached_width c.loop-k.k c.args.v c.loop-k.auto.k (omega arith) c.loop-k.invariant.reached below

pub returns : goal.returns
returns c =
    let k : c.loop-k.k ≡ 10 = omega arith in
    reached_width 10 c.args.v (omega arith) (omega arith) (rw k at c.loop-k.invariant.reached) (omega arith)

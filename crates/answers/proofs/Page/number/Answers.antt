-- `number` writes a number in decimal: up to three digits one by one, more of them by their width.
use Rattle.std.proofs.Common.{◌-◌, ◌*◌, ◌/◌, arith}
use Rattle.answers.specs.Page.{also}
use Rattle.answers.specs.Decimals.{decimal_small, decimal_two, decimal-three, decimal_ten, decimal-digits, length_digits}
use Rattle.answers.proofs.Page.number.Goals as goal

pub returns-then-v-lt10-clause-puts : goal.returns-then-v-lt10-clause-puts
returns-then-v-lt10-clause-puts c = rw (decimal_small _ c.if-v-lt10.true) c.byte.ensures

pub returns-then-v-lt100-clause-puts : goal.returns-then-v-lt100-clause-puts
returns-then-v-lt100-clause-puts c = rw (decimal_two c.args.v c.if-v-lt10.false c.if-v-lt100.true) c.two.ensures

pub returns-then-v-lt100-clause-upper_bound : goal.returns-then-v-lt100-clause-upper_bound
returns-then-v-lt100-clause-upper_bound c = omega (arith, length_digits 2 c.args.v, c.two.ensures.wrote.place)

pub returns-then-v-lt1000-clause-puts : goal.returns-then-v-lt1000-clause-puts
returns-then-v-lt1000-clause-puts c =
    rw (decimal-three c.args.v c.if-v-lt100.false c.if-v-lt1000.true) (also c.byte-then-v-lt1000.ensures c.two-then-v-lt1000.ensures)

pub returns-then-v-lt1000-clause-upper_bound : goal.returns-then-v-lt1000-clause-upper_bound
returns-then-v-lt1000-clause-upper_bound c =
    omega (arith, length_digits 2 (c.args.v - 100 * (c.args.v / 100)), c.byte-then-v-lt1000.ensures.wrote.place, c.two-then-v-lt1000.ensures.wrote.place)

pub digits-requires : goal.digits-requires
digits-requires c = omega (arith, decimal_ten c.args.v)

pub returns-else-v-lt1000-clause-puts : goal.returns-else-v-lt1000-clause-puts
returns-else-v-lt1000-clause-puts c = rw (decimal-digits, ← c.width-k.ensures) c.digits.ensures

pub returns-else-v-lt1000-clause-upper_bound : goal.returns-else-v-lt1000-clause-upper_bound
returns-else-v-lt1000-clause-upper_bound c = omega (arith, length_digits c.width-k.result c.args.v, decimal_ten c.args.v, c.digits.ensures.wrote.place)

-- `value` writes `-` for none and else the number.
use Rattle.answers.specs.Decimals.{value_none, value_number}
use Rattle.answers.proofs.Page.value.Goals as goal

pub returns-then-v-eq-NONE-clause-puts : goal.returns-then-v-eq-NONE-clause-puts
returns-then-v-eq-NONE-clause-puts c = rw (value_none _ c.if-v-eq-NONE.true) c.byte.ensures

pub returns-else-v-eq-NONE-clause-puts : goal.returns-else-v-eq-NONE-clause-puts
returns-else-v-eq-NONE-clause-puts c = rw (value_number _ c.if-v-eq-NONE.false) (rw c.from.ensures at c.number.ensures.puts)

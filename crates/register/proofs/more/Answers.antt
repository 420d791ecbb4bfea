-- `register::more` meets its contract: the pair's line counts one more, or comes in.
use Rattle.std.proofs.Common.{sym, ◌∙◌, arith}
use Rattle.register.specs.Done.{line_inside, line_value, more_counted, more_free, more-inserted}
use Rattle.register.proofs.more.Goals as goal

pub bounds-register-i : goal.bounds-register-i
bounds-register-i c = line_inside c.requires.0 c.requires.1 (sym c.has.ensures ∙ c.if-has.true)

pub overflow_add-register-then-has : goal.overflow_add-register-then-has
overflow_add-register-then-has c = omega (arith, line_value c.requires.0 c.requires.1 (sym c.has.ensures ∙ c.if-has.true), c.requires.3)

pub bounds-register-i-then-has : goal.bounds-register-i-then-has
bounds-register-i-then-has c = line_inside c.requires.0 c.requires.1 (sym c.has.ensures ∙ c.if-has.true)

pub returns-then-has : goal.returns-then-has
returns-then-has c = more_counted c.requires.0 c.requires.1 (sym c.has.ensures ∙ c.if-has.true)

pub insert-requires : goal.insert-requires
insert-requires c = (c.requires.0, c.requires.1, more_free c.requires.0 c.requires.1 (sym c.has.ensures ∙ c.if-has.false) c.requires.2)

pub returns : goal.returns
returns c = more-inserted c.requires.0 c.requires.1 (sym c.has.ensures ∙ c.if-has.false) c.insert.ensures

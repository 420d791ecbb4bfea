-- `answer` writes the line of an answer, by its case.
use Rattle.std.proofs.Common.{sym, arith, length-take-le}
use Rattle.rules.specs.History.{freed_in}
use Rattle.answers.proofs.Page.answer.Goals as goal

pub slice_bounds-done-end : goal.slice_bounds-done-end
unfolding freed_in
slice_bounds-done-end c = let r = rw c.in-Ok.is at c.requires in sym (length-take-le c.in-Ok.field-0.freed c.args.list.now r.0)

pub done-requires : goal.done-requires
unfolding freed_in
done-requires c =
    let r = rw c.in-Ok.is at c.requires in
    rw (length-take-le c.in-Ok.field-0.freed c.args.list.now r.0) (omega arith, r.1)

pub returns-in-Ok-clause-upper_bound : goal.returns-in-Ok-clause-upper_bound
unfolding freed_in
returns-in-Ok-clause-upper_bound c =
    let r = rw c.in-Ok.is at c.requires in
    rw c.in-Ok.is (rw (length-take-le c.in-Ok.field-0.freed c.args.list.now r.0) at c.done.ensures.upper_bound)

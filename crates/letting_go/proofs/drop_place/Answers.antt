-- `letting_go::drop_place`: each way through it is one step: nothing named, a mate that stands there already or not, another group whose count falls to 0 or not.
use Rattle.std.proofs.Common.{arith}
use Rattle.falling.specs.Places.{place_in, target_in, mate_in, other_in, left_past, left_seen, left_new, left_zero, left_out}
use Rattle.letting_go.proofs.drop_place.Goals as goal

pub bounds-list-m : goal.bounds-list-m
bounds-list-m c = omega (arith, place_in c.requires)

pub returns-then-n-t : goal.returns-then-n-t
returns-then-n-t c = left_past c.requires.1 c.if-n-t.true

pub returns-then-states-t-eq-FREE : goal.returns-then-states-t-eq-FREE
returns-then-states-t-eq-FREE c = left_seen c.requires.1 c.if-n-t.false c.if-l-o.true c.if-states-t-eq-FREE.true

pub mark-requires : goal.mark-requires
mark-requires c =
    let named = target_in c.requires c.if-n-t.false in
    let mate = mate_in c.requires c.if-n-t.false c.if-l-o.true c.if-states-t-eq-FREE.false in
    (named.2, omega arith, mate.3)

pub returns-then-l-o : goal.returns-then-l-o
returns-then-l-o c =
    rw (c.mark.ensures.0, c.mark.ensures.1, c.mark.ensures.2) (left_new c.requires.1 c.if-n-t.false c.if-l-o.true c.if-states-t-eq-FREE.false)

pub bounds-counts-l : goal.bounds-counts-l
bounds-counts-l c = omega (arith, target_in c.requires c.if-n-t.false)

pub overflow_sub-c : goal.overflow_sub-c
overflow_sub-c c = omega (arith, other_in c.requires c.if-n-t.false c.if-l-o.false)

pub bounds-counts-l-2 : goal.bounds-counts-l-2
bounds-counts-l-2 c = omega (arith, target_in c.requires c.if-n-t.false)

pub mark-requires-then-c-eq0 : goal.mark-requires-then-c-eq0
mark-requires-then-c-eq0 c =
    let named = target_in c.requires c.if-n-t.false in
    let other = other_in c.requires c.if-n-t.false c.if-l-o.false in
    (named.5, omega arith, other.4)

pub returns-then-c-eq0 : goal.returns-then-c-eq0
returns-then-c-eq0 c =
    let marked = c.mark-then-c-eq0.ensures in
    rw (marked.0, marked.1, marked.2) (left_zero c.requires.1 c.if-n-t.false c.if-l-o.false c.if-c-eq0.true)

pub returns : goal.returns
returns c = left_out c.requires.1 c.if-n-t.false c.if-l-o.false c.if-c-eq0.false

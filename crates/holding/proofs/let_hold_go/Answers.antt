-- `holding::let_hold_go` meets its contract. One hold and one count less match again; at most p's group fell, and if it did, the letting go leaves what the rules say.
use Rattle.std.proofs.Common.{arith}
use Rattle.rules.specs.Commands.{with_holds}
use Rattle.editing.specs.Holds.{released_in, release_edited}
use Rattle.editing.specs.Started.{tippings_first, tumbled_one, edited_tippings, edited_going, edited_none, edited_done}
use Rattle.holding.proofs.let_hold_go.Goals as goal

pub bounds-counts-l : goal.bounds-counts-l
bounds-counts-l c = omega (arith, released_in c.requires)

pub overflow_sub-counts : goal.overflow_sub-counts
overflow_sub-counts c = omega (arith, released_in c.requires)

pub bounds-counts-l-2 : goal.bounds-counts-l-2
bounds-counts-l-2 c = omega (arith, released_in c.requires)

pub fall-first-requires : goal.fall-first-requires
unfolding with_holds
fall-first-requires c = tippings_first (edited_tippings (release_edited c.requires))

pub returns-then-first-eq0 : goal.returns-then-first-eq0
unfolding with_holds
returns-then-first-eq0 c =
    edited_none (release_edited c.requires) (tumbled_one c.fall-first.ensures) c.if-first-eq0.true c.fall-first.auto.list

pub let_go-requires : goal.let_go-requires
unfolding with_holds
let_go-requires c = edited_going (release_edited c.requires) (tumbled_one c.fall-first.ensures)

pub returns : goal.returns
unfolding with_holds
returns c =
    edited_done (release_edited c.requires) (tumbled_one c.fall-first.ensures) c.fall-first.auto.list c.let_go.ensures

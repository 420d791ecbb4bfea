-- `binning::bin_draft`: the emptied tables are the edited base; at most the groups that p named fell, and if one did, the letting go leaves what the rules say.
use Rattle.rules.specs.Commands.{with_states, with_links}
use Rattle.editing.specs.Bin.{emptying, four_olds, bin_edited}
use Rattle.editing.specs.Started.{edited_tippings, edited_going, edited_none, edited_done}
use Rattle.binning.proofs.bin_draft.Goals as goal

pub empty_places-requires : goal.empty_places-requires
empty_places-requires c = emptying c.requires

pub fall_each-first-requires : goal.fall_each-first-requires
unfolding with_states with_links
fall_each-first-requires c = rw (← four_olds c.requires) at (edited_tippings (bin_edited c.requires c.empty_places.ensures))

pub returns-then-first-eq0 : goal.returns-then-first-eq0
unfolding with_states with_links
returns-then-first-eq0 c =
    let fallen = rw (four_olds c.requires) at c.fall_each-first.ensures in
    edited_none (bin_edited c.requires c.empty_places.ensures) fallen c.if-first-eq0.true c.fall_each-first.auto.list

pub let_go-requires : goal.let_go-requires
unfolding with_states with_links
let_go-requires c =
    let fallen = rw (four_olds c.requires) at c.fall_each-first.ensures in
    edited_going (bin_edited c.requires c.empty_places.ensures) fallen

pub returns : goal.returns
unfolding with_states with_links
returns c =
    let fallen = rw (four_olds c.requires) at c.fall_each-first.ensures in
    edited_done (bin_edited c.requires c.empty_places.ensures) fallen c.fall_each-first.auto.list c.let_go.ensures

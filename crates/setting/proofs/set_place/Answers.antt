-- `setting::set_place`: the counts match again; at most the old target's group fell, and if it did, the letting go leaves what the rules say.
use Rattle.rules.specs.Commands.{with_links}
use Rattle.editing.specs.Set.{relinking, set_edited}
use Rattle.editing.specs.Started.{tippings_first, tumbled_one, edited_tippings, edited_going, edited_none, edited_done}
use Rattle.setting.proofs.set_place.Goals as goal

pub relink-old-requires : goal.relink-old-requires
relink-old-requires c = relinking c.requires

pub fall-first-requires : goal.fall-first-requires
unfolding with_links
fall-first-requires c = tippings_first (edited_tippings (set_edited c.requires c.relink-old.ensures))

pub returns-then-first-eq0 : goal.returns-then-first-eq0
unfolding with_links
returns-then-first-eq0 c =
    edited_none (set_edited c.requires c.relink-old.ensures) (tumbled_one c.fall-first.ensures) c.if-first-eq0.true c.fall-first.auto.list

pub let_go-requires : goal.let_go-requires
unfolding with_links
let_go-requires c = edited_going (set_edited c.requires c.relink-old.ensures) (tumbled_one c.fall-first.ensures)

pub returns : goal.returns
unfolding with_links
returns c =
    edited_done (set_edited c.requires c.relink-old.ensures) (tumbled_one c.fall-first.ensures) c.fall-first.auto.list
    c.let_go.ensures

-- `sound::is_sound` meets its contract: the first pass that says no refutes soundness, and the last decides it.
use Rattle.sound.specs.Judged.{is_sound_lem, not-held, not_linked, searchable, not-led, counts_judged}
use Rattle.sound.proofs.is_sound.Goals as goal

pub returns-then-not-all_held : goal.returns-then-not-all_held
returns-then-not-all_held c = is_sound_lem c.requires.1 (not-held c.all_held.ensures c.if-not-all_held.true)

pub returns-then-not-count_up : goal.returns-then-not-count_up
returns-then-not-count_up c =
    is_sound_lem c.requires.1 (not_linked c.all_held.ensures c.requires.0 c.requires.2 c.if-not-all_held.false c.count_up.ensures c.if-not-count_up.true)

pub visit_all-requires : goal.visit_all-requires
visit_all-requires c = searchable c.all_held.ensures c.requires.0 c.requires.2 c.if-not-all_held.false c.count_up.ensures c.if-not-count_up.false

pub returns-then-leaders_found : goal.returns-then-leaders_found
returns-then-leaders_found c =
    is_sound_lem
    c.requires.1
    (counts_judged
    c.all_held.ensures c.requires.0 c.requires.2 c.if-not-all_held.false c.count_up.ensures c.if-not-count_up.false c.visit_all.ensures
    c.leaders_found.ensures c.if-leaders_found.true c.requires.1 c.counts_found.ensures)

pub returns-else-leaders_found : goal.returns-else-leaders_found
returns-else-leaders_found c =
    is_sound_lem
    c.requires.1
    (not-led
    c.all_held.ensures c.requires.0 c.requires.2 c.if-not-all_held.false c.count_up.ensures c.if-not-count_up.false c.visit_all.ensures
    c.leaders_found.ensures c.if-leaders_found.false)

-- `setting::set_link`: each refusal is the first row that applies; otherwise the work's promise is the command's.
use Rattle.std.proofs.Common.{arith}
use Rattle.std.proofs.lemmas.Result.{err_from_is_err_and}
use Rattle.rules.specs.Calls.{refused_by}
use Rattle.naming.specs.Told.{link_wrong, link_named}
use Rattle.naming.specs.Names.{wrong_did}
use Rattle.editing.specs.Names.{set-names, state_refused}
use Rattle.editing.specs.Into.{set_followable, set_into}
use Rattle.setting.proofs.set_link.Goals as goal

pub returns-in_err-link : goal.returns-in_err-link
unfolding refused_by
returns-in_err-link c =
    let e = err_from_is_err_and c.from_residual.result c.from_residual.ensures.1 in
    rw (e.1, e.2) (wrong_did set-names.first (link_wrong c.link.ensures c.in_err-link.was), c.requires.1)

pub bounds-states-at : goal.bounds-states-at
bounds-states-at c = omega (arith, (link_named c.link.ensures c.in_ok-link.was).below, c.requires.0.sized.base.states)

pub returns-then-states-at-eq-FROZEN : goal.returns-then-states-at-eq-FROZEN
unfolding refused_by
returns-then-states-at-eq-FROZEN c =
    (state_refused set-names (link_named c.link.ensures c.in_ok-link.was).right c.if-states-at-eq-FROZEN.true, c.requires.1)

pub bounds-links-at : goal.bounds-links-at
bounds-links-at c =
    let named = link_named c.link.ensures c.in_ok-link.was in
    omega (arith, named.below, named.inside, c.requires.0.sized.base.links)

pub follow-requires : goal.follow-requires
follow-requires c = set_followable c.requires.0 (link_named c.link.ensures c.in_ok-link.was) c.requires.1

pub set_place-freed-requires : goal.set_place-freed-requires
set_place-freed-requires c =
    record { ready = c.requires.0; room = c.requires.2; named = link_named c.link.ensures c.in_ok-link.was; other = c.if-states-at-eq-FROZEN.false }

pub returns : goal.returns
returns c =
    let named = link_named c.link.ensures c.in_ok-link.was in
    let did = c.set_place-freed.ensures.did in
    (did, set_into (record { ready = c.requires.0; room = c.requires.2; named = named; other = c.if-states-at-eq-FROZEN.false }) c.requires.1 c.follow.ensures did)

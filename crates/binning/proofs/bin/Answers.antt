-- `binning::bin`: each refusal is the first row that applies; otherwise the work's promise is the command's.
use Rattle.std.proofs.Common.{arith}
use Rattle.std.proofs.lemmas.Result.{err_from_is_err_and}
use Rattle.rules.specs.Calls.{refused_by}
use Rattle.naming.specs.Told.{piece_wrong, piece_named}
use Rattle.naming.specs.Names.{wrong_did}
use Rattle.editing.specs.Names.{bin_names, state_refused}
use Rattle.editing.specs.Bin.{bin_linked, bin_alone}
use Rattle.editing.specs.Into.{bin_forgetting, bin_into}
use Rattle.binning.proofs.bin.Goals as goal

pub returns-in_err-piece : goal.returns-in_err-piece
unfolding refused_by
returns-in_err-piece c =
    let p = err_from_is_err_and c.from_residual.result c.from_residual.ensures.1 in
    rw (p.1, p.2) (wrong_did bin_names.first (piece_wrong c.piece.ensures c.in_err-piece.was), c.requires.1)

pub bounds-states-at : goal.bounds-states-at
bounds-states-at c = omega (arith, (piece_named c.piece.ensures c.in_ok-piece.was).below, c.requires.0.sized.base.states)

pub returns-then-states-at-eq-FROZEN : goal.returns-then-states-at-eq-FROZEN
unfolding refused_by
returns-then-states-at-eq-FROZEN c =
    (state_refused bin_names (piece_named c.piece.ensures c.in_ok-piece.was).right c.if-states-at-eq-FROZEN.true, c.requires.1)

pub bounds-into-at : goal.bounds-into-at
bounds-into-at c =
    let named = piece_named c.piece.ensures c.in_ok-piece.was in
    omega (arith, named.below, c.requires.1.size)

pub returns-then-into-at-ne0 : goal.returns-then-into-at-ne0
returns-then-into-at-ne0 c =
    let named = piece_named c.piece.ensures c.in_ok-piece.was in
    (bin_linked c.requires.0 named c.if-states-at-eq-FROZEN.false c.requires.1 c.if-into-at-ne0.true, c.requires.1)

pub forget-requires : goal.forget-requires
forget-requires c =
    let named = piece_named c.piece.ensures c.in_ok-piece.was in
    bin_forgetting c.requires.0 named c.requires.1

pub bin_draft-freed-requires : goal.bin_draft-freed-requires
bin_draft-freed-requires c =
    let named = piece_named c.piece.ensures c.in_ok-piece.was in
    let alone = bin_alone c.requires.0 named c.if-states-at-eq-FROZEN.false c.requires.1 c.if-into-at-ne0.false in
    record { ready = c.requires.0; room = c.requires.2; named = named; other = c.if-states-at-eq-FROZEN.false; alone = alone }

pub returns : goal.returns
returns c =
    let named = piece_named c.piece.ensures c.in_ok-piece.was in
    let alone = bin_alone c.requires.0 named c.if-states-at-eq-FROZEN.false c.requires.1 c.if-into-at-ne0.false in
    let did = c.bin_draft-freed.ensures.did in (
      did,
      bin_into (record { ready = c.requires.0; room = c.requires.2; named = named; other = c.if-states-at-eq-FROZEN.false; alone = alone }) c.requires.1
          c.if-into-at-ne0.false c.forget.ensures did,
    )

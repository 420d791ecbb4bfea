-- `holding::release` meets its contract. Each refusal is the first row that applies; otherwise the work's promise is the command's, and the seat's line follows.
use Rattle.std.proofs.lemmas.Result.{err_from_is_err_and}
use Rattle.std.proofs.Common.{sym, ◌∙◌, arith}
use Rattle.rules.specs.Calls.{refused_by}
use Rattle.laws.specs.Calls.{ready_tables}
use Rattle.laws.specs.Seated.{release_takes, release_itself, any_release, refused_seat, refused_tables, refused_yours, done_less}
use Rattle.naming.specs.Told.{piece_wrong, piece_named}
use Rattle.naming.specs.Names.{wrong_did}
use Rattle.editing.specs.Names.{release_names, state_refused}
use Rattle.editing.specs.Holds.{release_held, release_accepted}
use Rattle.holding.proofs.release.Goals as goal

pub returns-then-seat-ge-SEATS : goal.returns-then-seat-ge-SEATS
returns-then-seat-ge-SEATS c = refused_seat release_takes.seat c.if-seat-ge-SEATS.true

pub returns-in_err-piece : goal.returns-in_err-piece
unfolding refused_by
returns-in_err-piece c =
    let e = err_from_is_err_and c.from_residual.result c.from_residual.ensures.1 in
    rw (e.1, e.2) (
    refused_tables release_takes.seat release_itself c.if-seat-ge-SEATS.false
    (wrong_did release_names.first (piece_wrong c.piece.ensures c.in_err-piece.was))
    )

pub bounds-states-at : goal.bounds-states-at
bounds-states-at c = omega (arith, (piece_named c.piece.ensures c.in_ok-piece.was).below, c.requires.0.sized.tables.base.states)

pub returns-then-states-at-eq-DRAFT : goal.returns-then-states-at-eq-DRAFT
unfolding refused_by
returns-then-states-at-eq-DRAFT c =
    refused_tables release_takes.seat release_itself c.if-seat-ge-SEATS.false
    (state_refused release_names (piece_named c.piece.ensures c.in_ok-piece.was).right c.if-states-at-eq-DRAFT.true)

pub bounds-holds-at : goal.bounds-holds-at
bounds-holds-at c =
    let sized = c.requires.0.sized.tables in
    omega (arith, (piece_named c.piece.ensures c.in_ok-piece.was).below, sized.base.holds, sized.counts)

pub returns-then-holds-at-eq0 : goal.returns-then-holds-at-eq0
returns-then-holds-at-eq0 c =
    refused_tables release_takes.seat release_itself c.if-seat-ge-SEATS.false
    (any_release (release_held (piece_named c.piece.ensures c.in_ok-piece.was) c.if-states-at-eq-DRAFT.false c.if-holds-at-eq0.true))

pub returns-then-number_at-eq0 : goal.returns-then-number_at-eq0
returns-then-number_at-eq0 c =
    refused_yours release_takes release_itself c.if-seat-ge-SEATS.false
    (release_accepted {list = c.args.list.now} (record {
      ready = ready_tables c.requires.0;
      room = c.requires.1;
      named = piece_named c.piece.ensures c.in_ok-piece.was;
      other = c.if-states-at-eq-DRAFT.false;
      some = c.if-holds-at-eq0.false;
    }) c.args.seat)
    (sym c.number_at.ensures ∙ c.if-number_at-eq0.true)

pub let_hold_go-freed-requires : goal.let_hold_go-freed-requires
let_hold_go-freed-requires c = record {
  ready = ready_tables c.requires.0;
  room = c.requires.1;
  named = piece_named c.piece.ensures c.in_ok-piece.was;
  other = c.if-states-at-eq-DRAFT.false;
  some = c.if-holds-at-eq0.false;
}

pub returns : goal.returns
returns c =
    done_less release_takes release_itself c.if-seat-ge-SEATS.false (λ e. c.if-number_at-eq0.false (c.number_at.ensures ∙ e))
    (any_release c.let_hold_go-freed.ensures.did) c.less.ensures

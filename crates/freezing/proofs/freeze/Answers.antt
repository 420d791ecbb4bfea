-- `freezing::freeze` does what the rules do: a draft is frozen, and of any other piece that the seat does not hold freeze is acquire.
use Rattle.std.proofs.Common.{not, sym, ap, ◌∙◌, arith}
use Rattle.std.proofs.lemmas.Result.{err_from_is_err_and}
use Rattle.rules.specs.Calls.{refused_by}
use Rattle.laws.specs.Calls.{ready_tables}
use Rattle.laws.specs.Seated.{freeze_adds, refused_seat, refused_tables}
use Rattle.naming.specs.Told.{piece_wrong, piece_named}
use Rattle.naming.specs.Names.{wrong_did}
use Rattle.holding.specs.Acquired.{acquiring_of, one_more_lem, room_told, limited, crowded, acquired_did}
use Rattle.into.specs.Stores.{with_into, into_ready, ready_by}
use Rattle.freezing.specs.Again.{freeze_names, freeze_crowded, freeze_did, acquire_did}
use Rattle.freezing.specs.Twice.{twice_did, draft_unheld, wrong_itself}
use Rattle.freezing.proofs.freeze.Goals as goal

pub returns-then-seat-ge-SEATS-clause-did : goal.returns-then-seat-ge-SEATS-clause-did
returns-then-seat-ge-SEATS-clause-did c =
    with_into (into_ready c.requires.0) (into_ready c.requires.0) (refused_seat freeze_adds.seat c.if-seat-ge-SEATS.true)

pub returns-in_err-piece-clause-did : goal.returns-in_err-piece-clause-did
unfolding refused_by
returns-in_err-piece-clause-did c =
    let wrong = piece_wrong c.piece.ensures c.in_err-piece.was in
    let p = err_from_is_err_and c.from_residual.result c.from_residual.ensures.1 in
    rw (p.1, p.2)
    (with_into (into_ready c.requires.0) (into_ready c.requires.0)
    (refused_tables freeze_adds.seat (wrong_itself (ready_by c.requires.0) wrong) c.if-seat-ge-SEATS.false (wrong_did freeze_names wrong)))

pub bounds-states-q : goal.bounds-states-q
bounds-states-q c = omega (arith, (piece_named c.piece.ensures c.in_ok-piece.was).below, c.requires.0.sized.tables.base.states)

-- a draft
pub returns-then-not-has_room-clause-did : goal.returns-then-not-has_room-clause-did
returns-then-not-has_room-clause-did c =
    with_into (into_ready c.requires.0) (into_ready c.requires.0)
    (freeze_crowded (ready_by c.requires.0) c.if-seat-ge-SEATS.false (piece_named c.piece.ensures c.in_ok-piece.was) c.if-states-q-eq-DRAFT.true
    (ap not c.if-not-has_room.true) c.has_room.ensures)

pub freeze_draft-requires : goal.freeze_draft-requires
freeze_draft-requires c = (
  record {
    ready = ready_tables c.requires.0;
    wide = c.requires.1;
    below = (piece_named c.piece.ensures c.in_ok-piece.was).below;
    is = c.if-states-q-eq-DRAFT.true;
  },
  into_ready c.requires.0,
)

pub first-requires : goal.first-requires
first-requires c = (
  c.requires.0.sound.register.ordered,
  c.find-line.ensures,
  room_told c.args.register.now c.args.seat c.args.p (ap not c.if-not-has_room.false) c.has_room.ensures,
  draft_unheld (ready_by c.requires.0) c.args.p c.args.seat c.if-states-q-eq-DRAFT.true,
)

pub returns-then-states-q-eq-DRAFT-clause-did : goal.returns-then-states-q-eq-DRAFT-clause-did
returns-then-states-q-eq-DRAFT-clause-did c =
    with_into (into_ready c.requires.0) c.freeze_draft.ensures.named
    (freeze_did (ready_by c.requires.0) c.if-seat-ge-SEATS.false (piece_named c.piece.ensures c.in_ok-piece.was) c.if-states-q-eq-DRAFT.true
    (ap not c.if-not-has_room.false) c.has_room.ensures c.freeze_draft.ensures.frozen c.first.ensures c.fresh.ensures)

-- any other piece
pub returns-then-number_at-ne0-clause-did : goal.returns-then-number_at-ne0-clause-did
returns-then-number_at-ne0-clause-did c =
    with_into (into_ready c.requires.0) (into_ready c.requires.0)
    (twice_did (ready_by c.requires.0) (λ e. c.if-number_at-ne0.true (c.number_at.ensures ∙ e)) c.fresh-then-number_at-ne0.ensures)

pub bounds-holds-q : goal.bounds-holds-q
bounds-holds-q c = omega (arith, (piece_named c.piece.ensures c.in_ok-piece.was).below, c.requires.0.sized.tables.base.holds)

pub returns-then-holds-q-ge-HOLDS-clause-did : goal.returns-then-holds-q-ge-HOLDS-clause-did
returns-then-holds-q-ge-HOLDS-clause-did c =
    let named = piece_named c.piece.ensures c.in_ok-piece.was in
    let ready = ready_by c.requires.0 in
    let did = limited ready c.if-seat-ge-SEATS.false named c.if-states-q-eq-DRAFT.false c.if-holds-q-ge-HOLDS.true in
    with_into (into_ready c.requires.0) (into_ready c.requires.0)
    (acquire_did ready c.if-seat-ge-SEATS.false named c.if-states-q-eq-DRAFT.false (sym c.number_at.ensures ∙ c.if-number_at-ne0.false) did)

pub returns-then-not-has_room-2-clause-did : goal.returns-then-not-has_room-2-clause-did
returns-then-not-has_room-2-clause-did c =
    let named = piece_named c.piece.ensures c.in_ok-piece.was in
    let ready = ready_by c.requires.0 in
    let did = crowded ready c.if-seat-ge-SEATS.false named c.if-states-q-eq-DRAFT.false c.if-holds-q-ge-HOLDS.false (ap not c.if-not-has_room-2.true) c.has_room-2.ensures in
    with_into (into_ready c.requires.0) (into_ready c.requires.0)
    (acquire_did ready c.if-seat-ge-SEATS.false named c.if-states-q-eq-DRAFT.false (sym c.number_at.ensures ∙ c.if-number_at-ne0.false) did)

pub add_hold-requires : goal.add_hold-requires
add_hold-requires c =
    one_more_lem (acquiring_of (ready_by c.requires.0)) (piece_named c.piece.ensures c.in_ok-piece.was) c.if-states-q-eq-DRAFT.false c.if-holds-q-ge-HOLDS.false

pub returns-clause-did : goal.returns-clause-did
returns-clause-did c =
    let named = piece_named c.piece.ensures c.in_ok-piece.was in
    let ready = ready_by c.requires.0 in
    let did = acquired_did ready c.if-seat-ge-SEATS.false named c.if-states-q-eq-DRAFT.false c.if-holds-q-ge-HOLDS.false (ap not c.if-not-has_room-2.false)
    c.has_room-2.ensures c.add_hold.ensures c.first-2.ensures c.fresh-2.ensures in
    with_into (into_ready c.requires.0) (into_ready c.requires.0)
    (acquire_did ready c.if-seat-ge-SEATS.false named c.if-states-q-eq-DRAFT.false (sym c.number_at.ensures ∙ c.if-number_at-ne0.false) did)

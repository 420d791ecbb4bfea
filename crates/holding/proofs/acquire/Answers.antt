-- `holding::acquire` meets its contract. Each refusal is the first row that applies; the seat's line and the count of p's group follow the hold.
use Rattle.std.proofs.lemmas.Result.{err_from_is_err_and}
use Rattle.std.proofs.Common.{not, ap, arith}
use Rattle.rules.specs.Calls.{refused_by}
use Rattle.laws.specs.Seated.{acquire_adds, acquire_itself, refused_seat, refused_tables}
use Rattle.naming.specs.Told.{piece_wrong, piece_named}
use Rattle.naming.specs.Names.{wrong_did}
use Rattle.editing.specs.Names.{acquire_names, state_refused}
use Rattle.holding.specs.Acquired.{one_more_lem, few_held, room_told, limited, crowded, acquired_did}
use Rattle.holding.proofs.acquire.Goals as goal

pub returns-then-seat-ge-SEATS : goal.returns-then-seat-ge-SEATS
returns-then-seat-ge-SEATS c = record { did = λ ready. refused_seat acquire_adds.seat c.if-seat-ge-SEATS.true }

pub returns-in_err-piece : goal.returns-in_err-piece
unfolding refused_by
returns-in_err-piece c =
    let e = err_from_is_err_and c.from_residual.result c.from_residual.ensures.1 in
    rw (e.1, e.2) (record {
      did = λ ready. refused_tables acquire_adds.seat acquire_itself c.if-seat-ge-SEATS.false
          (wrong_did acquire_names.first (piece_wrong c.piece.ensures c.in_err-piece.was));
    })

pub bounds-states-at : goal.bounds-states-at
bounds-states-at c = omega (arith, (piece_named c.piece.ensures c.in_ok-piece.was).below, c.requires.states_n)

pub returns-then-states-at-eq-DRAFT : goal.returns-then-states-at-eq-DRAFT
unfolding refused_by
returns-then-states-at-eq-DRAFT c = record {
  did = λ ready. refused_tables acquire_adds.seat acquire_itself c.if-seat-ge-SEATS.false
      (state_refused acquire_names (piece_named c.piece.ensures c.in_ok-piece.was).right c.if-states-at-eq-DRAFT.true);
}

pub bounds-holds-at : goal.bounds-holds-at
bounds-holds-at c = omega (arith, (piece_named c.piece.ensures c.in_ok-piece.was).below, c.requires.holds_n)

pub returns-then-holds-at-ge-HOLDS : goal.returns-then-holds-at-ge-HOLDS
returns-then-holds-at-ge-HOLDS c = record {
  did = λ ready. limited ready c.if-seat-ge-SEATS.false (piece_named c.piece.ensures c.in_ok-piece.was) c.if-states-at-eq-DRAFT.false
      c.if-holds-at-ge-HOLDS.true;
}

pub returns-then-not-has_room : goal.returns-then-not-has_room
returns-then-not-has_room c = record {
  did = λ ready. crowded ready c.if-seat-ge-SEATS.false (piece_named c.piece.ensures c.in_ok-piece.was) c.if-states-at-eq-DRAFT.false
      c.if-holds-at-ge-HOLDS.false (ap not c.if-not-has_room.true) c.has_room.ensures;
}

pub add_hold-requires : goal.add_hold-requires
add_hold-requires c =
    one_more_lem c.requires (piece_named c.piece.ensures c.in_ok-piece.was) c.if-states-at-eq-DRAFT.false c.if-holds-at-ge-HOLDS.false

pub more-requires : goal.more-requires
more-requires c = (
  c.requires.right.ordered,
  c.find-line.ensures,
  room_told c.args.register.now c.args.seat c.args.p (ap not c.if-not-has_room.false) c.has_room.ensures,
  few_held c.requires.right c.args.seat c.args.p,
)

pub returns : goal.returns
returns c = record {
  did = λ ready. acquired_did ready c.if-seat-ge-SEATS.false (piece_named c.piece.ensures c.in_ok-piece.was) c.if-states-at-eq-DRAFT.false
      c.if-holds-at-ge-HOLDS.false (ap not c.if-not-has_room.false) c.has_room.ensures c.add_hold.ensures c.more.ensures c.fresh.ensures;
}

-- `looking::look` answers what the rules do: each return cites the law of its case.
use Rattle.std.proofs.Common.{rules}
use Rattle.std.proofs.lemmas.Result.{err_from_is_err_and}
use Rattle.rules.specs.Calls.{refused_by}
use Rattle.naming.specs.Told.{piece_wrong, piece_named}
use Rattle.naming.specs.Names.{wrong_did}
use Rattle.looking.proofs.Laws.{look_names, look_did}
use Rattle.looking.proofs.look.Goals as goal

pub returns-in_err-piece : goal.returns-in_err-piece
unfolding refused_by
returns-in_err-piece c =
    let e = err_from_is_err_and c.from_residual.result c.from_residual.ensures.1 in
    rw (e.1, e.2) (wrong_did look_names (piece_wrong c.piece.ensures c.in_err-piece.was))

pub returns : goal.returns
returns c = look_did c.requires (piece_named c.piece.ensures c.in_ok-piece.was) (search rules)

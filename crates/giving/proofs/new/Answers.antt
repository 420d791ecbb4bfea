-- `giving::new` gives out the lowest free number: each return cites the law of its case.
use Rattle.std.proofs.Common.{arith}
use Rattle.giving.proofs.Laws.{full_did, new_did}
use Rattle.giving.proofs.new.Goals as goal

pub returns-then-p-n : goal.returns-then-p-n
returns-then-p-n c = record { did = λ ready. full_did c.lowest_free-p.ensures c.if-p-n.true }

pub returns : goal.returns
returns c =
    let found = c.lowest_free-p.ensures in
    record { did = λ ready. new_did ready found (omega (arith, found.most)) }

-- `reader::end_by_byte` stops at the first byte 10; the last byte of the text is one.
use Rattle.std.proofs.Common.{rules, ◌≡◌}
use Rattle.std.proofs.lemmas.Iterator.{IsFirst-from_position, YieldsList-from_slice}
use borrow.Author.Tests.{tests}
use Rattle.reader.specs.Blocks.{first_at}
use Rattle.reader.proofs.end_by_byte.Goals as goal

pub returns : goal.returns
returns c =
    first_at
    (rw c.unwrap.ensures at (IsFirst-from_position _ _ c.position.result (λ x. x ≡ 10) (λ x. x ≡ 10 → ⊥) c.position.ensures.ran
    (YieldsList-from_slice _ c.iter.ensures.rest) (λ x q k. search (rules, tests)) (λ x q k. search (rules, tests))))

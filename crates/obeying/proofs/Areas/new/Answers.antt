-- What stands passes the test that the areas keep.
use Rattle.obeying.specs.Tested.{tested}
use Rattle.obeying.proofs.Areas.new.Goals as goal

pub invariant_of-result : goal.invariant_of-result
invariant_of-result c = record { tested = tested c.requires }

-- The store stands by the test that the areas keep.
use Rattle.obeying.specs.Tested.{stands_by}
use Rattle.obeying.proofs.Areas.tables.Goals as goal

pub returns-clause-stands : goal.returns-clause-stands
returns-clause-stands c = stands_by c.args.self.now.tested

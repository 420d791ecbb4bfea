-- The store stands by the test that the areas keep.
use Rattle.obeying.specs.Tested.{stands_by}
use Rattle.obeying.proofs.Areas.stands.Goals as goal

pub returns : goal.returns
returns c = stands_by c.args.self.now.tested

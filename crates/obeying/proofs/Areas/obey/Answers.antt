-- `Areas::obey` is `obey` on the areas: the store stands before it by the test that they keep, and again after it.
use Rattle.obeying.specs.Tested.{tested, stands_by}
use Rattle.obeying.proofs.Areas.obey.Goals as goal

pub obey-done-requires : goal.obey-done-requires
obey-done-requires c = stands_by c.args.self.now.tested

pub invariant_of-self : goal.invariant_of-self
invariant_of-self c = record { tested = tested c.obey-done.ensures.stands }

pub returns-clause-stood : goal.returns-clause-stood
returns-clause-stood c = stands_by c.args.self.now.tested

-- `freezing::find` meets its contract: p alone leads itself, else the search finds the leaders, once the queue is unmarked.
use Rattle.freezing.specs.Found.{found_alone, unmarkable, visitable, found_search}
use Rattle.freezing.proofs.find.Goals as goal

pub returns-then-queue-eq1 : goal.returns-then-queue-eq1
returns-then-queue-eq1 c = found_alone c.requires c.if-queue-eq1.true

pub unmark-requires : goal.unmark-requires
unmark-requires c = unmarkable c.requires

pub visit-requires : goal.visit-requires
visit-requires c = visitable c.requires c.unmark.ensures

pub returns : goal.returns
returns c = found_search c.requires c.unmark.ensures c.visit.ensures

-- `groups::visit` meets its contract: one search from the root, where all that it reaches is unseen.
use Rattle.rules.specs.Reach.{here}
use Rattle.groups.specs.Root.{search_start, search_end}
use Rattle.groups.proofs.visit.Goals as goal

pub search-requires : goal.search-requires
search-requires c = record { started = search_start c.requires; unseen = (c.requires.zeros c.args.root c.requires.root_lt (c.requires.root_in, here)).0 }

pub returns : goal.returns
returns c = search_end c.requires c.search.auto.work c.search.ensures

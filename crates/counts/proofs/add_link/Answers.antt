-- `counts::add_link` meets its contract: each return is one case of a place that names the target.
use Rattle.std.proofs.Common.{refl}
use Rattle.tallies.specs.Places.{link_past, link_none, link_same, link_hit}
use Rattle.counts.proofs.add_link.Goals as goal

pub returns-then-n-t : goal.returns-then-n-t
returns-then-n-t c = link_past c.requires.labelled c.if-n-t.true

pub returns-then-n-l : goal.returns-then-n-l
returns-then-n-l c = link_none c.requires.labelled c.if-n-t.false c.if-n-l.true

pub returns-then-l-own : goal.returns-then-l-own
returns-then-l-own c = link_same c.requires.labelled c.if-n-t.false c.if-l-own.true

pub returns : goal.returns
returns c = link_hit c.requires.labelled c.if-n-t.false refl c.if-n-l.false c.if-l-own.false

-- `sound::links_well` meets its contract: each link is tested and counted, until the word tells that those left are empty.
use Rattle.sound.specs.Links.{places_start, tested_empty, next-given, next-well, rest-tested}
use Rattle.sound.proofs.links_well.Goals as goal

pub returns-then-word : goal.returns-then-word
returns-then-word c = tested_empty c.requires c.four-word.ensures c.if-word.true

pub loop-k-init : goal.loop-k-init
loop-k-init c = places_start c.requires

pub returns-then-rest_empty : goal.returns-then-rest_empty
returns-then-rest_empty c =
    rest-tested c.requires c.loop-k.invariant c.loop-k-test.true c.four-word.ensures (c.rest_empty.ensures.yes c.if-rest_empty.true)

pub link_well-requires : goal.link_well-requires
link_well-requires c = next-given c.requires c.loop-k.invariant c.loop-k-test.true c.if-state-eq-FREE.false

pub loop-k-preserved : goal.loop-k-preserved
loop-k-preserved c = next-well c.requires c.loop-k.invariant c.loop-k-test.true c.label-own.ensures c.link_well.ensures c.if-not-link_well.false

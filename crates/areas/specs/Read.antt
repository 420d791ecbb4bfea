-- The store's tables as they are read.
use Rattle.rules.specs.Tables.{Tables, tables_of}
use Rattle.areas.specs.declared.Tables.{Tables as Read}

-- the tables that the areas hold
abbrev pub told : Read → Tables
told t = tables_of t.n t.states.now t.links.now t.leaders.now t.holds.now t.counts.now

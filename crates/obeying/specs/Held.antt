-- What the areas hold, and that they are the same areas as before.
use Rattle.std.specs.Prelude.{◌≡◌, refl}
use Rattle.std.proofs.Common.{◌∙◌}
use Rattle.rules.specs.Tables.{store_of}
use Rattle.obeying.specs.Standing.{Standing}
use Rattle.obeying.specs.declared.Areas.{Areas}

-- what they hold
abbrev pub held : Areas → Standing
held a = record {
  store = store_of a.n a.states.now a.links.now a.leaders.now a.holds.now a.counts.now a.register.now a.into.now;
  list = a.list.now;
  work = a.work.now;
  from = a.from;
}

-- the capacity is the same, and each area is the same lent one: what it holds at the end, its lender holds
pub record Same (a b : Areas) : Type 0 where
  pub n : b.n ≡ a.n
  pub states : b.states.ghost_name ≡ a.states.ghost_name
  pub links : b.links.ghost_name ≡ a.links.ghost_name
  pub leaders : b.leaders.ghost_name ≡ a.leaders.ghost_name
  pub holds : b.holds.ghost_name ≡ a.holds.ghost_name
  pub counts : b.counts.ghost_name ≡ a.counts.ghost_name
  pub register : b.register.ghost_name ≡ a.register.ghost_name
  pub into : b.into.ghost_name ≡ a.into.ghost_name
  pub list : b.list.ghost_name ≡ a.list.ghost_name
  pub work : b.work.ghost_name ≡ a.work.ghost_name

-- ---- laws

pub same_areas : {a : Areas} → Same a a
same_areas = record { n = refl; states = refl; links = refl; leaders = refl; holds = refl; counts = refl; register = refl; into = refl; list = refl; work = refl }

pub same_on : {a b c : Areas} → Same a b → Same b c → Same a c
same_on x y = record {
  n = y.n ∙ x.n;
  states = y.states ∙ x.states;
  links = y.links ∙ x.links;
  leaders = y.leaders ∙ x.leaders;
  holds = y.holds ∙ x.holds;
  counts = y.counts ∙ x.counts;
  register = y.register ∙ x.register;
  into = y.into ∙ x.into;
  list = y.list ∙ x.list;
  work = y.work ∙ x.work;
}

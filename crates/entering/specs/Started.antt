-- From start's test of the sizes to its promise: areas of the right sizes are filled, others are left.
use Rattle.std.specs.Prelude.{◌≡◌, refl, Bool, true, false, not, List, [], ℕ, length, replicate, Err}
use Rattle.std.proofs.Common.{sym, ap, ◌∙◌}
use Rattle.rules.specs.Tests.{◌&◌}
use Rattle.rules.specs.Limits.{none, entries}
use Rattle.rules.specs.Tables.{Tables, Store, empty_tables, empty}
use Rattle.rules.specs.Words.{Sized, SizedStore}
use Rattle.rules.specs.Calls.{start, areas_of, answered, outcome, fresh, Promise, takes_list, takes_work, is_sized_store, is_lent, later_refusals, refused_call, accepted_call, cleared}
use Rattle.rules.specs.declared.Refusal.TheVariants.{Size}
use Rattle.laws.specs.Calls.{accepted_outcome, short}
use Rattle.entering.specs.Judged.{denied, granted, sizes}
use Rattle.entering.specs.Calls.{lent_accepted}
use Rattle.rules.specs.Replies.{Answer}

-- every entry is v
abbrev Fills : ℕ → List ℕ → List ℕ → Type 0
Fills v before after = after ≡ replicate (length before) v

-- what start fills, with what empty tables have
pub record Filled (t t' : Tables) : Type 0 where
  pub n : t'.base.n ≡ t.base.n
  pub states : Fills 0 t.base.states t'.base.states
  pub links : Fills none t.base.links t'.base.links
  pub leaders : Fills none t.leaders t'.leaders
  pub holds : Fills 0 t.base.holds t'.base.holds
  pub counts : Fills 0 t.counts t'.counts

-- an area of a length, filled
full : (v : ℕ) (l : List ℕ) {k : ℕ} {x : List ℕ} → length l ≡ k → Fills v l x → x ≡ replicate k v
full v l h f = f ∙ ap (λ (m : ℕ). replicate m v) h

filled : (t t' : Tables) → Sized t → Filled t t' → t' ≡ empty_tables t.base.n
unfolding empty_tables
filled t t' z f = λ i. record {
  base = record {
    n = f.n i;
    states = full 0 t.base.states z.base.states f.states i;
    links = full none t.base.links z.base.links f.links i;
    holds = full 0 t.base.holds z.base.holds f.holds i;
  };
  leaders = full none t.leaders z.leaders f.leaders i;
  counts = full 0 t.counts z.counts f.counts i;
}

-- with no line of the register used, and nothing named
emptied : {s s' : Store} → SizedStore s → Filled s.tables s'.tables → s'.register ≡ replicate entries 0 → Fills 0 s.into s'.into
    → s' ≡ empty s.tables.base.n
unfolding empty
emptied {s} {s'} z f e g = λ i. record {
  tables = filled s.tables s'.tables z.tables f i;
  register = e i;
  into = full 0 s.into z.into g i;
}

start_lent : (s : Store) → is_lent (areas_of s [] []) start ≡ is_sized_store s
unfolding is_lent takes_list takes_work
start_lent s = go (is_sized_store s)
  where
    go : (b : Bool) → (b & true & true) ≡ b
    go true = refl
    go false = refl

pub start_short : {s : Store} {r : Bool} → not r ≡ true → r ≡ is_sized_store s
    → Promise start (areas_of s [] []) (outcome (answered (Err Size)) (areas_of s [] []))
unfolding refused_call
start_short {s} e f = short (areas_of s [] []) start (rw start_lent (denied e f))

pub start_done : {s s' : Store} {r : Bool} {a : Answer} → not r ≡ false → r ≡ is_sized_store s → a ≡ fresh → Filled s.tables s'.tables
    → s'.register ≡ replicate entries 0 → Fills 0 s.into s'.into → Promise start (areas_of s [] []) (outcome (answered a) (areas_of s' [] []))
unfolding accepted_call cleared takes_work
start_done {s} {s'} e f is at none named = record {
  exact =
      (λ i. outcome (answered (is i)) (areas_of (emptied (sizes e f).1 at none named i) [] []))
      ∙ sym (accepted_outcome (areas_of s [] []) start (lent_accepted _ start (unfold later_refusals in refl) (rw start_lent (granted e f))));
}

-- Set and bin keep the links into each draft right: over the edited base, and then where what is no longer kept is freed.
use Rattle.std.specs.Prelude.{◌≡◌, Bool, true, ℕ, ◌+◌, ◌*◌, ◌/◌, ◌≤◌, ◌<◌, eqb, get_or, set}
use Rattle.std.proofs.Math.Path.{refl, sym, ap}
use Rattle.std.proofs.Common.{◌∙◌, subst, arith}
use Rattle.std.proofs.Math.Logic.{⊎_elim}
use mathlib.Core.List.{List}
use Rattle.std.proofs.Math.Dec.{T_not, eqb→eq}
use Rattle.rules.specs.Lists.{◌!◌}
use Rattle.rules.specs.Limits.{none}
use Rattle.rules.specs.Tests.{pick}
use Rattle.rules.specs.Tables.{Base, Tables, finish}
use Rattle.rules.specs.Words.{Well}
use Rattle.rules.specs.Commands.{Verdict, accepted, with_links, free_all, gone, edit, settles, after, next_tables}
use Rattle.rules.specs.Calls.{Reply, Ready}
use Rattle.rules.specs.declared.Command.{Command}
use Rattle.rules.specs.declared.Command.TheVariants.{Set, Bin}
use Rattle.laws.specs.ByTables.{TablesEffect, tables_effect, tables_effected, DidTables, accepts}
use Rattle.laws.specs.Below.{T_dec, pick_true, pick-false, get_or-table}
use Rattle.laws.specs.Words.{eqb_of}
use Rattle.laws.specs.Passes.{Passes}
use Rattle.into.specs.Named.{hit}
use Rattle.into.specs.Into.{Into}
use Rattle.into.specs.Moves.{Followable, Followed}
use Rattle.into.specs.Forgotten.{Forgetting, Forgotten, emptied, emptied_in, emptied_other, into_gone}
use Rattle.into.specs.Bases.{into_same, into_settled}
use Rattle.into.specs.Stores.{IntoBase}
use Rattle.naming.specs.Told.{NamedPiece, NamedLink}
use Rattle.editing.specs.Set.{Setting, set_passes, own, wells_e, edit_is}
use Rattle.editing.specs.Bin.{Binning, bin_passes}
use Rattle.editing.specs.Bin as bin

-- what an accepted command that settles leaves
settled_into : {c : Command} {s s' : Tables} {l l' into : List ℕ} {a : Reply} (e : Base) → e ≡ edit s.base c → e.n ≤ 1024 → ((q : ℕ) → q < e.n → Well e q)
    → Passes s.base c → settles c ≡ true → IntoBase e into → DidTables c s l (tables_effect a s' l') → IntoBase s'.base into
settled_into {c} {s} {s'} {l} {into = into} e is small wells passed on x d =
    subst (λ (b : Base). IntoBase b into) (sym (ap (λ (o : TablesEffect). o.tables.base) d.exact ∙ ap (λ (v : Verdict). (tables_effected s l c v).tables.base) (accepts passed) ∙ next))
    (into_settled e small wells x)
  where
    next : (tables_effected s l c accepted).tables.base ≡ free_all e (gone e)
    next = unfold tables_effected next_tables finish after in
        (ap (λ (t : Bool). pick t (free_all (edit s.base c) (gone (edit s.base c))) (edit s.base c)) on ∙ ap (λ (x : Base). free_all x (gone x)) (sym is))

pub set_followable : {s : Tables} {into : List ℕ} {p k t : ℕ} → Ready s → NamedLink s.base.n s.base.states p k t → IntoBase s.base into
    → Followable s.base.n s.base.states into p (s.base.links ! (4 * p + k))
set_followable {s} {p = p} {k} ready named x = record {
  small = ready.sized.base.most;
  states_n = ready.sized.base.states;
  links = s.base.links;
  counted = x;
  place = 4 * p + k;
  inside = omega (arith, named.below, named.inside);
  of = omega (arith, named.inside);
  names = refl;
}

module _ {s : Tables} {list into : List ℕ} {p k t : ℕ} (g : Setting s list p k t) (x : IntoBase s.base into) where
  pub set_into : {into' l' : List ℕ} {a : Reply} {s' : Tables} → Followed s.base.n s.base.states p (s.base.links ! (4 * p + k)) t into into'
      → DidTables (Set p k t) s list (tables_effect a s' l') → IntoBase s'.base into'
  set_into f d =
      settled_into (with_links s.base (set s.base.links (4 * p + k) t)) (edit_is g) (unfold with_links in g.ready.sized.base.most) (wells_e g) (set_passes g) (unfold settles in refl)
      (unfold with_links in (f.on x (omega (arith, g.named.below, g.named.inside)) (omega (arith, g.named.below, g.named.inside, g.ready.sized.base.links)) (own g) refl)) d

pub bin_forgetting : {s : Tables} {into : List ℕ} {p : ℕ} → Ready s → NamedPiece s.base.n s.base.states p → IntoBase s.base into
    → Forgetting s.base.n s.base.states s.base.links into p
bin_forgetting ready named x = record {
  small = ready.sized.base.most;
  states_n = ready.sized.base.states;
  links_n = ready.sized.base.links;
  below = named.below;
  counted = x;
}

module _ {s : Tables} {list into : List ℕ} {p : ℕ} (g : Binning s list p) (x : IntoBase s.base into) (alone : into ! p ≡ 0) where
  abbrev e : Base
  e = free_all s.base (eqb p)

  -- the places of p are empty, and all others as they were
  place_is : (i : ℕ) → i < 4 * s.base.n → e.links ! i ≡ emptied s.base.links p 4 ! i
  place_is i h = unfold free_all in (get_or-table (λ j. pick (eqb p (j / 4)) none (get_or s.base.links j 0)) (4 * s.base.n) i 0 h ∙ ⊎_elim
      (λ t. let q = eqb→eq p (i / 4) t in pick_true (eqb p (i / 4)) none (s.base.links ! i) t
      ∙ sym (emptied_in s.base.links p 4 i (omega arith) (omega arith) (omega (arith, g.ready.sized.base.links))))
      (λ t. pick-false (eqb p (i / 4)) none (s.base.links ! i) t
      ∙ sym (emptied_other s.base.links p 4 i (λ y. T_not (eqb p (i / 4)) t (eqb_of (sym y))) (omega arith)))
      (T_dec (eqb p (i / 4))))

  pub bin_into : {into' l' : List ℕ} {a : Reply} {s' : Tables} → Forgotten s.base.n s.base.states s.base.links into p 4 into'
      → DidTables (Bin p) s list (tables_effect a s' l') → IntoBase s'.base into'
  bin_into {into'} f d =
      settled_into e is_edit small wells (bin_passes g) is_settling edited d
    where
      is_edit : e ≡ edit s.base (Bin p)
      is_edit = unfold edit in refl

      is_settling : settles (Bin p) ≡ true
      is_settling = unfold settles in refl

      small : e.n ≤ 1024
      small = unfold free_all in g.ready.sized.base.most

      wells : (q : ℕ) → q < e.n → Well e q
      wells = unfold free_all in (bin.wells_e g)

      gone_p : Into s.base.n (set s.base.states p 0) (emptied s.base.links p 4) into'
      gone_p = into_gone f.counted (omega (arith, g.named.below, g.ready.sized.base.states)) (f.own ∙ alone)

      edited : IntoBase e into'
      edited = unfold free_all in (into_same
          (subst (λ (y : List ℕ). Into s.base.n y (emptied s.base.links p 4) into') (bin.states_are g) gone_p)
          (λ q _ h. h) (λ q _ h. h) (λ q i _ _ h. ap (hit q (i / 4)) (place_is i h)))

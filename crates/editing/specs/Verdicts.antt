-- What an accepted command that settles did.
use Rattle.std.specs.Prelude.{◌≡◌, Bool, true, ℕ, ◌≤◌, length}
use Rattle.std.proofs.Math.Path.{sym, ap}
use Rattle.std.proofs.Common.{◌∙◌}
use mathlib.Core.List.{List, []}
use native.Mathlib.Omega.{arith}
use Rattle.rules.specs.Tests.{pick, only_if}
use Rattle.rules.specs.Limits.{none}
use Rattle.rules.specs.Tables.{Base, Tables, finish, tables_of}
use Rattle.rules.specs.Commands.{edit, after, settles, freed_by, free_all, gone, gone_list, next_tables}
use Rattle.rules.specs.Calls.{answered, accepted_by, listing}
use Rattle.rules.specs.declared.Command.{Command}
use Rattle.laws.specs.ByTables.{DidTables, tables_effect}
use Rattle.laws.specs.Counts.{sum-most}
use Rattle.laws.specs.Passes.{Passes}
use Rattle.laws.specs.ByTables.{accepts, did_accepted}
use Rattle.tallies.specs.Sums.{only_if-most}
use Rattle.falling.specs.Listing.{list_many}
use Rattle.falling.specs.Freed.{Settled}
use Rattle.rules.specs.Replies.{done}

-- the work of an accepted command that gives no value: what it did, and that the number freed is small
pub record Worked (c : Command) (s : Tables) (l : List ℕ) (s' : Tables) (l' : List ℕ) (r : ℕ) : Type 0 where
  pub did : DidTables c s l (tables_effect (answered (done none r)) s' l')
  pub few : r ≤ 1024

-- what a letting go from e leaves: these tables, and e's holds
abbrev pub freed_from : Base → List ℕ → List ℕ → List ℕ → List ℕ → Tables
freed_from e states links leaders counts = tables_of e.n states links leaders e.holds counts

module _ {c : Command} {s : Tables} {l : List ℕ} {e : Base} (is : e ≡ edit s.base c) (on : settles c ≡ true) where
  -- the settled tables of the edited base are what the rules leave
  pub settled_did : {states links leaders counts l' : List ℕ} {r : ℕ} → Passes s.base c
      → accepted_by s c ≡ answered (done none (length (freed_by s.base c))) → e.n ≤ 1024 → Settled e l states links leaders counts l' r
      → Worked c s l (freed_from e states links leaders counts) l' r
  settled_did {states} {links} {leaders} {counts} {l'} {r} p says small z =
      record { did = record { exact = tables ∙ turned ∙ (did_accepted c s l (accepts p)).exact }; few = few }
    where
      freed_is : freed_by s.base c ≡ gone_list e
      freed_is = unfold freed_by in (ap (λ (t : Bool). pick t (gone_list (edit s.base c)) []) on ∙ ap gone_list (sym is))

      after_is : after s.base c ≡ free_all e (gone e)
      after_is = unfold after in
          (ap (λ (t : Bool). pick t (free_all (edit s.base c) (gone (edit s.base c))) (edit s.base c)) on
          ∙ ap (λ (x : Base). free_all x (gone x)) (sym is))

      tables : tables_effect (answered (done none r)) (freed_from e states links leaders counts) l'
          ≡ tables_effect (answered (done none (length (gone_list e)))) (finish (free_all e (gone e))) (listing (gone_list e) l)
      tables = unfold free_all finish in λ i. record {
        reply = answered (done none (z.many i));
        tables = tables_of e.n (z.states i) (z.links i) (z.leaders i) (z.holds i) (z.counts i);
        list = z.listed i;
      }

      turned : tables_effect (answered (done none (length (gone_list e)))) (finish (free_all e (gone e))) (listing (gone_list e) l)
          ≡ tables_effect (accepted_by s c) (next_tables s c) (listing (freed_by s.base c) l)
      turned = unfold next_tables in λ i. record {
        reply = (ap (λ (g : List ℕ). answered (done none (length g))) (sym freed_is) ∙ sym says) i;
        tables = ap finish (sym after_is) i;
        list = ap (λ (g : List ℕ). listing g l) (sym freed_is) i;
      }

      few : r ≤ 1024
      few = unfold gone_list in
          omega (
            arith,
            z.many,
            list_many (gone e) e.n,
            sum-most (λ x. only_if (gone e x) 1) 1 e.n (λ x _. only_if-most (gone e x) 1 1 (omega arith)),
          )

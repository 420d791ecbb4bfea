-- After any history the store is sound, at the capacity that it started with.
use Rattle.std.specs.Prelude.{◌≡◌, ℕ, ◌≤◌, List}
use Rattle.std.proofs.Math.Path.{refl, subst}
use Rattle.std.proofs.Common.{sym, ◌∙◌}
use Rattle.rules.specs.Limits.{most}
use Rattle.rules.specs.Tables.{Store, finish, empty_tables, empty}
use Rattle.rules.specs.Commands.{meant, next_tables, next_store}
use Rattle.rules.specs.Calls.{Call}
use Rattle.rules.specs.History.{Event, History, begun, refusing, accepting}
use Rattle.laws.specs.Commands.{after-n}
use Rattle.demands.specs.Sound.{OkStore, empty-ok}
use Rattle.demands.specs.Noted.{good}
use Rattle.demands.specs.Came.{Came, stayed, emptied, stepped, tested, came}
use Rattle.demands.specs.Demand2.{next-ok}

pub record Stands (n : ℕ) (s : Store) : Type 0 where
  pub ok : OkStore s
  pub size : s.tables.base.n ≡ n

pub stands : (n : ℕ) → n ≤ most → {h : List Event} {s : Store} → History n h s → Stands n s
stands n m begun = record { ok = empty-ok n m; size = unfold empty empty_tables in refl }
stands n m (refusing c a o r p t) = stands n m r
stands n m (accepting c a o r p t) = go (stands n m r) (came p)
  where
    go : {c : Call} → Stands n a.store → Came a o c → Stands n o.areas.store
    go st (stayed u e) = subst (Stands n) (sym e) st
    go st (emptied u k e) = subst (Stands n) (sym e) (record { ok = empty-ok a.store.tables.base.n k; size = unfold empty empty_tables in st.size })
    go st (stepped c u ok v r e) = subst (Stands n) (sym e) (record {
      ok = next-ok a.store c ok v;
      size = unfold next_store next_tables finish in (after-n a.store.tables.base ok.sized.tables.base (good a.store ok) (meant a.store c) ∙ st.size);
    })
    go st (tested e) = subst (Stands n) (sym e) st

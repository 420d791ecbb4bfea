-- Demand 2: each accepted call leaves the store what the rules define, each area its length, and sound, with holds the sum over the register.
use Rattle.std.specs.Prelude.{◌≡◌, refl, ℕ, ◌<◌, T}
use Rattle.std.proofs.Common.{sym, subst, T_not}
use Rattle.rules.specs.Register.{Right}
use Rattle.rules.specs.Tables.{Store, store_by, into_entry, into_of, finish}
use Rattle.rules.specs.Commands.{Verdict, accepted, refused, meant, after, verdict, noted, next_tables, next_store, settled, step_to}
use Rattle.rules.specs.Calls.{Call, check, Areas, Outcome, Promise}
use Rattle.rules.specs.History.{is_accepted}
use Rattle.rules.specs.declared.Command.{Command}
use Rattle.laws.specs.Below.{length-table, get_or-table}
use Rattle.laws.specs.Commands.{after-n}
use Rattle.laws.specs.Commands as tables
use Rattle.demands.specs.Sound.{OkStore, empty-ok}
use Rattle.demands.specs.Meant.{Accepts, accepts_of}
use Rattle.demands.specs.Noted.{good, by_tables, noted_sums, noted-right}
use Rattle.demands.specs.Came.{Came, stayed, emptied, stepped, tested, came}

-- what is accepted leaves a sound store sound
made_ok : (s : Store) (d : Command) → OkStore s → Accepts s d → OkStore (store_by (next_tables s.tables d) (noted s.register d))
made_ok s d o v = record {
  sized = record { tables = t.sized; register = right.ordered.size; into = unfold into_of in (length-table (into_entry (next_tables s.tables d).base) (next_tables s.tables d).base.n) };
  sound = record {
    tables = t.sound;
    register = unfold next_tables finish in (subst (λ (n : ℕ). Right n (noted s.register d)) (sym size) right);
    into = λ p h. unfold into_of in (get_or-table (into_entry (next_tables s.tables d).base) (next_tables s.tables d).base.n p 0 h);
    sums = λ p h. unfold next_tables finish in (noted_sums s o d v p (subst (λ (n : ℕ). p < n) size (unfold next_tables finish in h)));
  };
}
  where
    t : tables.Ok (next_tables s.tables d)
    t = tables.next-ok s.tables d (record { sized = o.sized.tables; sound = o.sound.tables }) (by_tables s o v)

    size : (after s.tables.base d).n ≡ s.tables.base.n
    size = after-n s.tables.base o.sized.tables.base (good s o) d

    right : Right s.tables.base.n (noted s.register d)
    right = noted-right s o d v

-- so does an accepted command
pub next-ok : (s : Store) (c : Command) → OkStore s → verdict s c ≡ accepted → OkStore (next_store s c)
unfolding next_store
next-ok s c o v = made_ok s (meant s c) o (accepts_of s c v)

-- and any command
pub step_ok : (s : Store) (c : Command) → OkStore s → OkStore (step_to s c)
unfolding step_to settled
step_ok s c o = go (verdict s c) refl
  where
    go : (v : Verdict) → verdict s c ≡ v → OkStore (settled v s c)
    go accepted e = next-ok s c o e
    go (refused r) e = o

-- After every accepted call, but for check, the store is what the rules define
pub accepted_ok : {c : Call} {a : Areas} {o : Outcome} → Promise c a o → T (is_accepted o.reply) → (c ≡ check → ⊥) → OkStore o.areas.store
accepted_ok {c} {a} {o} p t d = go (came p) d
  where
    go : {c : Call} → Came a o c → (c ≡ check → ⊥) → OkStore o.areas.store
    go (stayed u e) d = absurd (T_not (is_accepted o.reply) u t)
    go (emptied u m e) d = subst OkStore (sym e) (empty-ok a.store.tables.base.n m)
    go (stepped c u ok v r e) d = subst OkStore (sym e) (next-ok a.store c ok v)
    go (tested e) d = absurd (d refl)

-- Each command's own work is the work of any command: its reply, store and list are the same, and the store stands again.
use Rattle.std.specs.Prelude.{◌≡◌, Bool, true, false, List, [], ℕ, ◌≤◌, length}
use Rattle.std.proofs.Math.Path.{refl}
use Rattle.std.proofs.Common.{sym, ap, ◌∙◌, subst, true≢false, arith}
use Rattle.rules.specs.Tables.{Store, finish}
use Rattle.rules.specs.Commands.{Verdict, accepted, refused, verdict, settles, meant, next_tables, next_store, settled, step_to}
use Rattle.rules.specs.Calls.{Reply, answered, Effect, effect, effected, effect_of, ReadyStore, Did}
use Rattle.rules.specs.declared.Command.{Command}
use Rattle.rules.specs.declared.Command.TheVariants.{New, Set, Freeze, Acquire, Release, Bin, Look}
use Rattle.laws.specs.Commands.{after-n}
use Rattle.laws.specs.Calls.{ready_tables}
use Rattle.laws.specs.Verdicts.{any-list}
use Rattle.demands.specs.Sound.{OkStore}
use Rattle.demands.specs.Demand2.{step_ok}
use Rattle.tallies.specs.Stores.{good_of}
use Rattle.areas.specs.Lowest.{NoneFree}
use Rattle.obeying.specs.Obeyed.{Stands, Obeys, above_of, Lower, LowerBin}
use Rattle.obeying.specs.Freed.{freed_listed, listed-length}
use Rattle.obeying.specs.From.{still_none, new_none}
use Rattle.rules.specs.Replies.{Answer}

-- the store after a command
pub store_after_lem : {c : Command} {s s' : Store} {l l' : List ℕ} {a : Reply} → Did c s l (effect a s' l') → s' ≡ step_to s c
unfolding effect_of step_to
store_after_lem {c} {s} {l = l} d = ap (λ (o : Effect). o.store) d.exact ∙ go (verdict s c)
  where
    go : (v : Verdict) → (effected s l c v).store ≡ settled v s c
    go accepted = unfold effected settled in refl
    go (refused r) = unfold effected settled in refl

ready_after : (s : Store) → ReadyStore s → (c : Command) → ReadyStore (step_to s c)
unfolding step_to
ready_after s r c = record {
  least = subst (λ (x : ℕ). 1 ≤ x) (sym (size (verdict s c))) r.least;
  sized = ok.sized;
  sound = ok.sound;
}
  where
    ok : OkStore (step_to s c)
    ok = step_ok s c (record { sized = r.sized; sound = r.sound })

    size : (v : Verdict) → (settled v s c).tables.base.n ≡ s.tables.base.n
    size accepted = unfold settled next_store next_tables finish in (after-n s.tables.base r.sized.tables.base (good_of s.tables (ready_tables r)) (meant s c))
    size (refused x) = unfold settled in refl

-- a draft is binned
abbrev pub bins : Command → Bool
bins New = false
bins (Set p k t) = false
bins (Freeze p seat) = false
bins (Acquire p seat) = false
bins (Release p seat) = false
bins (Bin p) = true
bins (Look p) = false

-- what was done leaves a store that stands, with a number below which nothing is free
obeyed : {c d : Command} {s s' : Store} {l l' w w' : List ℕ} {a : Reply} {from from' : ℕ}
    → c ≡ d → Stands s.tables.base.n s l w from → Did d s l (effect a s' l') → length w' ≡ length w
    → from' ≤ s.tables.base.n → NoneFree s'.tables.base.states from' → Obeys c s l w a s' l' w' from'
obeyed {c} {d} {s} {s'} {l} {l'} {w} {w'} {a} {from' = from'} is stands did same small none =
    subst (λ (x : Command). Obeys x s l w a s' l' w' from') (sym is) (record {
      did = did;
      stands = record {
        ready = subst ReadyStore (sym (store_after_lem did)) (ready_after s stands.ready d);
        room = let room = stands.room in omega (arith, listed-length did);
        wide = let wide = stands.wide in omega (arith, same);
        small = small;
        none = none;
      };
    })

-- new
pub obeyed_new : {c : Command} {s s' : Store} {l w : List ℕ} {a : Answer} {from from' : ℕ}
    → c ≡ New → Stands s.tables.base.n s l w from → Did New s [] (effect (answered a) s' []) → from' ≡ above_of a from
    → Obeys c s l w (answered a) s' l w from'
unfolding settles
obeyed_new {s = s} {s'} {l} {a = a} is stands did e =
    let x = new_none stands did in
    obeyed is stands (any-list refl did) refl
    (subst (λ (r : ℕ). r ≤ s.tables.base.n) (sym e) x.0)
    (subst (NoneFree s'.tables.base.states) (sym e) x.1)

-- a command that frees nothing: freeze, acquire, look
pub obeyed_kept : {c d : Command} {s s' : Store} {l w w' : List ℕ} {a : Reply} {from : ℕ}
    → c ≡ d → settles d ≡ false → Stands s.tables.base.n s l w from → Did d s [] (effect a s' []) → length w' ≡ length w
    → Obeys c s l w a s' l w' from
unfolding settles
obeyed_kept {d = d} {s} {s'} {l} {a = a} is off stands did same =
    let listed = any-list off did in
    obeyed is stands listed same stands.small
    (still_none stands listed (omega arith)
    (λ h. absurd (let none = freed_listed did in omega arith))
    (λ p e. absurd (true≢false (sym (ap settles e) ∙ off))))

-- a command that lists what it frees and bins nothing: set, release
pub obeyed_freed : {c d : Command} {s s' : Store} {l l' w : List ℕ} {a : Answer} {from from' : ℕ}
    → c ≡ d → bins d ≡ false → Stands s.tables.base.n s l w from → Did d s l (effect (answered a) s' l')
    → Lower a l' from from' → Obeys c s l w (answered a) s' l' w from'
obeyed_freed is off stands did lower =
    obeyed is stands did refl (omega (arith, lower.most, stands.small))
    (still_none stands did lower.most lower.first (λ p e. absurd (true≢false (sym (ap bins e) ∙ off))))

-- bin
pub obeyed_bin : {c : Command} {p : ℕ} {s s' : Store} {l l' w : List ℕ} {a : Answer} {from from' : ℕ}
    → c ≡ Bin p → Stands s.tables.base.n s l w from → Did (Bin p) s l (effect (answered a) s' l')
    → LowerBin p a l' from from' → Obeys c s l w (answered a) s' l' w from'
obeyed_bin {from' = from'} is stands did lower =
    obeyed is stands did refl (omega (arith, lower.lower.most, stands.small))
    (still_none stands did lower.lower.most lower.lower.first
    (λ q e ok. subst (λ (x : ℕ). from' ≤ x) (same_piece e) (lower.binned ok)))
  where
    same_piece : {q r : ℕ} → Bin q ≡ Bin r → q ≡ r
    same_piece e = cc e

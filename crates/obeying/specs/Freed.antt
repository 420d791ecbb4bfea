-- How many numbers a command frees: the list holds them, and they are at most 1,024.
use Rattle.std.specs.Prelude.{◌≡◌, Bool, true, List, [], ℕ, ◌≤◌, length, drop}
use Rattle.std.proofs.Math.Path.{refl}
use Rattle.std.proofs.Common.{sym, subst, length-drop}
use Rattle.std.proofs.Math.Bool.{false}
use native.Mathlib.Omega.{arith}
use Rattle.std.proofs.Math.ListN.{length-append}
use Rattle.rules.specs.Tests.{pick, only_if}
use Rattle.rules.specs.Limits.{most}
use Rattle.rules.specs.Tables.{Base, Tables, Store}
use Rattle.rules.specs.Commands.{Verdict, accepted, refused, verdict, gone, gone_list, edit, settles, freed_by}
use Rattle.rules.specs.Calls.{Reply, Effect, effect, effected, effect_of, accepted_by, done_by, refused_by, listing, ReadyStore, Did}
use Rattle.rules.specs.History.{freed_in}
use Rattle.rules.specs.declared.Refusal.{Refusal}
use Rattle.rules.specs.declared.Command.{Command}
use Rattle.rules.specs.declared.Command.TheVariants.{New, Set, Freeze, Acquire, Release, Bin, Look}
use Rattle.laws.specs.Commands.{edit-n}
use Rattle.laws.specs.Passes.{table_verdict}
use Rattle.laws.specs.ByTables.{TablesEffect, tables_effect, tables_effected, DidTables}
use Rattle.laws.specs.Calls.{ready_tables}
use Rattle.laws.specs.Counts.{sum-most}
use Rattle.tallies.specs.Sums.{only_if-most}
use Rattle.tallies.specs.Stores.{good_of}
use Rattle.falling.specs.Listing.{list_many}

-- an accepted command answers how many it frees
pub accepted_freed : (s : Tables) (c : Command) → freed_in (accepted_by s c) ≡ length (freed_by s.base c)
unfolding freed_in accepted_by done_by
accepted_freed s New = refl
accepted_freed s (Set p k t) = refl
accepted_freed s (Freeze p seat) = refl
accepted_freed s (Acquire p seat) = refl
accepted_freed s (Release p seat) = refl
accepted_freed s (Bin p) = refl
accepted_freed s (Look p) = unfold freed_by settles in refl

refused_freed : (r : Refusal) (c : Command) → freed_in (refused_by r c) ≡ 0
unfolding freed_in refused_by
refused_freed r New = refl
refused_freed r (Set p k t) = refl
refused_freed r (Freeze p seat) = refl
refused_freed r (Acquire p seat) = refl
refused_freed r (Release p seat) = refl
refused_freed r (Bin p) = refl
refused_freed r (Look p) = refl

-- the list holds the freed numbers
pub freed_listed : {c : Command} {s s' : Store} {l l' : List ℕ} {a : Reply} → Did c s l (effect a s' l') → freed_in a ≤ length l'
unfolding effect_of
freed_listed {c} {s} {l = l} d = subst (λ (o : Effect). freed_in o.reply ≤ length o.list) (sym d.exact) (by_verdict (verdict s c))
  where
    by_verdict : (v : Verdict) → freed_in (effected s l c v).reply ≤ length (effected s l c v).list
    by_verdict accepted =
        unfold effected listing in
        (omega (arith, accepted_freed s.tables c, length-append (freed_by s.tables.base c) (drop (length (freed_by s.tables.base c)) l)))
    by_verdict (refused r) = unfold effected in (omega (arith, refused_freed r c))

-- so it does after a command by the tables alone
pub tables_listed : {c : Command} {t t' : Tables} {l l' : List ℕ} {a : Reply} → DidTables c t l (tables_effect a t' l') → freed_in a ≤ length l'
tables_listed {c} {t} {l = l} d = subst (λ (o : TablesEffect). freed_in o.reply ≤ length o.list) (sym d.exact) (by_verdict (table_verdict t.base c))
  where
    by_verdict : (v : Verdict) → freed_in (tables_effected t l c v).reply ≤ length (tables_effected t l c v).list
    by_verdict accepted =
        unfold tables_effected listing in
        (omega (arith, accepted_freed t c, length-append (freed_by t.base c) (drop (length (freed_by t.base c)) l)))
    by_verdict (refused r) = unfold tables_effected in (omega (arith, refused_freed r c))

-- and is no shorter than it was
pub listed-length : {c : Command} {s s' : Store} {l l' : List ℕ} {a : Reply} → Did c s l (effect a s' l') → length l ≤ length l'
unfolding effect_of
listed-length {c} {s} {l = l} d = subst (λ (o : Effect). length l ≤ length o.list) (sym d.exact) (by_verdict (verdict s c))
  where
    by_verdict : (v : Verdict) → length l ≤ length (effected s l c v).list
    by_verdict accepted = unfold effected listing in (simp (length-append, length-drop) (omega arith))
    by_verdict (refused r) = unfold effected in (omega arith)

-- at most as many are freed as there are pieces
few_freed : (b : Base) (c : Command) → (edit b c).n ≤ most → length (freed_by b c) ≤ most
unfolding freed_by
few_freed b c h = go (settles c)
  where
    go : (x : Bool) → length (pick x (gone_list (edit b c)) []) ≤ most
    go true =
        let ones = sum-most (λ x. only_if (gone (edit b c) x) 1) 1 (edit b c).n (λ x _. only_if-most (gone (edit b c) x) 1 1 (omega arith)) in
        unfold gone_list in (omega (arith, list_many (gone (edit b c)) (edit b c).n))
    go false = omega arith

pub freed_few : {c : Command} {s s' : Store} {l l' : List ℕ} {a : Reply} → ReadyStore s → Did c s l (effect a s' l') → freed_in a ≤ most
unfolding effect_of
freed_few {c} {s} {l = l} ready d = subst (λ (o : Effect). freed_in o.reply ≤ most) (sym d.exact) (by_verdict (verdict s c))
  where
    few : length (freed_by s.tables.base c) ≤ most
    few =
        few_freed s.tables.base c
        (subst (λ (x : ℕ). x ≤ most) (sym (edit-n s.tables.base ready.sized.tables.base (good_of s.tables (ready_tables ready)) c)) ready.sized.tables.base.most)

    by_verdict : (v : Verdict) → freed_in (effected s l c v).reply ≤ most
    by_verdict accepted = let h = few in unfold effected in (omega (arith, accepted_freed s.tables c))
    by_verdict (refused r) = unfold effected in (omega (arith, refused_freed r c))

-- An accepted look is of sound tables: its holds and its count are small, so its number fits.
use Rattle.std.specs.Prelude.{◌≡◌, refl, List, ℕ, ◌≤◌, ◌<◌, T, length, get_or, Ok, Err}
use Rattle.std.proofs.Common.{ap, subst, ⊎_elim, arith}
use Rattle.std.proofs.Math.ListN.{get_or-eq_default}
use Rattle.rules.specs.Limits.{most_holds}
use Rattle.rules.specs.Tables.{Tables, holds_of}
use Rattle.rules.specs.Commands.{accepted}
use Rattle.rules.specs.Calls.{does, Areas, seen_values_of, Reply, saw, Outcome, outcome, seen_at, accepted_by, judge, cleared, accepted_call, outcome_of, Promise, Ready}
use Rattle.rules.specs.History.{is_accepted}
use Rattle.rules.specs.declared.Command.{Command}
use Rattle.rules.specs.declared.Command.TheVariants.{Look}
use Rattle.laws.specs.Calls.{lent_sized, accepted_judged, accepted_outcome, judged}
use Rattle.laws.specs.Numbers.{lt_or}
use Rattle.demands.specs.Sound.{sound_store→}
use Rattle.tallies.specs.Stores.{holds_most, counts_most}
use Rattle.rules.specs.Replies.{Seen}

-- The largest possible count is below 1,028,097; 1,000 holds a piece
pub record Fitting (s : Seen) : Type 0 where
  pub count : (seen_values_of s).count < 1028097
  pub holds : (seen_values_of s).holds ≤ most_holds

-- what holds of each entry holds past the end, where 0 stands
pub past : (l : List ℕ) (m : ℕ) {n : ℕ} → length l ≡ n → ((i : ℕ) → i < n → get_or l i 0 ≤ m) → (i : ℕ) → get_or l i 0 ≤ m
past l m {n} e h i = ⊎_elim (λ x. h i x) (λ x. let z = get_or-eq_default l 0 {n = i} (omega arith) in omega arith) (lt_or i n)

pub seen_fitting : {s : Tables} → Ready s → (p : ℕ) → Fitting (seen_at s p)
unfolding seen_at holds_of
seen_fitting {s} o p = record {
  count = omega (arith, past s.counts 1028096 o.sized.counts (λ i l. omega (arith, counts_most s o i l)) (get_or s.leaders p 0));
  holds = past s.base.holds 1000 o.sized.base.holds (λ i l. holds_most s o i l) p;
}

-- an accepted command's call is lent sound tables
pub accepted_ready : (a : Areas) (c : Command) → judge a (does c) ≡ accepted → Ready a.store.tables
accepted_ready a c e =
    let y = judged a c e in
    let z = lent_sized a (does c) y.lent in
    record { least = z.0; sized = z.1.tables; sound = (sound_store→ a.store z.1 y.sound).tables }

-- what an accepted look sees
accepted_saw : (a : Areas) (p : ℕ) → judge a (does (Look p)) ≡ accepted → (outcome_of a (does (Look p))).reply ≡ saw (seen_at a.store.tables p)
accepted_saw a p e = rw (accepted_outcome a (does (Look p)) e) (unfold accepted_call cleared accepted_by in refl)

-- what look answers fits its number
pub look_fits : {a after : Areas} {p : ℕ} {s : Seen} → Promise (does (Look p)) a (outcome (saw s) after) → Fitting s
look_fits {s = Err r} q = record { count = omega arith; holds = omega arith }
look_fits {a} {p = p} {s = Ok x} q = rw same (seen_fitting (accepted_ready a (Look p) j) p)
  where
    e : saw (Ok x) ≡ (outcome_of a (does (Look p))).reply
    e = ap (λ (o : Outcome). o.reply) q.exact

    j : judge a (does (Look p)) ≡ accepted
    j = accepted_judged a (does (Look p)) (subst (λ (r : Reply). T (is_accepted r)) e (unfold is_accepted in tt))

    same : Ok x ≡ seen_at a.store.tables p
    same = cc (e, accepted_saw a p j)

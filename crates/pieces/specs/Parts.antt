-- Each part of a reply's number fits its bits: numbers of refusals, values, states and leaders are small.
use Rattle.std.specs.Prelude.{◌≡◌, Bool, true, false, not, ℕ, zero, suc, ◌+◌, ◌≤◌, ◌<◌, T}
use Rattle.std.proofs.Common.{⊎_elim, arith}
use Rattle.std.proofs.Math.ListN.{get_or}
use Rattle.rules.specs.Tests.{pick}
use Rattle.rules.specs.Limits.{none}
use Rattle.rules.specs.Below.{lowest_from, lowest}
use Rattle.rules.specs.Tables.{Base, Tables, state, is_frozen, leader_entry}
use Rattle.rules.specs.Words.{Frozen, Well, wfree, wdraft, wfrozen}
use Rattle.rules.specs.Commands.{first_free}
use Rattle.rules.specs.Calls.{number_of, Ready}
use Rattle.rules.specs.declared.Refusal.{Refusal}
use Rattle.rules.specs.declared.Refusal.TheVariants.{Size, Unsound, Number, Free, State, Limit, NotHeld, Linked, Full, Long, Room, Seat, NotYours, Register, Place, Target, FreeTarget}
use Rattle.laws.specs.Below.{T_dec}
use Rattle.laws.specs.Words.{is_frozen→, leader_of_is}
use Rattle.laws.specs.Sound.{leader_entry_frozen, leader_entry_other, sound→entries}
use Rattle.tallies.specs.Stores.{wells_of}
use Rattle.pieces.specs.Looks.{past}

-- a refusal's number
pub number_fits : (r : Refusal) → number_of r < 256
number_fits Size = omega arith
number_fits Unsound = omega arith
number_fits Number = omega arith
number_fits Free = omega arith
number_fits State = omega arith
number_fits Limit = omega arith
number_fits NotHeld = omega arith
number_fits Linked = omega arith
number_fits Full = omega arith
number_fits Long = omega arith
number_fits Room = omega arith
number_fits Seat = omega arith
number_fits NotYours = omega arith
number_fits Register = omega arith
number_fits Place = omega arith
number_fits Target = omega arith
number_fits FreeTarget = omega arith

-- the lowest with f, or none
lowest-fits : (p : ℕ) (f : ℕ → Bool) (k : ℕ) → p ≤ none → k ≤ none → p + k ≤ none → lowest_from p f k ≤ none
unfolding lowest_from
lowest-fits p f zero h l m = omega arith
lowest-fits p f (suc k) h l m = go (f p) (lowest-fits (suc p) f k (omega arith) (omega arith) (omega arith))
  where
    go : (b : Bool) → lowest_from (suc p) f k ≤ none → pick b p (lowest_from (suc p) f k) ≤ none
    go true i = h
    go false i = i

-- new's value
pub free_fits : (b : Base) → b.n ≤ 1024 → first_free b ≤ none
unfolding first_free lowest
free_fits b h = lowest-fits 0 _ b.n (omega arith) (omega arith) (omega arith)

-- what look sees in sound tables
module _ {s : Tables} (o : Ready s) where
  pub state-fits : (p : ℕ) → state s.base p ≤ 2
  unfolding state
  state-fits = past s.base.states 2 o.sized.base.states (λ i l. go i (wells_of s o i l))
    where
      go : (i : ℕ) → Well s.base i → get_or s.base.states i 0 ≤ 2
      go i (wfree w) = omega (arith, w.is)
      go i (wdraft w) = omega (arith, w.is)
      go i (wfrozen w) = omega (arith, w.is)

  pub leader-fits : (p : ℕ) → get_or s.leaders p 0 ≤ none
  leader-fits = past s.leaders none o.sized.leaders (λ i l. ⊎_elim (λ t. led i l (is_frozen→ s.base i l t)) (other i l) (T_dec (is_frozen s.base i)))
    where
      at : (i : ℕ) → i < s.base.n → get_or s.leaders i 0 ≡ leader_entry s.base i
      at i l = (sound→entries s o.sound).leaders i l

      led : (i : ℕ) → i < s.base.n → Frozen s.base i → get_or s.leaders i 0 ≤ none
      led i l f = omega (arith, at i l, leader_entry_frozen s.base i f.is, (leader_of_is s.base i f).member.frozen.below, o.sized.base.most)

      other : (i : ℕ) → i < s.base.n → T (not (is_frozen s.base i)) → get_or s.leaders i 0 ≤ none
      other i l t = omega (arith, at i l, leader_entry_other s.base i t)

-- A lent trace whose output fills the room just so.
use Rattle.std.specs.Prelude.{◌≡◌, Bool, List, ◌++◌, ℕ, ◌-◌, ◌≤◌, ◌<◌, leb, replicate}
use Rattle.std.proofs.Math.Path.{sym, ap}
use Rattle.std.proofs.Common.{◌∙◌, append-nil, arith, le→leb}
use Rattle.std.proofs.Math.Bool.{true, false}
use Rattle.std.proofs.Math.ListN.{length}
use Rattle.rules.specs.Tests.{pick}
use Rattle.rules.specs.Limits.{most_trace}
use Rattle.rules.specs.Trace.{trace, Given, in_room, lent_trace}
use Rattle.laws.specs.Below.{pick_true}
use Rattle.lending.specs.Lent.{given}

-- nothing is left of the room after the output
filled : (out room : List ℕ) → length out ≡ length room → out ++ replicate (length room - length out) 0 ≡ out
filled out room e = let k : length room - length out ≡ 0 = omega arith in ap (λ (m : ℕ). out ++ replicate m 0) k ∙ append-nil out

-- the output, then zeros
abbrev padded : List ℕ → List ℕ → Given
padded text room = given (length (trace text)) (trace text ++ replicate (length room - length (trace text)) 0)

module _ (text room : List ℕ) {room' : List ℕ} {r : ℕ} (e : given r room' ≡ lent_trace text room) where
  -- where the result is the room's length, the room has the output
  pub fits_just : length room < 9223372036854775808 → r ≡ length room → trace text ≡ room'
  unfolding lent_trace in_room
  fits_just b s = by_long (leb (length text) most_trace) e
    where
      by_room : (t : Bool) → given r room' ≡ pick t (padded text room) (given 9223372036854775819 (replicate (length room) 0)) → trace text ≡ room'
      by_room true h =
          let k : r ≡ length (trace text) = ap (λ (g : Given). g.result) h in
          sym (ap (λ (g : Given). g.room) h ∙ filled (trace text) room (omega arith))
      by_room false h = absurd (let k : r ≡ 9223372036854775819 = ap (λ (g : Given). g.result) h in omega arith)

      by_long : (t : Bool) → given r room' ≡ pick t (in_room (trace text) room) (given 9223372036854775818 room) → trace text ≡ room'
      by_long true h = by_room (leb (length (trace text)) (length room)) h
      by_long false h = absurd (let k : r ≡ 9223372036854775818 = ap (λ (g : Given). g.result) h in omega arith)

  -- where the output has the room's length, so has the result, and the room has the output
  pub just_fits : length text ≤ most_trace → length (trace text) ≡ length room → (r ≡ length room) × (room' ≡ trace text)
  unfolding lent_trace in_room
  just_fits h s = (ap (λ (g : Given). g.result) is ∙ s, ap (λ (g : Given). g.room) is ∙ filled (trace text) room s)
    where
      is : given r room' ≡ padded text room
      is =
          e ∙ pick_true (leb (length text) most_trace) _ _ (le→leb (length text) most_trace h)
          ∙ pick_true (leb (length (trace text)) (length room)) _ _ (le→leb (length (trace text)) (length room) (omega arith))

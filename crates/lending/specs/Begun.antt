-- The store of a lent trace starts empty at capacity 1,024, and LONG is checked first.
use Rattle.std.specs.Prelude.{◌≡◌, List, [], ℕ, ◌+◌, ◌^◌, ◌≤◌, ◌<◌, leb, length}
use Rattle.std.proofs.Common.{sym, ap, ◌∙◌, le→leb}
use Rattle.rules.specs.Limits.{most, most_trace}
use Rattle.rules.specs.Tables.{Store, empty}
use Rattle.rules.specs.Calls.{number_of}
use Rattle.rules.specs.Trace.{lines_from, lines_of, output_of, trace_at, trace, in_room, lent_trace}
use Rattle.rules.specs.declared.Refusal.TheVariants.{Long}
use Rattle.laws.specs.Below.{pick_true, pick-false}
use Rattle.lending.specs.Lent.{given, not_within}

pub lent_long : (text room : List ℕ) → most_trace < length text → given (2 ^ 63 + number_of Long) room ≡ lent_trace text room
unfolding lent_trace
lent_long text room h = sym (pick-false (leb (length text) most_trace) _ _ (not_within h))

pub lent_short : (text room : List ℕ) {s : Store} {room' : List ℕ} {r : ℕ} → length text ≤ most_trace → s ≡ empty most
    → given r room' ≡ in_room (output_of s (lines_from [] text)) room → given r room' ≡ lent_trace text room
unfolding lent_trace trace trace_at lines_of
lent_short text room h b e =
    e ∙ ap (λ (s : Store). in_room (output_of s (lines_from [] text)) room) b ∙ sym (pick_true (leb (length text) most_trace) _ _ (le→leb (length text) most_trace h))

-- The door for C: what a call answers, as one u64, and the promise of every call there.
use Rattle.std.specs.Prelude.{◌≡◌, ℕ, ◌+◌, ◌*◌}
use Rattle.rules.specs.Calls.{Call, Areas, Values, values_of, SeenValues, seen_values_of, CheckedValues, checked_values_of, Reply, answered, saw, checked, outcome_of}

-- refusal + 2^16 · value + 2^32 · freed
abbrev pub packed_values : Values → ℕ
packed_values v = v.refusal + 65536 * v.value + 4294967296 * v.freed

-- look: refusal + 2^8 · state + 2^16 · leader + 2^32 · count + 2^52 · holds
abbrev pub packed_seen : SeenValues → ℕ
packed_seen v = v.refusal + 256 * v.state + 65536 * v.leader + 4294967296 * v.count + 4503599627370496 * v.holds

-- check: refusal + 2^16 · (1 for yes)
abbrev pub packed_checked : CheckedValues → ℕ
packed_checked v = v.refusal + 65536 * v.yes

-- the number of a reply, from the rulebook's number and values
abbrev pub packed : Reply → ℕ
packed (answered a) = packed_values (values_of a)
packed (saw s) = packed_seen (seen_values_of s)
packed (checked c) = packed_checked (checked_values_of c)

-- The promise of every call through this door, for all areas: the u64 is the number of the rulebook's reply, and every area on return is what the rules give
pub record Packs (c : Call) (before : Areas) (r : ℕ) (after : Areas) : Type 0 where
  pub answer : r ≡ packed (outcome_of before c).reply
  pub areas : after ≡ (outcome_of before c).areas

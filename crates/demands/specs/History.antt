-- After any history the store is sound, and its holds are what the history says: by each seat, and of each piece.
use Rattle.std.specs.Prelude.{◌≡◌, List, ℕ, ◌+◌, ◌≤◌, ◌<◌}
use Rattle.std.proofs.Common.{sym, subst, arith}
use Rattle.rules.specs.Limits.{most, seats}
use Rattle.rules.specs.Register.{held_by}
use Rattle.rules.specs.Tables.{Store, holds_of}
use Rattle.rules.specs.History.{Event, History, added, taken, added_by, taken_by}
use Rattle.laws.specs.Below.{sum_cong}
use Rattle.register.specs.Seats.{sum_both, held_in_seats}
use Rattle.demands.specs.Sound.{OkStore}
use Rattle.demands.specs.Stands.{stands}
use Rattle.demands.specs.Measured.{measured}

pub record Follows (n : ℕ) (h : List Event) (s : Store) : Type 0 where
  pub ok : OkStore s
  pub size : s.tables.base.n ≡ n
  pub held : (p : ℕ) → p < n → holds_of s.tables.base p + taken p h ≡ added p h
  pub by : (i p : ℕ) → held_by s.register i p + taken_by i p h ≡ added_by i p h

-- the holds of a piece are those of all seats on it
sums_held : {s : Store} → OkStore s → (h : List Event) (p : ℕ) → p < s.tables.base.n → ((i : ℕ) → held_by s.register i p + taken_by i p h ≡ added_by i p h)
    → holds_of s.tables.base p + taken p h ≡ added p h
unfolding added taken
sums_held {s} o h p l by =
    let x = sum_both (λ i. held_by s.register i p) (λ i. taken_by i p h) seats in
    let y = sum_cong (λ i. held_by s.register i p + taken_by i p h) (λ i. added_by i p h) seats (λ i k. by i) in
    omega (arith, o.sound.sums p l, held_in_seats o.sound.register p, x, y)

-- After any history the store is sound and its holds are what the history says
pub follows : (n : ℕ) → n ≤ most → {h : List Event} {s : Store} → History n h s → Follows n h s
follows n m {h} r =
    let x = stands n m r in
    record {
      ok = x.ok;
      size = x.size;
      held = λ p l. sums_held x.ok h p (subst (λ (k : ℕ). p < k) (sym x.size) l) (λ i. measured i p r);
      by = λ i p. measured i p r;
    }

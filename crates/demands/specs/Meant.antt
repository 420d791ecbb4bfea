-- What a command comes to: a second hand-in comes to a look at the piece, any other command to itself, and what it comes to is accepted as it is.
use Rattle.std.specs.Prelude.{◌≡◌, ◌⊎◌, Bool, not, ℕ, T}
use Rattle.std.proofs.Math.Path.{refl}
use Rattle.std.proofs.Common.{sym, ◌∙◌, subst, inl, inr, ⊎_elim, arith}
use Rattle.std.proofs.Math.Bool.{true, false}
use Rattle.rules.specs.Tests.{pick}
use Rattle.rules.specs.Tables.{Base, Store}
use Rattle.rules.specs.Commands.{piece_of, is_freeze, names_seat, accepted, first_of, seat_refusals, is_again, meant, verdict, settles, freed_by}
use Rattle.rules.specs.declared.Command.{Command}
use Rattle.rules.specs.declared.Command.TheVariants.{New, Set, Freeze, Acquire, Release, Bin, Look}
use Rattle.laws.specs.Below.{T_dec, pick_true, pick-false}
use Rattle.laws.specs.Passes.{table_verdict}
use Rattle.laws.specs.Verdicts.{seat_verdict, register_verdict, not_again, all_accept}

-- seat, tables and register accept the command d as it is
pub record Accepts (s : Store) (d : Command) : Type 0 where
  pub seat : seat_verdict d ≡ accepted
  pub tables : table_verdict s.tables.base d ≡ accepted
  pub register : register_verdict s.register d ≡ accepted

module _ (s : Store) (c : Command) where
  -- a second hand-in looks, any other command is itself
  pub again_looks : T (is_again s c) → meant s c ≡ Look (piece_of c)
  unfolding meant
  again_looks t = pick_true (is_again s c) (Look (piece_of c)) c t

  pub first_is : T (not (is_again s c)) → meant s c ≡ c
  unfolding meant
  first_is t = pick-false (is_again s c) (Look (piece_of c)) c t

  -- one or the other
  pub meant_cases : (T (is_again s c) × (meant s c ≡ Look (piece_of c))) ⊎ (T (not (is_again s c)) × (meant s c ≡ c))
  meant_cases = ⊎_elim (λ t. inl (t, again_looks t)) (λ t. inr (t, first_is t)) (T_dec (is_again s c))

  pub accepts_of : verdict s c ≡ accepted → Accepts s (meant s c)
  accepts_of v = let a = all_accept v in record { seat = unfold meant in (go (is_again s c) a.seat); tables = a.tables; register = a.register }
    where
      go : (b : Bool) → seat_verdict c ≡ accepted → seat_verdict (pick b (Look (piece_of c)) c) ≡ accepted
      go true e = unfold seat_verdict seat_refusals first_of in refl
      go false e = e

  -- what names no seat comes to what names none
  pub bare_meant : names_seat c ≡ false → names_seat (meant s c) ≡ false
  unfolding meant
  bare_meant e = go (is_again s c)
    where
      go : (b : Bool) → names_seat (pick b (Look (piece_of c)) c) ≡ false
      go true = refl
      go false = e

-- a command that comes to itself is accepted as it is
pub accepts_itself : {s : Store} {c : Command} → meant s c ≡ c → verdict s c ≡ accepted → Accepts s c
accepts_itself {s} {c} e v = subst (Accepts s) e (accepts_of s c v)

-- so is every command but freeze
pub accepts_other : {s : Store} {c : Command} → is_freeze c ≡ false → verdict s c ≡ accepted → Accepts s c
accepts_other {s} {c} e v = accepts_itself (not_again s c e).is v

-- it frees what the command frees
pub freed_meant : (s : Store) (c : Command) (b : Base) → freed_by b (meant s c) ≡ freed_by b c
unfolding meant is_again
freed_meant s New b = refl
freed_meant s (Set p k t) b = refl
freed_meant s (Freeze p i) b = go (is_again s (Freeze p i))
  where
    go : (x : Bool) → freed_by b (pick x (Look p) (Freeze p i)) ≡ freed_by b (Freeze p i)
    go true = unfold freed_by settles in refl
    go false = refl
freed_meant s (Acquire p i) b = refl
freed_meant s (Release p i) b = refl
freed_meant s (Bin p) b = refl
freed_meant s (Look p) b = refl

-- it is a bin exactly where the command is
pub bin_meant : (s : Store) (c : Command) {p : ℕ} → meant s c ≡ Bin p → c ≡ Bin p
bin_meant s c {p} e = ⊎_elim (λ x. absurd (other (sym x.1 ∙ e))) (λ x. sym x.1 ∙ e) (meant_cases s c)
  where
    other : {q : ℕ} → Look q ≡ Bin p → ⊥
    other z = let w : ◌≡◌ {A = ℕ} 0 1 = cc z in omega arith

pub meant_bin : (s : Store) {c : Command} {p : ℕ} → c ≡ Bin p → meant s c ≡ Bin p
meant_bin s {p = p} e = subst (λ (d : Command). meant s d ≡ Bin p) (sym e) (not_again s (Bin p) refl).is

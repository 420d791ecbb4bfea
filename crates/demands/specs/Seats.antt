-- No call naming one seat changes another seat's lines, though their places may shift; for all areas, refused calls included.
use Rattle.std.specs.Prelude.{◌≡◌, refl, Bool, true, false, not, List, ℕ, T, replicate}
use Rattle.std.proofs.Common.{sym, ◌∙◌, subst, ⊎_elim, T_not}
use Rattle.std.proofs.Math.Path.{ap}
use Rattle.rules.specs.Limits.{entries}
use Rattle.rules.specs.Register.{held_by}
use Rattle.rules.specs.Tables.{Store, empty}
use Rattle.rules.specs.Commands.{piece_of, seat_of, names_seat, accepted, meant, verdict, noted, next_store}
use Rattle.rules.specs.Calls.{start, does, Call, Areas, Outcome, Promise}
use Rattle.rules.specs.History.{is_accepted, commands}
use Rattle.rules.specs.declared.Command.{Command}
use Rattle.rules.specs.declared.Command.TheVariants.{New, Set, Freeze, Acquire, Release, Bin, Look}
use Rattle.laws.specs.Verdicts.{bare_noted}
use Rattle.laws.specs.Calls.{refused_stays}
use Rattle.register.specs.Moves.{SameLine}
use Rattle.register.specs.Steps.{Stepped}
use Rattle.register.specs.Kept.{SameLines, lines_flip, other_seat, other_lines}
use Rattle.demands.specs.Sound.{OkStore}
use Rattle.demands.specs.Meant.{Accepts, meant_cases, accepts_itself, bare_meant}
use Rattle.demands.specs.Noted.{freeze_noted, acquire_noted, release_noted}
use Rattle.demands.specs.Came.{Came, stayed, emptied, stepped, tested, came}

-- seat t has in m what it has in l: the same holds of every piece, and the same lines
pub record SameSeat (t : ℕ) (l m : List ℕ) : Type 0 where
  pub holds : (p : ℕ) → held_by m t p ≡ held_by l t p
  pub lines : SameLines t l m

same_seat : {t : ℕ} {l : List ℕ} → SameSeat t l l
same_seat = record { holds = λ p. refl; lines = record { there = λ i u e. (i, same); back = λ i u e. (i, same) } }
  where
    same : {l : List ℕ} {i : ℕ} → SameLine l i l i
    same = record { seats = refl; pieces = refl; numbers = refl }

seat_more : {l m : List ℕ} {i p t : ℕ} → Stepped l i p m → (i ≡ t → ⊥) → SameSeat t l m
seat_more {t = t} w d = record { holds = λ q. other_seat w t q d; lines = other_lines w t d }

seat_less : {l m : List ℕ} {i p t : ℕ} → Stepped m i p l → (i ≡ t → ⊥) → SameSeat t l m
seat_less {t = t} w d = record { holds = λ q. sym (other_seat w t q d); lines = lines_flip (other_lines w t d) }

-- an accepted command leaves every seat but its own
noted_others : (s : Store) → OkStore s → (c : Command) → Accepts s c → (t : ℕ) → (seat_of c ≡ t → ⊥) → SameSeat t s.register (noted s.register c)
unfolding noted
noted_others s o New v t d = same_seat
noted_others s o (Set p k q) v t d = same_seat
noted_others s o (Freeze p i) v t d = seat_more (freeze_noted s o p i v).0 d
noted_others s o (Acquire p i) v t d = seat_more (acquire_noted s o p i v).0 d
noted_others s o (Release p i) v t d = seat_less (release_noted s o p i v) d
noted_others s o (Bin p) v t d = same_seat
noted_others s o (Look p) v t d = same_seat

-- a second hand-in leaves all
next_others : (s : Store) → OkStore s → (c : Command) → verdict s c ≡ accepted → (t : ℕ) → (seat_of c ≡ t → ⊥) → SameSeat t s.register (noted s.register (meant s c))
next_others s o c v t d = ⊎_elim
    (λ x. subst kept (sym x.1) looked)
    (λ x. subst kept (sym x.1) (noted_others s o c (accepts_itself x.1 v) t d)) (meant_cases s c)
  where
    kept : Command → Type 0
    kept k = SameSeat t s.register (noted s.register k)

    looked : SameSeat t s.register (noted s.register (Look (piece_of c)))
    looked = unfold noted in same_seat

-- a call that names a seat leaves every other seat; one that names none is said below
pub other_seats : {c : Command} {a : Areas} {o : Outcome} → Promise (does c) a o → (t : ℕ) → (seat_of c ≡ t → ⊥) → SameSeat t a.store.register o.areas.store.register
other_seats {c} {a} {o} p t d = go (came p)
  where
    go : Came a o (does c) → SameSeat t a.store.register o.areas.store.register
    go (stayed u e) = subst (λ (s : Store). SameSeat t a.store.register s.register) (sym e) same_seat
    go (stepped c u ok v r e) = subst (λ (s : Store). SameSeat t a.store.register s.register) (sym e) (unfold next_store in (next_others a.store ok c v t d))

-- a call that names no seat leaves the whole register, but for start
pub no_seat_lem : {c : Call} {a : Areas} {o : Outcome} → Promise c a o → T (not (commands names_seat c)) → (c ≡ start → ⊥) → o.areas.store.register ≡ a.store.register
no_seat_lem {c} {a} {o} p n d = go (came p) n d
  where
    off : (b : Bool) → T (not b) → b ≡ false
    off true t = absurd t
    off false t = refl

    go : {c : Call} → Came a o c → T (not (commands names_seat c)) → (c ≡ start → ⊥) → o.areas.store.register ≡ a.store.register
    go (stayed u e) n d = ap (λ (s : Store). s.register) e
    go (emptied u m e) n d = absurd (d refl)
    go (stepped c u ok v r e) n d =
        ap (λ (s : Store). s.register) e ∙ (unfold next_store commands in (bare_noted a.store.register (meant a.store c) (bare_meant a.store c (off (names_seat c) n))))
    go (tested e) n d = ap (λ (s : Store). s.register) e

-- so does every refused call
pub refused_leaves : {c : Call} {a : Areas} {o : Outcome} → Promise c a o → T (not (is_accepted o.reply)) → o.areas.store.register ≡ a.store.register
refused_leaves {c} {a} {o} p t =
    ap (λ (x : Outcome). x.areas.store.register) p.exact
    ∙ ap (λ (s : Store). s.register) (refused_stays a c (subst (λ (x : Outcome). T (not (is_accepted x.reply))) p.exact t)).0

-- an accepted start empties it: every line is unused
pub start_empties : {a : Areas} {o : Outcome} → Promise start a o → T (is_accepted o.reply) → o.areas.store.register ≡ replicate entries 0
start_empties {a} {o} p t = go (came p)
  where
    go : Came a o start → o.areas.store.register ≡ replicate entries 0
    go (stayed u e) = absurd (T_not (is_accepted o.reply) u t)
    go (emptied u m e) = ap (λ (s : Store). s.register) e ∙ (unfold empty in refl)

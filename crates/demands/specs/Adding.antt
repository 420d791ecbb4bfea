-- What an accepted command makes of a seat's holds on a piece: as the history says, a freeze adds one only where its seat holds none.
use Rattle.std.specs.Prelude.{◌≡◌, Bool, List, ℕ, ◌+◌, ◌<◌, eqb}
use Rattle.std.proofs.Math.Path.{refl, ap}
use Rattle.std.proofs.Common.{sym, ap₂, ◌∙◌, subst, ⊎_elim, arith, eq-eqb, ne_eqb}
use Rattle.std.proofs.Math.Bool.{true, false}
use Rattle.rules.specs.Tests.{◌or◌, ◌&◌, only_if}
use Rattle.rules.specs.Register.{pair, held_by}
use Rattle.rules.specs.Tables.{Store}
use Rattle.rules.specs.Commands.{piece_of, seat_of, is_freeze, is_acquire, is_release, meant, accepted, verdict, noted, next_store}
use Rattle.rules.specs.History.{adds_by, takes_by}
use Rattle.rules.specs.declared.Command.{Command}
use Rattle.rules.specs.declared.Command.TheVariants.{New, Set, Freeze, Acquire, Release, Bin, Look}
use Rattle.laws.specs.Verdicts.{not_again}
use Rattle.register.specs.Adds.{pair-told}
use Rattle.demands.specs.Sound.{OkStore}
use Rattle.demands.specs.Meant.{Accepts, meant_cases, accepts_itself, accepts_other}
use Rattle.demands.specs.Noted.{noted-total}
use Rattle.demands.specs.Again.{again_held, first-held}

nothing : (a : Bool) → only_if (a & false) 1 ≡ 0
nothing true = refl
nothing false = refl

module _ (l : List ℕ) (i p j q : ℕ) where
  same_held : pair i p j q ≡ true → held_by l i p ≡ held_by l j q
  same_held e = let x = pair-told i p j q e in ap₂ (held_by l) (sym x.0) (sym x.1)

  -- a freeze by a seat that holds the piece adds none to any seat's
  again_adds : 0 < held_by l j q → only_if (adds_by i p (held_by l i p) (Freeze q j)) 1 ≡ 0
  unfolding adds_by
  again_adds u = go (pair i p j q) refl
    where
      go : (x : Bool) → pair i p j q ≡ x → only_if (eqb (held_by l i p) 0 & x) 1 ≡ 0
      go true e = ap (λ (y : Bool). only_if (y & true) 1) (ne_eqb (held_by l i p) 0 (λ z. omega (arith, u, z, same_held e)))
      go false e = nothing (eqb (held_by l i p) 0)

  -- one by a seat that holds none adds one to its own
  first-adds : held_by l j q ≡ 0 → only_if (adds_by i p (held_by l i p) (Freeze q j)) 1 ≡ only_if (pair i p j q) 1
  unfolding adds_by
  first-adds z = go (pair i p j q) refl
    where
      go : (x : Bool) → pair i p j q ≡ x → only_if (eqb (held_by l i p) 0 & x) 1 ≡ only_if x 1
      go true e = ap (λ (y : Bool). only_if (y & true) 1) (eq-eqb (held_by l i p) 0 (same_held e ∙ z))
      go false e = nothing (eqb (held_by l i p) 0)

module _ (s : Store) (o : OkStore s) (i p : ℕ) where
  freeze_steps : (q j : ℕ) → verdict s (Freeze q j) ≡ accepted
      → held_by (noted s.register (meant s (Freeze q j))) i p ≡ held_by s.register i p + only_if (adds_by i p (held_by s.register i p) (Freeze q j)) 1
  freeze_steps q j v = ⊎_elim
      (λ x. again (again_held s (Freeze q j) x.0) (ap held x.1))
      (λ x. first (first-held o j q x.0) (accepts_itself x.1 v) (ap held x.1)) (meant_cases s (Freeze q j))
    where
      held : Command → ℕ
      held d = held_by (noted s.register d) i p

      again : 0 < held_by s.register j q → held (meant s (Freeze q j)) ≡ held (Look q)
          → held (meant s (Freeze q j)) ≡ held_by s.register i p + only_if (adds_by i p (held_by s.register i p) (Freeze q j)) 1
      again u e = omega (arith, e, looked, again_adds s.register i p j q u)
        where
          looked : held_by (noted s.register (Look q)) i p ≡ held_by s.register i p
          looked = unfold noted in refl

      first : held_by s.register j q ≡ 0 → Accepts s (Freeze q j) → held (meant s (Freeze q j)) ≡ held (Freeze q j)
          → held (meant s (Freeze q j)) ≡ held_by s.register i p + only_if (adds_by i p (held_by s.register i p) (Freeze q j)) 1
      first z v e = omega (arith, e, noted-total s o (pair i p) (Freeze q j) v, first-adds s.register i p j q z)

  other_steps : (c : Command) → is_freeze c ≡ false → verdict s c ≡ accepted
      → held_by (noted s.register (meant s c)) i p + only_if (is_release c & pair i p (seat_of c) (piece_of c)) 1
      ≡ held_by s.register i p + only_if ((is_freeze c or is_acquire c) & pair i p (seat_of c) (piece_of c)) 1
  other_steps c e v = subst
      (λ (d : Command). held_by (noted s.register d) i p + only_if (is_release c & pair i p (seat_of c) (piece_of c)) 1
      ≡ held_by s.register i p + only_if ((is_freeze c or is_acquire c) & pair i p (seat_of c) (piece_of c)) 1)
      (sym (not_again s c e).is) (noted-total s o (pair i p) c (accepts_other e v))

  -- an accepted command adds to them and takes from them as the history says
  pub seat_steps : (c : Command) → verdict s c ≡ accepted
      → held_by (next_store s c).register i p + only_if (takes_by i p c) 1 ≡ held_by s.register i p + only_if (adds_by i p (held_by s.register i p) c) 1
  unfolding next_store takes_by
  seat_steps New v = unfold adds_by in (other_steps New refl v)
  seat_steps (Set q k t) v = unfold adds_by in (other_steps (Set q k t) refl v)
  seat_steps (Freeze q j) v = omega (arith, freeze_steps q j v)
  seat_steps (Acquire q j) v = unfold adds_by in (other_steps (Acquire q j) refl v)
  seat_steps (Release q j) v = unfold adds_by in (other_steps (Release q j) refl v)
  seat_steps (Bin q) v = unfold adds_by in (other_steps (Bin q) refl v)
  seat_steps (Look q) v = unfold adds_by in (other_steps (Look q) refl v)

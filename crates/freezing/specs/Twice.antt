-- A second hand-in, of a piece that the seat holds already; and that every other freeze comes to itself.
use Rattle.std.proofs.Math.Path.{◌≡◌, refl}
use Rattle.std.proofs.Common.{sym, ap, ◌∙◌, ⊎_elim}
use Rattle.std.specs.Prelude.{List, [], ℕ, ◌<◌, T}
use native.Mathlib.Omega.{arith}
use Rattle.rules.specs.Lists.{◌!◌}
use Rattle.rules.specs.Register.{held_by}
use Rattle.rules.specs.Tables.{Store, tables_of, store_by, state}
use Rattle.rules.specs.Words.{Frozen}
use Rattle.rules.specs.Commands.{Verdict, accepted, refused, first_of, is_again, settles, freed_by, value_of}
use Rattle.rules.specs.Calls.{answered, accepted_by, done_by, listing, fresh, effect, effected, effect_of, ReadyStore, Did}
use Rattle.rules.specs.declared.Refusal.{Refusal}
use Rattle.rules.specs.declared.Command.TheVariants.{Freeze}
use Rattle.laws.specs.Numbers.{lt_or}
use Rattle.laws.specs.Verdicts.{Itself, itself_by}
use Rattle.demands.specs.Sound.{OkStore}
use Rattle.demands.specs.Again.{again_held, held_frozen, held_again, again_accepted, again_stays}
use Rattle.naming.specs.Rows.{piece_rows}
use Rattle.naming.specs.Told.{piece_right}
use Rattle.rules.specs.Replies.{Answer}

ok_of : {s : Store} → ReadyStore s → OkStore s
ok_of r = record { sized = r.sized; sound = r.sound }

-- of any store: it is accepted, and nothing changes
same_did : (s : Store) (o : OkStore s) (p seat : ℕ) (a : Answer) → 0 < held_by s.register seat p → a ≡ fresh → Did (Freeze p seat) s [] (effect (answered a) s [])
unfolding effect_of
same_did s o p seat a some is = record { exact = done ∙ ap (effected s [] (Freeze p seat)) (sym (again_accepted o p seat again)) }
  where
    again : T (is_again s (Freeze p seat))
    again = held_again o seat p some

    reply : answered fresh ≡ accepted_by s.tables (Freeze p seat)
    reply = unfold accepted_by done_by value_of freed_by settles in refl

    nothing : [] ≡ listing (freed_by s.tables.base (Freeze p seat)) []
    nothing = unfold listing freed_by settles in refl

    done : effect (answered a) s [] ≡ effected s [] (Freeze p seat) accepted
    done = unfold effected in (λ k. effect ((ap answered is ∙ reply) k) (sym (again_stays o (Freeze p seat) again) k) (nothing k))

-- it is of a frozen piece
frozen : (s : Store) (o : OkStore s) (p seat : ℕ) → T (is_again s (Freeze p seat)) → Frozen s.tables.base p
frozen s o p seat t = held_frozen o seat p (again_held s (Freeze p seat) t)

-- a draft has no holds
pub draft_unheld : {n : ℕ} {states links leaders holds counts register : List ℕ} → ReadyStore (store_by (tables_of n states links leaders holds counts) register) → (p seat : ℕ)
    → states ! p ≡ 1 → held_by register seat p ≡ 0
unfolding state
draft_unheld {register = register} ready p seat e = ⊎_elim (λ h. absurd (omega (arith, (held_frozen (ok_of ready) seat p h).is))) (λ h. omega arith) (lt_or 0 (held_by register seat p))

module _ {n p seat : ℕ} {states links leaders holds counts register : List ℕ} (ready : ReadyStore (store_by (tables_of n states links leaders holds counts) register)) where
  pub twice_did : {a : Answer} → (held_by register seat p ≡ 0 → ⊥) → a ≡ fresh
      → Did (Freeze p seat) (store_by (tables_of n states links leaders holds counts) register) []
      (effect (answered a) (store_by (tables_of n states links leaders holds counts) register) [])
  twice_did {a} some is = same_did (store_by (tables_of n states links leaders holds counts) register) (ok_of ready) p seat a (omega (arith, some)) is

  -- not by a seat without a hold
  pub first_itself : held_by register seat p ≡ 0 → Itself (store_by (tables_of n states links leaders holds counts) register) (Freeze p seat)
  first_itself e = itself_by (store_by (tables_of n states links leaders holds counts) register) (Freeze p seat)
      (λ t. omega (arith, again_held (store_by (tables_of n states links leaders holds counts) register) (Freeze p seat) t))

  -- not of a draft
  pub draft_itself : states ! p ≡ 1 → Itself (store_by (tables_of n states links leaders holds counts) register) (Freeze p seat)
  unfolding state
  draft_itself e = itself_by (store_by (tables_of n states links leaders holds counts) register) (Freeze p seat)
      (λ t. omega (arith, (frozen (store_by (tables_of n states links leaders holds counts) register) (ok_of ready) p seat t).is))

  -- not of a number that names no piece
  pub wrong_itself : {q : Refusal} → first_of (piece_rows n states p) ≡ refused q → Itself (store_by (tables_of n states links leaders holds counts) register) (Freeze p seat)
  unfolding state
  wrong_itself {q} e =
      itself_by (store_by (tables_of n states links leaders holds counts) register) (Freeze p seat)
      (λ t. let f = frozen (store_by (tables_of n states links leaders holds counts) register) (ok_of ready) p seat t in other ((piece_right f.below (λ z. omega (arith, f.is))).exact ∙ e))
    where
      other : ◌≡◌ {A = Verdict} accepted (refused q) → ⊥
      other x = let z : ◌≡◌ {A = ℕ} 0 1 = cc x in omega arith

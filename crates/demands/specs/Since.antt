-- What one call adds to the history of a piece: it begins it anew, or is counted.
use Rattle.std.specs.Prelude.{◌≡◌, refl, Bool, true, false, not, List, [], ◌∷◌, ℕ, ◌+◌, ◌-◌, Ok, Err}
use Rattle.std.proofs.Math.Path.{ap}
use Rattle.std.proofs.Common.{◌∙◌, subst, ⊎_elim, arith, T_not, eqb→eq}
use Rattle.std.proofs.Math.Dec.{T, not_T}
use Rattle.rules.specs.Tests.{◌or◌, ◌&◌, only_if}
use Rattle.rules.specs.Tables.{Store}
use Rattle.rules.specs.Commands.{is_new, first_free, value_of}
use Rattle.rules.specs.Calls.{Call, does, Reply, answered, saw, checked, Outcome, done_by, accepted_by}
use Rattle.rules.specs.History.{Event, event, is_accepted, commands, accepted_of, has_value, gives_out, is_start, starts, since, often, adds_by, takes_by, added_by, taken_by}
use Rattle.rules.specs.declared.Command.{Command}
use Rattle.rules.specs.declared.Command.TheVariants.{New, Set, Freeze, Acquire, Release, Bin, Look}
use Rattle.laws.specs.Tests.{and_right, or_cases}
use Rattle.laws.specs.Below.{pick_true, pick-false}

-- this call begins the history of p anew: it gives out p, or starts
abbrev pub anew : ℕ → Event → Bool
anew p e = gives_out p e or starts e

often_on : (f : Event → Bool) (p : ℕ) (e : Event) (h : List Event) → T (not (anew p e)) → often f (since p (e ∷ h)) ≡ only_if (f e) 1 + often f (since p h)
unfolding often since
often_on f p e h t = ap (often f) (pick-false (anew p e) [] (e ∷ since p h) t)

often-anew : (f : Event → Bool) (p : ℕ) (e : Event) (h : List Event) → T (anew p e) → often f (since p (e ∷ h)) ≡ 0
unfolding often since
often-anew f p e h t = ap (often f) (pick_true (anew p e) [] (e ∷ since p h) t)

-- ---- what a seat took and added

module _ (i p : ℕ) (e : Event) (h : List Event) where
  pub taken_on : T (not (anew p e)) → taken_by i p (e ∷ h) ≡ only_if (accepted_of (takes_by i p) e) 1 + taken_by i p h
  unfolding taken_by
  taken_on t = often_on (accepted_of (takes_by i p)) p e h t

  pub taken-anew : T (anew p e) → taken_by i p (e ∷ h) ≡ 0
  unfolding taken_by
  taken-anew t = often-anew (accepted_of (takes_by i p)) p e h t

  -- where it held x before the call
  pub added_on : T (not (anew p e)) → (x : ℕ) → x + taken_by i p h ≡ added_by i p h → added_by i p (e ∷ h) ≡ only_if (accepted_of (adds_by i p x) e) 1 + added_by i p h
  unfolding added_by
  added_on t x k = pick-false (anew p e) 0 _ t ∙ ap (λ (y : ℕ). only_if (accepted_of (adds_by i p y) e) 1 + added_by i p h) less
    where
      less : added_by i p h - taken_by i p h ≡ x
      less = omega (arith, k)

  pub added-anew : T (anew p e) → added_by i p (e ∷ h) ≡ 0
  unfolding added_by
  added-anew t = pick_true (anew p e) 0 _ t

-- ---- which calls begin anew

-- what is not accepted has no value
refused_value : (p : ℕ) (r : Reply) → T (not (is_accepted r)) → T (has_value p r) → ⊥
unfolding is_accepted has_value
refused_value p (answered (Ok d)) t u = t
refused_value p (answered (Err r)) t u = u
refused_value p (saw s) t u = u
refused_value p (checked s) t u = u

-- a refused call begins nothing anew
pub refused_quiet : (p : ℕ) (c : Call) (o : Outcome) → T (not (is_accepted o.reply)) → T (not (anew p (event c o)))
refused_quiet p c o t =
    not_T (anew p (event c o))
    (λ u. ⊎_elim (λ g. refused_value p o.reply t (value g)) (λ b. T_not (is_accepted o.reply) t (begins b)) (or_cases (gives_out p (event c o)) (starts (event c o)) u))
  where
    value : T (gives_out p (event c o)) → T (has_value p o.reply)
    value g = unfold gives_out in (and_right (commands is_new c) (has_value p o.reply) g)

    begins : T (starts (event c o)) → T (is_accepted o.reply)
    begins b = unfold starts in (and_right (is_start c) (is_accepted o.reply) b)

-- only new gives out a number: the first that is free
pub gives : (p : ℕ) (s : Store) (o : Outcome) (c : Command) → o.reply ≡ accepted_by s.tables c → T (gives_out p (event (does c) o)) → (c ≡ New) × (first_free s.tables.base ≡ p)
unfolding gives_out commands
gives p s o New r u = (refl, eqb→eq (first_free s.tables.base) p (unfold has_value accepted_by done_by value_of in (subst (λ (x : Reply). T (has_value p x)) r u)))
gives p s o (Set q k t) r u = absurd u
gives p s o (Freeze q i) r u = absurd u
gives p s o (Acquire q i) r u = absurd u
gives p s o (Release q i) r u = absurd u
gives p s o (Bin q) r u = absurd u
gives p s o (Look q) r u = absurd u

-- another command begins nothing anew
pub command_quiet : (p : ℕ) (c : Command) (o : Outcome) → T (not (gives_out p (event (does c) o))) → T (not (anew p (event (does c) o)))
unfolding starts
command_quiet p c o t = go (gives_out p (event (does c) o)) t
  where
    go : (b : Bool) → T (not b) → T (not (b or false))
    go true t = t
    go false t = tt

-- an accepted command counts where it has f
pub command_of : (f : Command → Bool) (c : Command) (o : Outcome) → T (is_accepted o.reply) → only_if (accepted_of f (event (does c) o)) 1 ≡ only_if (f c) 1
unfolding accepted_of commands
command_of f c o t = go (is_accepted o.reply) t
  where
    go : (b : Bool) → T b → only_if (b & f c) 1 ≡ only_if (f c) 1
    go true t = refl
    go false t = absurd t

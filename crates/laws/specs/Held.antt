-- The table of holds is what the history says: accepted freezes and acquires less releases, since the number was last given out.
use Rattle.std.specs.Prelude.{◌≡◌, ◌≢◌, Bool, true, false, not, T, eqb, set}
use Rattle.std.proofs.Math.Path.{refl, sym, ap}
use Rattle.std.proofs.Common.{◌∙◌, subst, eqb→eq}
use Rattle.std.proofs.Math.Logic.{inr, ⊎_elim}
use Prim.Native.Nat.{ℕ, zero, suc, ◌+◌, ◌-◌, ◌<◌}
use Rattle.std.proofs.Math.Decide.{ℕ_discrete}
use native.Mathlib.Omega.{arith}
use Rattle.std.proofs.Math.Dec.{T_not}
use Rattle.std.proofs.Math.ListN.{get_or}
use Rattle.std.proofs.Math.Seq.{get_or-set_same, get_or-set_other}
use Rattle.rules.specs.Tests.{◌or◌, ◌&◌, pick, only_if}
use Rattle.rules.specs.Reach.{here}
use Rattle.rules.specs.Tables.{Base, is_free, is_frozen, holds_of, is_kept}
use Rattle.rules.specs.Words.{SizedBase}
use Rattle.rules.specs.Commands.{piece_of, is_freeze, is_acquire, is_release, not_held, table_refusals, with_states, with_links, with_holds}
use Rattle.rules.specs.Commands.{one_more, one_less, free_all, gone, freeze_first, edit, settles, after}
use Rattle.rules.specs.declared.Refusal.TheVariants.{Number, Free, State, NotHeld}
use Rattle.rules.specs.declared.Command.{Command}
use Rattle.rules.specs.declared.Command.TheVariants.{New, Set, Freeze, Acquire, Release, Bin, Look}
use Rattle.laws.specs.Tests.{and_left, and_right}
use Rattle.laws.specs.Below.{T_dec, pick_true, pick-false}
use Rattle.laws.specs.Words.{eqb_of, neqb_of, is_frozen→, →is_kept}
use Rattle.laws.specs.Sound.{Good}
use Rattle.laws.specs.Settle.{holds_free_all}
use Rattle.laws.specs.Passes.{applies, Passes, not_by, draft_of, live_draft}
use Rattle.laws.specs.Commands.{below_of, edit-n}

-- by the tables a freeze or an acquire naming p adds a hold
unfoldable pub adds_to : ℕ → Command → Bool
adds_to p c = (is_freeze c or is_acquire c) & eqb (piece_of c) p

-- and a release naming p takes one
unfoldable pub takes_from : ℕ → Command → Bool
takes_from p c = is_release c & eqb (piece_of c) p

module _ (b : Base) (z : SizedBase b) (g : Good b) where
  -- the holds of p where those of q became v
  set_holds : (q p v : ℕ) → q < b.n → get_or (set b.holds q v) p 0 ≡ pick (eqb q p) v (holds_of b p)
  unfolding holds_of
  set_holds q p v h = go (ℕ_discrete p q)
    where
      go : Dec (p ≡ q) → get_or (set b.holds q v) p 0 ≡ pick (eqb q p) v (get_or b.holds p 0)
      go (yes e) =
          ap (λ (x : ℕ). get_or (set b.holds q v) x 0) e ∙ get_or-set_same b.holds q v 0 (subst (λ (x : ℕ). q < x) (sym z.holds) h)
          ∙ sym (pick_true (eqb q p) v (get_or b.holds p 0) (eqb_of (sym e)))
      go (no d) = get_or-set_other b.holds q p v 0 d ∙ sym (pick-false (eqb q p) v (get_or b.holds p 0) (neqb_of (λ e. d (sym e))))

  -- one more on q
  more : (q p x v : ℕ) → x ≡ pick (eqb q p) v (holds_of b p) → v ≡ holds_of b q + 1 → x ≡ holds_of b p + only_if (eqb q p) 1
  more q p x v e f = go (eqb q p) refl e
    where
      go : (t : Bool) → eqb q p ≡ t → x ≡ pick t v (holds_of b p) → x ≡ holds_of b p + only_if t 1
      go true s e = let y : holds_of b q ≡ holds_of b p = ap (holds_of b) (eqb→eq q p (subst T (sym s) tt)) in omega arith
      go false s e = omega arith

  -- one less on q
  less : (q p x v : ℕ) → x ≡ pick (eqb q p) v (holds_of b p) → v + 1 ≡ holds_of b q → x + only_if (eqb q p) 1 ≡ holds_of b p
  less q p x v e f = go (eqb q p) refl e
    where
      go : (t : Bool) → eqb q p ≡ t → x ≡ pick t v (holds_of b p) → x + only_if t 1 ≡ holds_of b p
      go true s e = let y : holds_of b q ≡ holds_of b p = ap (holds_of b) (eqb→eq q p (subst T (sym s) tt)) in omega arith
      go false s e = omega arith

  draft_holds : (q : ℕ) → q < b.n → T (not (is_free b q)) → T (not (is_frozen b q)) → holds_of b q ≡ 0
  draft_holds q h f d = (draft_of b q (g.wells q h) (live_draft b q (g.wells q h) f d)).holds

  -- the command's own change
  edit_holds : (c : Command) → Passes b c → (p : ℕ) → p < b.n → holds_of (edit b c) p + only_if (takes_from p c) 1 ≡ holds_of b p + only_if (adds_to p c) 1
  unfolding edit adds_to takes_from with_states with_links with_holds one_more one_less freeze_first table_refusals applies not_held
  edit_holds New c p h = unfold holds_of in refl
  edit_holds (Set q k t) c p h = unfold holds_of in refl
  edit_holds (Freeze q seat) c p h = ⊎_elim was draft (T_dec (is_frozen b q))
    where
      m : q < b.n
      m = below_of b z g q (not_by c Number)

      was : T (is_frozen b q) → holds_of (pick (is_frozen b q) (one_more b q) (freeze_first b q)) p + 0 ≡ holds_of b p + only_if (eqb q p) 1
      was t =
          let e = ap (λ (x : Base). holds_of x p) (pick_true (is_frozen b q) (one_more b q) (freeze_first b q) t) in
          let x = more q p (holds_of (one_more b q) p) (holds_of b q + 1) (unfold holds_of in (set_holds q p (holds_of b q + 1) m)) refl in
          omega arith

      draft : T (not (is_frozen b q)) → holds_of (pick (is_frozen b q) (one_more b q) (freeze_first b q)) p + 0 ≡ holds_of b p + only_if (eqb q p) 1
      draft t =
          let e = ap (λ (x : Base). holds_of x p) (pick-false (is_frozen b q) (one_more b q) (freeze_first b q) t) in
          let d = draft_holds q m (not_by c Free) t in
          let f : 1 ≡ holds_of b q + 1 = omega arith in
          let x = more q p (holds_of (freeze_first b q) p) 1 (unfold holds_of in (set_holds q p 1 m)) f in
          omega arith
  edit_holds (Acquire q seat) c p h =
      let x = more q p (holds_of (one_more b q) p) (holds_of b q + 1) (unfold holds_of in (set_holds q p (holds_of b q + 1) (below_of b z g q (not_by c Number)))) refl in
      omega arith
  edit_holds (Release q seat) c p h =
      let y : holds_of b q ≢ 0 = λ e. T_not (eqb (holds_of b q) 0) (not_by c NotHeld) (eqb_of e) in
      let f : holds_of b q - 1 + 1 ≡ holds_of b q = omega arith in
      let x = less q p (holds_of (one_less b q) p) (holds_of b q - 1) (unfold holds_of in (set_holds q p (holds_of b q - 1) (below_of b z g q (not_by c Number)))) f in
      omega arith
  edit_holds (Bin q) c p h =
      let x = holds_free_all b (eqb q) p h in
      ⊎_elim
      (λ t.
      let y = pick_true (eqb q p) 0 (holds_of b p) t in
      let d = draft_holds q (below_of b z g q (not_by c Number)) (not_by c Free) (not_by c State) in
      let e : holds_of b q ≡ holds_of b p = ap (holds_of b) (eqb→eq q p t) in
      omega arith)
      (λ t. let y = pick-false (eqb q p) 0 (holds_of b p) t in omega arith) (T_dec (eqb q p))
  edit_holds (Look q) c p h = refl

  -- a piece that is no longer kept has no hold
  gone_holds : (e : Base) (p : ℕ) → p < e.n → T (gone e p) → holds_of e p ≡ 0
  unfolding gone
  gone_holds e p h t = go (holds_of e p) refl
    where
      go : (x : ℕ) → holds_of e p ≡ x → x ≡ 0
      go zero y = refl
      go (suc x) y =
          absurd (T_not (is_kept e p) (and_right (is_frozen e p) (not (is_kept e p)) t)
          (→is_kept e p (record { root = p; is = inr (is_frozen→ e p h (and_left (is_frozen e p) (not (is_kept e p)) t), omega arith); reached = here })))

  -- what is freed had no hold
  pub after_same : (c : Command) (p : ℕ) → p < b.n → holds_of (after b c) p ≡ holds_of (edit b c) p
  unfolding after
  after_same c p h = go (settles c)
    where
      e : Base
      e = edit b c

      m : p < e.n
      m = subst (λ (x : ℕ). p < x) (sym (edit-n b z g c)) h

      go : (x : Bool) → holds_of (pick x (free_all e (gone e)) e) p ≡ holds_of e p
      go true = holds_free_all e (gone e) p m ∙ ⊎_elim (λ t. pick_true (gone e p) 0 (holds_of e p) t ∙ sym (gone_holds e p m t)) (λ t. pick-false (gone e p) 0 (holds_of e p) t) (T_dec (gone e p))
      go false = refl

  -- an accepted freeze or acquire naming p adds one, an accepted release takes one, and nothing else changes its holds
  pub after_holds : (c : Command) → Passes b c → (p : ℕ) → p < b.n → holds_of (after b c) p + only_if (takes_from p c) 1 ≡ holds_of b p + only_if (adds_to p c) 1
  after_holds c ps p h = ap (λ (x : ℕ). x + only_if (takes_from p c) 1) (after_same c p h) ∙ edit_holds c ps p h

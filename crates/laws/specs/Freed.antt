-- Which pieces an accepted command frees: those that it lists, and a binned draft.
use Rattle.std.specs.Prelude.{◌≡◌, ◌⊎◌, ◌↔◌, [], ℕ, ◌<◌, eqb, set}
use Rattle.std.proofs.Math.Path.{refl, sym, subst}
use Rattle.std.proofs.Common.{ap, ◌∙◌, arith, eqb→eq, get_or-set_other}
use Rattle.std.proofs.Math.Logic.{inl, inr, ⊎_elim}
use Rattle.std.proofs.Math.Bool.{Bool, true, false}
use Rattle.std.proofs.Math.Decide.{ℕ_discrete}
use Rattle.std.proofs.Math.Dec.{T}
use Rattle.std.proofs.Math.ListN.{get_or}
use Rattle.std.proofs.Math.Seq.{get_or-set_same}
use Rattle.rules.specs.Tests.{◌&◌, pick}
use Rattle.rules.specs.Lists.{Among}
use Rattle.rules.specs.Tables.{Base, state, is_draft, is_frozen, reaches}
use Rattle.rules.specs.Words.{Draft, Live, SizedBase}
use Rattle.rules.specs.Commands.{table_refusals, with_states, with_links, with_holds, one_more, one_less, free_all, gone, gone_list, first_free, freeze_first, edit, settles, freed_by, after}
use Rattle.rules.specs.declared.Refusal.TheVariants.{Number, Free, State}
use Rattle.rules.specs.declared.Command.{Command}
use Rattle.rules.specs.declared.Command.TheVariants.{New, Set, Freeze, Acquire, Release, Bin, Look}
use Rattle.laws.specs.Tests.{and_left}
use Rattle.laws.specs.Below.{T_dec, pick_true, pick-false, get_or-table, among_nil, among_list}
use Rattle.laws.specs.Words.{eqb_of, is_draft→, is_frozen→}
use Rattle.laws.specs.Sound.{Good}
use Rattle.laws.specs.Settle.{state-free_all}
use Rattle.laws.specs.Passes.{applies, Passes, not_by, live_draft}
use Rattle.laws.specs.Commands.{below_of, first_free_lem, edit-n}

module _ (b : Base) (z : SizedBase b) (g : Good b) where
  -- new makes one number a draft
  new_state : (p : ℕ) → Passes b New → (state (edit b New) p ≡ 1) ⊎ (state (edit b New) p ≡ state b p)
  unfolding edit with_states state
  new_state p c = go (ℕ_discrete p (first_free b))
    where
      go : Dec (p ≡ first_free b) → (get_or (set b.states (first_free b) 1) p 0 ≡ 1) ⊎ (get_or (set b.states (first_free b) 1) p 0 ≡ get_or b.states p 0)
      go (yes e) =
          inl (ap (λ (x : ℕ). get_or (set b.states (first_free b) 1) x 0) e
          ∙ get_or-set_same b.states (first_free b) 1 0 (subst (λ (x : ℕ). first_free b < x) (sym z.states) (first_free_lem b c).below))
      go (no d) = inr (get_or-set_other b.states (first_free b) p 1 0 d)

  -- freeze makes drafts frozen
  freeze_state : (q seat p : ℕ) → p < b.n → ((state (edit b (Freeze q seat)) p ≡ 2) × Draft b p) ⊎ (state (edit b (Freeze q seat)) p ≡ state b p)
  unfolding edit
  freeze_state q seat p h = go (is_frozen b q)
    where
      turns : Bool
      turns = is_draft b p & reaches b q p

      at : state (freeze_first b q) p ≡ pick turns 2 (state b p)
      at = unfold freeze_first state in (get_or-table (λ r. pick (is_draft b r & reaches b q r) 2 (state b r)) b.n p 0 h)

      more : state (one_more b q) p ≡ state b p
      more = unfold one_more with_holds state in refl

      go : (x : Bool) → ((state (pick x (one_more b q) (freeze_first b q)) p ≡ 2) × Draft b p) ⊎ (state (pick x (one_more b q) (freeze_first b q)) p ≡ state b p)
      go true = inr more
      go false =
          ⊎_elim (λ t. inl (at ∙ pick_true turns 2 (state b p) t, is_draft→ b p h (and_left (is_draft b p) (reaches b q p) t))) (λ t. inr (at ∙ pick-false turns 2 (state b p) t)) (T_dec turns)

  -- a command's own change frees a binned draft alone
  pub edit_free : (c : Command) → Passes b c → (p : ℕ) → p < b.n → state (edit b c) p ≡ 0 → (state b p ≡ 0) ⊎ (c ≡ Bin p)
  unfolding edit with_links with_holds one_more one_less
  edit_free New c p h e = ⊎_elim (λ x. absurd (let y = e in omega arith)) (λ x. inl (sym x ∙ e)) (new_state p c)
  edit_free (Set q k t) c p h e = inl (unfold state in e)
  edit_free (Freeze q seat) c p h e = ⊎_elim (λ x. absurd (let y = x.0 in omega arith)) (λ x. inl (sym x ∙ e)) (freeze_state q seat p h)
  edit_free (Acquire q seat) c p h e = inl (unfold state in e)
  edit_free (Release q seat) c p h e = inl (unfold state in e)
  edit_free (Bin q) c p h e = ⊎_elim (λ t. inr (ap Bin (eqb→eq q p t))) (λ t. inl (sym (state-free_all b (eqb q) p h ∙ pick-false (eqb q p) 0 (state b p) t) ∙ e)) (T_dec (eqb q p))
  edit_free (Look q) c p h e = inl e

  -- what is frozen after it was live before
  pub edit_live : (c : Command) → Passes b c → (p : ℕ) → p < b.n → state (edit b c) p ≡ 2 → Live b p
  unfolding edit with_links with_holds one_more one_less
  edit_live New c p h e = ⊎_elim (λ x. absurd (let y = e in omega arith)) (λ x. inr (record { below = h; is = sym x ∙ e })) (new_state p c)
  edit_live (Set q k t) c p h e = inr (record { below = h; is = unfold state in e })
  edit_live (Freeze q seat) c p h e = ⊎_elim (λ x. inl x.1) (λ x. inr (record { below = h; is = sym x ∙ e })) (freeze_state q seat p h)
  edit_live (Acquire q seat) c p h e = inr (record { below = h; is = unfold state in e })
  edit_live (Release q seat) c p h e = inr (record { below = h; is = unfold state in e })
  edit_live (Bin q) c p h e = ⊎_elim
      (λ t. absurd (let x = state-free_all b (eqb q) p h ∙ pick_true (eqb q p) 0 (state b p) t in omega arith))
      (λ t. inr (record { below = h; is = sym (state-free_all b (eqb q) p h ∙ pick-false (eqb q p) 0 (state b p) t) ∙ e })) (T_dec (eqb q p))
  edit_live (Look q) c p h e = inr (record { below = h; is = e })

  e_below : (c : Command) (p : ℕ) → p < b.n → p < (edit b c).n
  e_below c p h = subst (λ (x : ℕ). p < x) (sym (edit-n b z g c)) h

  -- a piece that is freed is listed, or is the binned draft
  freed_to : (c : Command) → Passes b c → (p : ℕ) → Live b p → state (after b c) p ≡ 0 → Among p (freed_by b c) ⊎ (c ≡ Bin p)
  unfolding after freed_by gone_list
  freed_to c ps p l e = go (settles c) e
    where
      h : p < b.n
      h = ⊎_elim (λ d. d.below) (λ d. d.below) l

      back : state (edit b c) p ≡ 0 → c ≡ Bin p
      back x = ⊎_elim (λ y. absurd (⊎_elim (λ d. let w = d.is in omega arith) (λ d. let w = d.is in omega arith) l)) (λ y. y) (edit_free c ps p h x)

      go : (x : Bool) → state (pick x (free_all (edit b c) (gone (edit b c))) (edit b c)) p ≡ 0 → Among p (pick x (gone_list (edit b c)) []) ⊎ (c ≡ Bin p)
      go true y =
          let w = state-free_all (edit b c) (gone (edit b c)) p (e_below c p h) in
          ⊎_elim (λ t. inl ((among_list (gone (edit b c)) (edit b c).n p).1 (e_below c p h, t)))
          (λ t. inr (back (sym (w ∙ pick-false (gone (edit b c) p) 0 (state (edit b c) p) t) ∙ y))) (T_dec (gone (edit b c) p))
      go false y = inr (back y)

  -- and what is listed was live and is free
  freed_from_lem : (c : Command) → Passes b c → (p : ℕ) → Among p (freed_by b c) → Live b p × (state (after b c) p ≡ 0)
  unfolding after freed_by
  freed_from_lem c ps p a = go (settles c) a
    where
      go : (x : Bool) → Among p (pick x (gone_list (edit b c)) []) → Live b p × (state (pick x (free_all (edit b c) (gone (edit b c))) (edit b c)) p ≡ 0)
      go true m =
          let r : (p < (edit b c).n) × T (gone (edit b c) p) = unfold gone_list in ((among_list (gone (edit b c)) (edit b c).n p).0 m) in
          let h : p < b.n = subst (λ (x : ℕ). p < x) (edit-n b z g c) r.0 in
          (edit_live c ps p h (frozen_state p r.0 r.1), state-free_all (edit b c) (gone (edit b c)) p r.0 ∙ pick_true (gone (edit b c) p) 0 (state (edit b c) p) r.1)
        where
          frozen_state : (p : ℕ) → p < (edit b c).n → T (gone (edit b c) p) → state (edit b c) p ≡ 2
          frozen_state p h t = unfold gone in (is_frozen→ (edit b c) p h (and_left (is_frozen (edit b c) p) _ t)).is
      go false m = absurd (among_nil m)

  -- so does a binned draft
  binned : (p : ℕ) → Passes b (Bin p) → Live b p × (state (after b (Bin p)) p ≡ 0)
  unfolding after settles edit table_refusals applies
  binned p c =
      let h = below_of b z g p (not_by c Number) in
      let e : Base = free_all b (eqb p) in
      let x : state e p ≡ 0 = state-free_all b (eqb p) p h ∙ pick_true (eqb p p) 0 (state b p) (eqb_of {m = p} {n = p} refl) in
      (inl (record { below = h; is = live_draft b p (g.wells p h) (not_by c Free) (not_by c State) }), state-free_all e (gone e) p (e_below (Bin p) p h) ∙ zeros (gone e p) (state e p) x)
    where
      zeros : (t : Bool) (y : ℕ) → y ≡ 0 → pick t 0 y ≡ 0
      zeros true y e = refl
      zeros false y e = e

  -- besides a binned draft those alone are freed
  pub alone : (c : Command) → Passes b c → (p : ℕ) → (Live b p × (state (after b c) p ≡ 0)) ↔ (Among p (freed_by b c) ⊎ (c ≡ Bin p))
  alone c ps p =
      (λ x. freed_to c ps p x.0 x.1, ⊎_elim (freed_from_lem c ps p) (λ e. subst (λ (d : Command). Live b p × (state (after b d) p ≡ 0)) (sym e) (binned p (subst (Passes b) e ps))))

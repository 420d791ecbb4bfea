-- `is_sound` decides `Sound`; sound tables are what their states, links and holds give.
use Rattle.std.specs.Prelude.{◌≡◌, ◌⊎◌, ◌≢◌, Bool, true, false, not, ℕ, ◌<◌, leb}
use Rattle.std.proofs.Common.{sym, ◌∙◌, subst, T_not, ltb→lt, lt→ltb, le→leb, ext_get_or}
use Rattle.std.proofs.Math.Logic.{inl, inr, ⊎_elim}
use Rattle.std.proofs.Math.Decide.{ℕ_discrete}
use Rattle.std.proofs.Math.Dec.{T, eqb, ltb, eqb→eq, leb→le}
use Rattle.rules.specs.Tests.{◌or◌, ◌&◌}
use Rattle.laws.specs.Tests.{or_left, or_right, or_cases, and_both, and_left, and_right}
use Rattle.rules.specs.Limits.{none}
use Rattle.rules.specs.Below.{table}
use Rattle.laws.specs.Below.{T_dec, pick_true, pick-false, every→, →every, get_or-table, length-table}
use Rattle.rules.specs.Tables.{tables_on, Base, Tables, state, is_free, is_draft, is_frozen, is_live, link_at, holds_of, leader_of, count_of}
use Rattle.rules.specs.Tables.{is_kept, leader_entry, count_entry, finish, all_four, well_free, well_draft, well_frozen, well, sound_at, is_sound}
use Rattle.rules.specs.Words.{Frozen, Live, Leader, Kept, FreeWell, DraftWell, FrozenWell, Well, wfree, wdraft, wfrozen}
use Rattle.rules.specs.Words.{leader_at, count_at, Piece, free, draft, frozen, Sound, Sized}
use Rattle.laws.specs.Words.{eqb_of, neqb_of, is_draft→, →is_draft, is_frozen→, →is_frozen, not_frozen, leader_of_is, leader-one, is_kept→, →is_kept}

module _ (b : Base) where
  pub leader_entry_frozen : (p : ℕ) → state b p ≡ 2 → leader_entry b p ≡ leader_of b p
  unfolding leader_entry
  leader_entry_frozen p e = pick_true (is_frozen b p) (leader_of b p) none (→is_frozen b p e)

  pub leader_entry_other : (p : ℕ) → T (not (is_frozen b p)) → leader_entry b p ≡ none
  unfolding leader_entry
  leader_entry_other p e = pick-false (is_frozen b p) (leader_of b p) none e

  not_and : (x y : Bool) → T (not x) → T (not (x & y))
  not_and true y t = absurd t
  not_and false y t = tt

  not_and_right : (x y : Bool) → T (not y) → T (not (x & y))
  not_and_right true y t = t
  not_and_right false y t = tt

  pub count_entry_other : (p : ℕ) → T (not (is_frozen b p)) → count_entry b p ≡ 0
  unfolding count_entry
  count_entry_other p e = pick-false (is_frozen b p & eqb (leader_of b p) p) (count_of b p) 0 (not_and (is_frozen b p) (eqb (leader_of b p) p) e)

  pub count_entry-leads : (p : ℕ) → state b p ≡ 2 → leader_of b p ≡ p → count_entry b p ≡ count_of b p
  unfolding count_entry
  count_entry-leads p e l = pick_true (is_frozen b p & eqb (leader_of b p) p) (count_of b p) 0 (and_both (is_frozen b p) (eqb (leader_of b p) p) (→is_frozen b p e) (eqb_of l))

  pub count_entry-led : (p : ℕ) → leader_of b p ≢ p → count_entry b p ≡ 0
  unfolding count_entry
  count_entry-led p d = pick-false (is_frozen b p & eqb (leader_of b p) p) (count_of b p) 0 (not_and_right (is_frozen b p) (eqb (leader_of b p) p) (neqb_of d))

  -- links
  all_four→ : (p : ℕ) (f : ℕ → Bool) → T (all_four b p f) → (k : ℕ) → k < 4 → T (f (link_at b p k))
  unfolding all_four
  all_four→ p f t k h = every→ (λ j. f (link_at b p j)) 4 t k h

  →all_four : (p : ℕ) (f : ℕ → Bool) → ((k : ℕ) → k < 4 → T (f (link_at b p k))) → T (all_four b p f)
  unfolding all_four
  →all_four p f h = →every (λ j. f (link_at b p j)) 4 h

  none_or→ : (t : ℕ) (f : ℕ → Bool) (P : ℕ → Type 0) → (t < b.n → T (f t) → P t) → T (eqb t none or ltb t b.n & f t) → (t ≡ none) ⊎ P t
  none_or→ t f P h u = go (or_cases (eqb t none) (ltb t b.n & f t) u)
    where
      go : T (eqb t none) ⊎ T (ltb t b.n & f t) → (t ≡ none) ⊎ P t
      go (inl e) = inl (eqb→eq t none e)
      go (inr v) = inr (h (ltb→lt t b.n (and_left (ltb t b.n) (f t) v)) (and_right (ltb t b.n) (f t) v))

  →none_or : (t : ℕ) (f : ℕ → Bool) (P : ℕ → Type 0) → (P t → (t < b.n) × T (f t)) → (t ≡ none) ⊎ P t → T (eqb t none or ltb t b.n & f t)
  →none_or t f P h (inl e) = or_left (eqb t none) (ltb t b.n & f t) (eqb_of e)
  →none_or t f P h (inr v) = or_right (eqb t none) (ltb t b.n & f t) (and_both (ltb t b.n) (f t) (lt→ltb t b.n (h v).0) (h v).1)

  is_live→ : (p : ℕ) → p < b.n → T (is_live b p) → Live b p
  unfolding is_live
  is_live→ p h t = go (or_cases (is_draft b p) (is_frozen b p) t)
    where
      go : T (is_draft b p) ⊎ T (is_frozen b p) → Live b p
      go (inl u) = inl (is_draft→ b p h u)
      go (inr u) = inr (is_frozen→ b p h u)

  →is_live : (p : ℕ) → Live b p → (p < b.n) × T (is_live b p)
  unfolding is_live
  →is_live p (inl d) = (d.below, or_left (is_draft b p) (is_frozen b p) (→is_draft b p d.is))
  →is_live p (inr f) = (f.below, or_right (is_draft b p) (is_frozen b p) (→is_frozen b p f.is))

  -- the three cases of `well`
  split3 : (x y z : Bool) → T (x & y & z) → T x × T y × T z
  split3 x y z t = (and_left x (y & z) t, and_left y z (and_right x (y & z) t), and_right y z (and_right x (y & z) t))

  join3 : (x y z : Bool) → T x → T y → T z → T (x & y & z)
  join3 x y z a c d = and_both x (y & z) a (and_both y z c d)

  well_free→ : (p : ℕ) → T (well_free b p) → FreeWell b p
  unfolding well_free is_free
  well_free→ p t =
      let s = split3 (is_free b p) (all_four b p (λ x. eqb x none)) (eqb (holds_of b p) 0) t in
      record { is = eqb→eq (state b p) 0 s.0; links = λ k h. eqb→eq (link_at b p k) none (all_four→ p (λ x. eqb x none) s.1 k h); holds = eqb→eq (holds_of b p) 0 s.2 }

  →well_free : (p : ℕ) → FreeWell b p → T (well_free b p)
  unfolding well_free is_free
  →well_free p w = join3 (is_free b p) (all_four b p (λ x. eqb x none)) (eqb (holds_of b p) 0) (eqb_of w.is) (→all_four p (λ x. eqb x none) (λ k h. eqb_of (w.links k h))) (eqb_of w.holds)

  well_draft→ : (p : ℕ) → T (well_draft b p) → DraftWell b p
  unfolding well_draft is_draft
  well_draft→ p t =
      let s = split3 (is_draft b p) (all_four b p (λ x. eqb x none or ltb x b.n & is_live b x)) (eqb (holds_of b p) 0) t in
      record {
        is = eqb→eq (state b p) 1 s.0;
        links = λ k h. none_or→ (link_at b p k) (is_live b) (Live b) (is_live→ (link_at b p k)) (all_four→ p (λ x. eqb x none or ltb x b.n & is_live b x) s.1 k h);
        holds = eqb→eq (holds_of b p) 0 s.2;
      }

  →well_draft : (p : ℕ) → DraftWell b p → T (well_draft b p)
  unfolding well_draft is_draft
  →well_draft p w =
      join3 (is_draft b p) (all_four b p (λ x. eqb x none or ltb x b.n & is_live b x)) (eqb (holds_of b p) 0) (eqb_of w.is)
      (→all_four p (λ x. eqb x none or ltb x b.n & is_live b x) (λ k h. →none_or (link_at b p k) (is_live b) (Live b) (→is_live (link_at b p k)) (w.links k h)))
      (eqb_of w.holds)

  well_frozen→ : (p : ℕ) → T (well_frozen b p) → FrozenWell b p
  unfolding well_frozen is_frozen
  well_frozen→ p t =
      let s = split3 (is_frozen b p) (all_four b p (λ x. eqb x none or ltb x b.n & is_frozen b x)) (leb (holds_of b p) 1000) t in
      record {
        is = eqb→eq (state b p) 2 s.0;
        links = λ k h. none_or→ (link_at b p k) (is_frozen b) (Frozen b) (is_frozen→ b (link_at b p k)) (all_four→ p (λ x. eqb x none or ltb x b.n & is_frozen b x) s.1 k h);
        holds = leb→le (holds_of b p) 1000 s.2;
      }

  →well_frozen : (p : ℕ) → FrozenWell b p → T (well_frozen b p)
  unfolding well_frozen is_frozen
  →well_frozen p w =
      join3 (is_frozen b p) (all_four b p (λ x. eqb x none or ltb x b.n & is_frozen b x)) (leb (holds_of b p) 1000) (eqb_of w.is)
      (→all_four p (λ x. eqb x none or ltb x b.n & is_frozen b x)
      (λ k h. →none_or (link_at b p k) (is_frozen b) (Frozen b) (λ f. (f.below, →is_frozen b (link_at b p k) f.is)) (w.links k h)))
      (le→leb (holds_of b p) 1000 w.holds)

  pub well→ : (p : ℕ) → T (well b p) → Well b p
  unfolding well
  well→ p t =
      ⊎_elim (λ x. wfree (well_free→ p x)) (λ y. ⊎_elim (λ x. wdraft (well_draft→ p x)) (λ x. wfrozen (well_frozen→ p x)) (or_cases (well_draft b p) (well_frozen b p) y))
      (or_cases (well_free b p) (well_draft b p or well_frozen b p) t)

  pub →well : (p : ℕ) → Well b p → T (well b p)
  unfolding well
  →well p (wfree w) = or_left (well_free b p) (well_draft b p or well_frozen b p) (→well_free p w)
  →well p (wdraft w) = or_right (well_free b p) (well_draft b p or well_frozen b p) (or_left (well_draft b p) (well_frozen b p) (→well_draft p w))
  →well p (wfrozen w) = or_right (well_free b p) (well_draft b p or well_frozen b p) (or_right (well_draft b p) (well_frozen b p) (→well_frozen p w))

  -- a store's base part is right: each piece is well, and each frozen piece is kept
  pub record Good : Type 0 where
    pub wells : (p : ℕ) → p < b.n → Well b p
    pub kept : (p : ℕ) → Frozen b p → Kept b p

-- ---- a sound store is a good base with the leaders and counts that it gives

module _ (s : Tables) where
  -- the tables as sets of facts
  pub record Entries : Type 0 where
    pub good : Good s.base
    pub leaders : (p : ℕ) → p < s.base.n → leader_at s p ≡ leader_entry s.base p
    pub counts : (p : ℕ) → p < s.base.n → count_at s p ≡ count_entry s.base p

  sound→entry : (p : ℕ) → p < s.base.n → Piece s p → Well s.base p × (leader_at s p ≡ leader_entry s.base p) × (count_at s p ≡ count_entry s.base p)
      × (Frozen s.base p → Kept s.base p)
  sound→entry p h (free w l c) =
      let nf = not_frozen s.base p 0 w.is tt in
      (wfree w, l ∙ sym (leader_entry_other s.base p nf), c ∙ sym (count_entry_other s.base p nf), λ f. absurd (T_not (is_frozen s.base p) nf (→is_frozen s.base p f.is)))
  sound→entry p h (draft w l c) =
      let nf = not_frozen s.base p 1 w.is tt in
      (wdraft w, l ∙ sym (leader_entry_other s.base p nf), c ∙ sym (count_entry_other s.base p nf), λ f. absurd (T_not (is_frozen s.base p) nf (→is_frozen s.base p f.is)))
  sound→entry p h (frozen w l c k) = (wfrozen w, e ∙ sym (leader_entry_frozen s.base p w.is), go (ℕ_discrete (leader_at s p) p), λ _. k)
    where
      e : leader_at s p ≡ leader_of s.base p
      e = leader-one s.base p (leader_at s p) (leader_of s.base p) l (leader_of_is s.base p (record { below = h; is = w.is }))

      go : Dec (leader_at s p ≡ p) → count_at s p ≡ count_entry s.base p
      go (yes x) = c.leads x ∙ sym (count_entry-leads s.base p w.is (sym e ∙ x))
      go (no x) = c.others x ∙ sym (count_entry-led s.base p (λ y. x (e ∙ y)))

  pub sound→entries : Sound s → Entries
  sound→entries sd = record {
    good = record { wells = λ p h. (sound→entry p h (sd p h)).0; kept = λ p f. (sound→entry p f.below (sd p f.below)).3 f };
    leaders = λ p h. (sound→entry p h (sd p h)).1;
    counts = λ p h. (sound→entry p h (sd p h)).2;
  }

  entry→sound : (p : ℕ) → p < s.base.n → Well s.base p → leader_at s p ≡ leader_entry s.base p → count_at s p ≡ count_entry s.base p
      → (Frozen s.base p → Kept s.base p) → Piece s p
  entry→sound p h (wfree w) l c k =
      let nf = not_frozen s.base p 0 w.is tt in
      free w (l ∙ leader_entry_other s.base p nf) (c ∙ count_entry_other s.base p nf)
  entry→sound p h (wdraft w) l c k =
      let nf = not_frozen s.base p 1 w.is tt in
      draft w (l ∙ leader_entry_other s.base p nf) (c ∙ count_entry_other s.base p nf)
  entry→sound p h (wfrozen w) l c k =
      let f : Frozen s.base p = record { below = h; is = w.is } in
      let e : leader_at s p ≡ leader_of s.base p = l ∙ leader_entry_frozen s.base p w.is in
      frozen w (subst (λ (x : ℕ). Leader s.base p x) (sym e) (leader_of_is s.base p f))
      (record { leads = λ x. c ∙ count_entry-leads s.base p w.is (sym e ∙ x); others = λ x. c ∙ count_entry-led s.base p (λ y. x (e ∙ y)) })
      (k f)

  pub entries→sound : Entries → Sound s
  entries→sound e p h = entry→sound p h (e.good.wells p h) (e.leaders p h) (e.counts p h) (e.good.kept p)

  -- the test
  pub is_sound→ : T (is_sound s) → Sound s
  unfolding is_sound sound_at
  is_sound→ t p h =
      let u = every→ (sound_at s) s.base.n t p h in
      let w = and_right (well s.base p) (eqb (leader_at s p) (leader_entry s.base p) & eqb (count_at s p) (count_entry s.base p) & (not (is_frozen s.base p) or is_kept s.base p)) u in
      let v = split3 s.base (eqb (leader_at s p) (leader_entry s.base p)) (eqb (count_at s p) (count_entry s.base p)) (not (is_frozen s.base p) or is_kept s.base p) w in
      entry→sound p h (well→ s.base p (and_left (well s.base p)
      (eqb (leader_at s p) (leader_entry s.base p) & eqb (count_at s p) (count_entry s.base p) & (not (is_frozen s.base p) or is_kept s.base p)) u))
      (eqb→eq (leader_at s p) (leader_entry s.base p) v.0) (eqb→eq (count_at s p) (count_entry s.base p) v.1)
      (λ f. ⊎_elim (λ x. absurd (T_not (is_frozen s.base p) x (→is_frozen s.base p f.is))) (λ x. is_kept→ s.base p x)
      (or_cases (not (is_frozen s.base p)) (is_kept s.base p) v.2))

  pub →is_sound : Sound s → T (is_sound s)
  unfolding is_sound sound_at
  →is_sound sd =
      →every (sound_at s) s.base.n (λ p h.
      let e = sound→entry p h (sd p h) in
      and_both (well s.base p) (eqb (leader_at s p) (leader_entry s.base p) & eqb (count_at s p) (count_entry s.base p) &
      (not (is_frozen s.base p) or is_kept s.base p)) (→well s.base p e.0)
      (join3 s.base (eqb (leader_at s p) (leader_entry s.base p)) (eqb (count_at s p) (count_entry s.base p)) (not (is_frozen s.base p) or is_kept s.base p) (eqb_of e.1) (eqb_of e.2)
      (⊎_elim
      (λ f. or_right (not (is_frozen s.base p)) (is_kept s.base p) (→is_kept s.base p (e.3 (is_frozen→ s.base p h f))))
      (λ nf. or_left (not (is_frozen s.base p)) (is_kept s.base p) nf)
      (T_dec (is_frozen s.base p)))))

  -- sound tables are what their states, links and holds give
  pub determined : Sized s → Sound s → s ≡ finish s.base
  unfolding finish
  determined z sd = λ i. tables_on s.base (l i) (c i)
    where
      e : Entries
      e = sound→entries sd

      l : s.leaders ≡ table (leader_entry s.base) s.base.n
      l = ext_get_or 0 s.leaders (table (leader_entry s.base) s.base.n) (z.leaders ∙ sym (length-table (leader_entry s.base) s.base.n))
          (λ i h. let g = subst (λ (x : ℕ). i < x) z.leaders h in e.leaders i g ∙ sym (get_or-table (leader_entry s.base) s.base.n i 0 g))

      c : s.counts ≡ table (count_entry s.base) s.base.n
      c = ext_get_or 0 s.counts (table (count_entry s.base) s.base.n) (z.counts ∙ sym (length-table (count_entry s.base) s.base.n))
          (λ i h. let g = subst (λ (x : ℕ). i < x) z.counts h in e.counts i g ∙ sym (get_or-table (count_entry s.base) s.base.n i 0 g))

-- a good base, finished, is a sound store
pub finish_sound : (b : Base) → Good b → Sound (finish b)
unfolding finish
finish_sound b g =
    entries→sound (finish b)
    (record {
      good = g;
      leaders = λ p h. get_or-table (leader_entry b) b.n p 0 h;
      counts = λ p h. get_or-table (count_entry b) b.n p 0 h;
    })

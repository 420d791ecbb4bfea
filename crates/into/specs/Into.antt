-- The links into each draft, over states and links.
use Rattle.std.specs.Prelude.{◌≡◌, refl, List, T, ltb, length}
use Rattle.std.proofs.Math.Path.{sym, subst}
use Rattle.std.proofs.Common.{ap, ◌∙◌, ltb→lt, lt→ltb, eq-eqb, ne_eqb}
use Rattle.std.proofs.Math.Logic.{⊎_elim}
use Rattle.std.proofs.Math.Bool.{not}
use Prim.Native.Nat.{ℕ, ◌+◌, ◌*◌, ◌/◌, ◌%◌, ◌≤◌, ◌<◌}
use native.Mathlib.Omega.{arith}
use Rattle.std.proofs.Math.Dec.{T_not, eqb, eqb→eq}
use Rattle.std.proofs.Math.Seq.{ext_get_or}
use Rattle.rules.specs.Tests.{◌&◌}
use Rattle.rules.specs.Below.{any}
use Rattle.rules.specs.Lists.{◌!◌}
use Rattle.rules.specs.Tables.{Base, Store, store_on, store_by, state, is_draft, link_at, into_entry, into_of}
use Rattle.rules.specs.Words.{SizedStore, SoundStore}
use Rattle.rules.specs.Commands.{is_linked}
use Rattle.laws.specs.Tests.{and_both, and_left, and_right, same_test}
use Rattle.laws.specs.Below.{some→, →some, get_or-table, length-table}
use Rattle.laws.specs.Words.{eqb_of, neqb_of}
use Rattle.laws.specs.Counts.{sum_pos}
use Rattle.laws.specs.Numbers.{eq_or}
use Rattle.tallies.specs.Sums.{only_if-true, only_if-false}
use Rattle.into.specs.Named.{named, named_by, hit_on, hit_pos, named_counts, named-most, named_is}

-- for a draft the link places of other pieces that name it; else 0
pub record Into (n : ℕ) (states links into : List ℕ) : Type 0 where
  pub size : length into ≡ n
  pub drafts : (p : ℕ) → p < n → states ! p ≡ 1 → into ! p ≡ named_by n links p
  pub others : (p : ℕ) → p < n → (states ! p ≡ 1 → ⊥) → into ! p ≡ 0

-- ---- by the rules

module _ (b : Base) where
  entry_draft : (p : ℕ) → state b p ≡ 1 → into_entry b p ≡ named_by b.n b.links p
  unfolding into_entry is_draft
  entry_draft p e = only_if-true (eqb (state b p) 1) _ (eq-eqb (state b p) 1 e) ∙ named_is b p

  pub entry_other : (p : ℕ) → (state b p ≡ 1 → ⊥) → into_entry b p ≡ 0
  unfolding into_entry is_draft
  entry_other p f = only_if-false (eqb (state b p) 1) _ (ne_eqb (state b p) 1 f)

  pub into_entries : {l : List ℕ} → length l ≡ b.n → ((p : ℕ) → p < b.n → l ! p ≡ into_entry b p) → Into b.n b.states b.links l
  unfolding state
  into_entries size h = record { size = size; drafts = λ p k e. h p k ∙ entry_draft p e; others = λ p k f. h p k ∙ entry_other p f }

  pub into_entry_lem : {l : List ℕ} → Into b.n b.states b.links l → (p : ℕ) → p < b.n → l ! p ≡ into_entry b p
  unfolding state
  into_entry_lem x p h = ⊎_elim (λ e. x.drafts p h e ∙ sym (entry_draft p e)) (λ f. x.others p h f ∙ sym (entry_other p f)) (eq_or (b.states ! p) 1)

  -- they are what follows from states and links
  pub into_is : {l : List ℕ} → Into b.n b.states b.links l → l ≡ into_of b
  unfolding into_of
  into_is {l} x =
      ext_get_or 0 l _ (x.size ∙ sym (length-table (into_entry b) b.n))
      (λ p h. let k : p < b.n = subst (λ (m : ℕ). p < m) x.size h in into_entry_lem x p k ∙ sym (get_or-table (into_entry b) b.n p 0 k))

  pub into_follows : Into b.n b.states b.links (into_of b)
  unfolding into_of
  into_follows = into_entries (length-table (into_entry b) b.n) (λ p h. get_or-table (into_entry b) b.n p 0 h)

-- of a sound store
pub into_sound : {s : Store} → SizedStore s → SoundStore s → Into s.tables.base.n s.tables.base.states s.tables.base.links s.into
into_sound {s} z o = into_entries s.tables.base z.into o.into

-- a sound store is the one that follows from its tables and its register
pub store_follows : {s : Store} → SizedStore s → SoundStore s → s ≡ store_by s.tables s.register
store_follows {s} z o = ap (store_on s.tables s.register) (into_is s.tables.base (into_sound z o))

-- ---- how many there are

module _ {n : ℕ} {states links into : List ℕ} (x : Into n states links into) where
  -- at most 4,092 at 1,024 pieces
  pub into_most : (p : ℕ) → p < n → into ! p + 4 ≤ 4 * n
  into_most p h = ⊎_elim (λ e. omega (arith, x.drafts p h e, named-most links p n h)) (λ f. omega (arith, x.others p h f)) (eq_or (states ! p) 1)

  -- a draft that another piece names has one
  pub into_some : {i : ℕ} → i < 4 * n → links ! i < n → states ! (links ! i) ≡ 1 → (i / 4 ≡ links ! i → ⊥) → 0 < into ! (links ! i)
  into_some {i} h l e d = omega (arith, x.drafts (links ! i) l e, named_counts n links i (links ! i) h, hit_on (links ! i) (i / 4) (links ! i) refl d)

-- ---- 8 LINKED: bin of a draft that another piece links to

module _ (b : Base) where
  linked_named : (p : ℕ) → T (is_linked b p) → 0 < named_by b.n b.links p
  unfolding is_linked link_at
  linked_named p t =
      let w = some→ (λ r. not (eqb r p) & any (λ k. eqb (b.links ! (4 * r + k)) p) 4) b.n t in
      let r : ℕ = w.0 in
      let l = w.1 in
      let o = and_left (not (eqb r p)) (any (λ k. eqb (b.links ! (4 * r + k)) p) 4) w.2 in
      let v = some→ (λ k. eqb (b.links ! (4 * r + k)) p) 4 (and_right (not (eqb r p)) (any (λ k. eqb (b.links ! (4 * r + k)) p) 4) w.2) in
      let i : ℕ = 4 * r + v.0 in
      let h = v.1 in
      let q : i / 4 ≡ r = omega arith in
      let e : b.links ! i ≡ p = eqb→eq (b.links ! i) p v.2 in
      omega (arith, named_counts b.n b.links i p (omega arith), hit_on p (i / 4) (b.links ! i) e (λ y. T_not (eqb r p) o (eqb_of {m = r} {n = p} (sym q ∙ y))))

  named_linked : (p : ℕ) → 0 < named_by b.n b.links p → T (is_linked b p)
  unfolding is_linked link_at named
  named_linked p h =
      let w = sum_pos (named b.links p) (4 * b.n) h in
      let i : ℕ = w.0 in
      let l = w.1 in
      let z = hit_pos p (i / 4) (b.links ! i) w.2 in
      let e : 4 * (i / 4) + i % 4 ≡ i = omega arith in
      →some (λ r. not (eqb r p) & any (λ k. eqb (b.links ! (4 * r + k)) p) 4) b.n (i / 4) (omega arith)
      (and_both (not (eqb (i / 4) p)) (any (λ k. eqb (b.links ! (4 * (i / 4) + k)) p) 4) (neqb_of {m = i / 4} {n = p} z.1)
      (→some (λ k. eqb (b.links ! (4 * (i / 4) + k)) p) 4 (i % 4) (omega arith)
      (eqb_of {m = b.links ! (4 * (i / 4) + i % 4)} {n = p} (ap (λ (j : ℕ). b.links ! j) e ∙ z.0))))

  -- LINKED is given exactly where the draft's entry is not 0
  pub linked_into : {l : List ℕ} → Into b.n b.states b.links l → (p : ℕ) → p < b.n → b.states ! p ≡ 1 → is_linked b p ≡ ltb 0 (l ! p)
  linked_into {l} x p h e =
      same_test (is_linked b p) (ltb 0 (l ! p))
      (λ t. lt→ltb 0 (l ! p) (omega (arith, linked_named p t, x.drafts p h e)))
      (λ t. named_linked p (omega (arith, ltb→lt 0 (l ! p) t, x.drafts p h e)))

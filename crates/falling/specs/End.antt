-- The end of the letting go: the marked pieces are exactly the frozen pieces that are not kept.
use Rattle.std.specs.Prelude.{◌≡◌, ◌⊎◌, not, List, T, eqb, get_or, length}
use Rattle.std.proofs.Math.Path.{refl, sym, ap, subst}
use Rattle.std.proofs.Common.{ap₂, ◌∙◌, inl, inr, le_refl, not-suc-le-zero, eqb-true}
use Rattle.std.proofs.Math.Logic.{⊎_elim}
use Prim.Native.Nat.{ℕ, zero, suc, ◌+◌, ◌*◌, ◌/◌, ◌%◌, ◌<◌}
use native.Mathlib.Omega.{arith}
use Rattle.std.proofs.Math.Dec.{T_not, not_T}
use Rattle.std.proofs.Math.Seq.{ext_get_or}
use Rattle.rules.specs.Lists.{◌!◌}
use Rattle.laws.specs.Numbers.{eq_or, lt_or}
use Rattle.rules.specs.Tests.{pick}
use Rattle.laws.specs.Tests.{and_both, and_left, and_right}
use Rattle.rules.specs.Limits.{none}
use Rattle.rules.specs.Below.{sum, table}
use Rattle.laws.specs.Below.{T_dec, pick_true, pick-false, get_or-table, length-table}
use Rattle.rules.specs.Reach.{here, chain, Link}
use Rattle.rules.specs.Tables.{Base, state, is_frozen, link_at, holds_of, is_kept}
use Rattle.rules.specs.Words.{Frozen, Reaches, Group, Root, Kept, Well, wfree, wdraft, wfrozen}
use Rattle.laws.specs.Words.{trans, →is_frozen, is_frozen→, is_kept→, →is_kept}
use Rattle.laws.specs.Counts.{reachers, fewer, sum_pos}
use Rattle.rules.specs.Commands.{free_all, gone}
use Rattle.laws.specs.Passes.{frozen_of}
use Rattle.tallies.specs.Sums.{only_if_pos}
use Rattle.tallies.specs.Tally.{label, cross, held, placed, tally}
use Rattle.tallies.specs.Moves.{cross_on, cross_pos, link_counts, hold_counts}
use Rattle.tallies.specs.Exact.{Exact, label_frozen, label_below, label_own, group_of, label_of}
use Rattle.falling.specs.Queue.{Known, Marked, Erased, Inv}

module _ {e : Base} {leaders : List ℕ} (known : Known e leaders) {states links counts queue : List ℕ} {tail : ℕ}
    (v : Inv e leaders states links counts queue (4 * tail) tail) where
  abbrev x : Exact e leaders
  x = known.exact

  abbrev Out : ℕ → Type 0
  Out p = Marked e.n leaders states p

  frozen : (p : ℕ) → Out p → Frozen e p
  frozen p g = label_frozen e leaders x p g.labelled

  -- every place of a marked piece is erased
  erased : (p k : ℕ) → Out p → k < 4 → Erased e leaders states links (4 * p + k)
  erased p k g h =
      let r = v.core.queued.listed p g in
      let l = r.1 in
      let a : (4 * r.0 + k) / 4 ≡ r.0 = omega arith in
      let b : (4 * r.0 + k) % 4 ≡ k = omega arith in
      subst (Erased e leaders states links) (ap₂ (λ (u w : ℕ). 4 * u + w) (ap (λ (u : ℕ). queue ! u) a ∙ r.2) b) (v.past (4 * r.0 + k) (omega arith))

  pub erased_at : (i : ℕ) → Out (i / 4) → Erased e leaders states links i
  erased_at i g = subst (Erased e leaders states links) (omega arith) (erased (i / 4) (i % 4) g (omega arith))

  quarter : (p k : ℕ) → k < 4 → (4 * p + k) / 4 ≡ p
  quarter p k h = omega arith

  link_is : {a b : ℕ} (l : Link e.n (link_at e) a b) → e.links ! (4 * a + l.place) ≡ b
  unfolding link_at
  link_is l = l.names

  link_frozen : {a b : ℕ} → Frozen e a → Link e.n (link_at e) a b → Frozen e b
  link_frozen {a} {b} f l =
      ⊎_elim (λ y. absurd (let s = l.names in let z = l.to in let m = x.most in omega arith)) (λ y. subst (Frozen e) l.names y)
      ((frozen_of e a (known.wells a f.below) f.is).links l.place l.inside)

  -- a marked piece's group is marked
  along : {a p : ℕ} → Out a → Reaches e a p → Reaches e p a → Out p
  along g here r = g
  along {a} {p} g (chain {q = b} l r) back =
      let f = frozen a g in
      let gap = erased a l.place g l.inside in
      let same : label leaders b ≡ label leaders a = label_of e leaders x a b f (record { frozen = link_frozen f l; there = chain l here; back = trans r back }) in
      let gb : Out b = subst Out (link_is l) (gap.inner (ap (label leaders) (link_is l) ∙ same ∙ ap (label leaders) (sym (quarter a l.place l.inside)))) in
      along gb r (trans back (chain l here))

  pub whole : (p r : ℕ) → Out p → label leaders r ≡ label leaders p → Out r
  whole p r g s = let h = group_of e leaders x p r (frozen p g) s in along g h.there h.back

  -- no count, so no hold
  pub no_holds : (p : ℕ) → Out p → holds_of e p ≡ 0
  unfolding holds_of
  no_holds p g =
      omega (
        arith,
        hold_counts e.n links e.holds leaders p (label leaders p) g.below refl,
        v.core.matches (label leaders p) g.labelled,
        v.core.zeros p g,
      )

  -- and no link from a piece that is not marked
  pub no_links : (i : ℕ) → i < 4 * e.n → Out (links ! i) → ⊥
  no_links i h g =
      let t : ℕ = links ! i in
      let s = x.most in
      let m : tally e.n links e.holds leaders (label leaders t) ≡ 0 = sym (v.core.matches (label leaders t) g.labelled) ∙ v.core.zeros t g in
      ⊎_elim
      (λ same.
      let z = (erased_at i (whole t (i / 4) g same)).empty in
      let b = g.below in
      omega arith)
      (λ other. omega (arith, link_counts e.n links e.holds leaders i (label leaders t) h, cross_on leaders (label leaders t) i t refl other))
      (eq_or (label leaders (i / 4)) (label leaders t))

  -- ---- what is marked is not kept

  pub not-next : {a b : ℕ} → (Out a → ⊥) → Link e.n (link_at e) a b → Out b → ⊥
  not-next {a} {b} f l g =
      let h = l.from in
      let k = l.inside in
      let i : ℕ = 4 * a + l.place in
      ⊎_elim
      (λ same. no_links i (omega arith) (subst Out (sym (same ∙ link_is l)) g))
      (λ gap. f (subst Out (quarter a l.place k) gap.owner))
      (v.core.places i (omega arith))

  not_along : {a b : ℕ} → (Out a → ⊥) → Reaches e a b → Out b → ⊥
  not_along f here g = f g
  not_along f (chain l r) g = not_along (not-next f l) r g

  not_root : (r : ℕ) → Root e r → Out r → ⊥
  not_root r (inl d) g = let a = d.is in let b = (frozen r g).is in omega arith
  not_root r (inr h) g = let a = h.1 in omega (arith, no_holds r g)

  marked_unkept : (p : ℕ) → Out p → Kept e p → ⊥
  marked_unkept p g k = not_along (not_root k.root k.is) k.reached g

  -- ---- what is frozen and not marked is kept

  state_still : (p : ℕ) → p < e.n → (Out p → ⊥) → states ! p ≡ state e p
  state_still p h f = ⊎_elim (λ s. s) (λ g. absurd (f g)) (v.core.pieces p h)

  abbrev Still : ℕ → Type 0
  Still p = Frozen e p × (Out p → ⊥)

  -- where the leader's count comes from
  data Source (p : ℕ) : Type 0 where
    by_hold : (r : ℕ) → Group e p r → 0 < holds_of e r → Source p
    by_link : (r t : ℕ) → (Out r → ⊥) → r < e.n → (label leaders r ≡ label leaders p → ⊥) → Group e p t → Link e.n (link_at e) r t → Source p

  place_source : (p : ℕ) → Frozen e p → (i : ℕ) → i < 4 * e.n → 0 < cross leaders (label leaders p) i (links ! i) → Source p
  unfolding link_at
  place_source p f i h c =
      let w = cross_pos leaders (label leaders p) i (links ! i) c in
      let t : ℕ = links ! i in
      let gt : Group e p t = group_of e leaders x p t f w.0 in
      let tb = gt.frozen.below in
      let m = x.most in
      let same : e.links ! i ≡ t = ⊎_elim (λ s. sym s) (λ gap. absurd (let z = gap.empty in omega arith)) (v.core.places i h) in
      let split : 4 * (i / 4) + i % 4 ≡ i = omega arith in
      by_link (i / 4) t
      (λ g. absurd (let z = (erased_at i g).empty in omega arith))
      (omega arith) w.1 gt
      (record { from = omega arith; to = tb; place = i % 4; inside = omega arith; names = ap (λ (u : ℕ). e.links ! u) split ∙ same })

  source : (p : ℕ) → Frozen e p → 0 < tally e.n links e.holds leaders (label leaders p) → Source p
  unfolding tally
  source p f c =
      ⊎_elim
      (λ l. let r = sum_pos (held e.holds leaders (label leaders p)) e.n l in hold_source r.0 r.2)
      (λ l. let r = sum_pos (placed links leaders (label leaders p)) (4 * e.n) (omega arith) in place_source p f r.0 r.1 (placed_is r.0 r.2))
      (lt_or 0 (sum (held e.holds leaders (label leaders p)) e.n))
    where
      hold_source : (r : ℕ) → 0 < held e.holds leaders (label leaders p) r → Source p
      hold_source r h = unfold held holds_of in
          (let w = only_if_pos (eqb (label leaders r) (label leaders p)) (e.holds ! r) h in
          by_hold r (group_of e leaders x p r f (eqb-true _ _ w.0)) w.1)

      placed_is : (i : ℕ) → 0 < placed links leaders (label leaders p) i → 0 < cross leaders (label leaders p) i (links ! i)
      placed_is i h = unfold placed in h

  leader_counts : (p : ℕ) → Still p → 0 < tally e.n links e.holds leaders (label leaders p)
  leader_counts p s =
      let f = s.0 in
      let L : ℕ = label leaders p in
      let fL = (x.leads p f).member.frozen in
      let notL : Out L → ⊥ = λ g. s.1 (whole L p g (sym (label_own e leaders x p f))) in
      let m = x.most in
      let lt = label_below e leaders x p f in
      let o = v.counted L lt (label_own e leaders x p f) (λ z. absurd (let st = state_still L lt notL in let is = fL.is in omega arith)) (λ y. omega arith) in
      subst (λ (u : ℕ). 0 < u) (v.core.matches L lt) o

  kept_under : (m p : ℕ) → Still p → reachers e p < m → Kept e p
  kept_under zero p s h = absurd (not-suc-le-zero h)
  kept_under (suc m) p s h = go (λ r sr l. kept_under m r sr l) (source p s.0 (leader_counts p s))
    where
      go : ((r : ℕ) → Still r → reachers e r < m → Kept e r) → Source p → Kept e p
      go ih (by_hold r g c) = record { root = r; is = inr (g.frozen, c); reached = g.back }
      go ih (by_link r t ng below other g l) = by_well (known.wells r below)
        where
          rp : Reaches e r p
          rp = chain l g.back

          by_well : Well e r → Kept e p
          by_well (wfree w) = absurd (let a = w.links l.place l.inside in let b = l.names in let c = l.to in let m = x.most in omega arith)
          by_well (wdraft w) = record { root = r; is = inl (record { below = below; is = w.is }); reached = rp }
          by_well (wfrozen w) =
              let fr : Frozen e r = record { below = below; is = w.is } in
              let no_way : Reaches e p r → ⊥ = λ y. other (label_of e leaders x p r s.0 (record { frozen = fr; there = y; back = rp })) in
              let less = fewer e r p below s.0.below rp no_way in
              let k = ih r (fr, ng) (omega arith) in
              record { root = k.root; is = k.is; reached = trans k.reached rp }

  still_kept : (p : ℕ) → Frozen e p → (Out p → ⊥) → Kept e p
  still_kept p f n = kept_under (suc (reachers e p)) p (f, n) (le_refl (suc (reachers e p)))

  -- ---- so: marked exactly where frozen and not kept

  pub marked_test : (p : ℕ) → Out p → T (gone e p)
  unfolding gone
  marked_test p g = and_both (is_frozen e p) (not (is_kept e p)) (→is_frozen e p (frozen p g).is) (not_T (is_kept e p) (λ t. marked_unkept p g (is_kept→ e p t)))

  marked_dec : (p : ℕ) → p < e.n → Frozen e p → Out p ⊎ (Out p → ⊥)
  marked_dec p h f = ⊎_elim (λ z. inl (record { below = h; free = z; labelled = label_below e leaders x p f })) (λ z. inr (λ g. z g.free)) (eq_or (states ! p) 0)

  pub test_marked : (p : ℕ) → p < e.n → T (gone e p) → Out p
  unfolding gone
  test_marked p h t =
      let f = is_frozen→ e p h (and_left (is_frozen e p) (not (is_kept e p)) t) in
      ⊎_elim (λ g. g) (λ n. absurd (T_not (is_kept e p) (and_right (is_frozen e p) (not (is_kept e p)) t) (→is_kept e p (still_kept p f n)))) (marked_dec p h f)

  -- the tables are those of the rulebook after the freeing
  pub states_are : states ≡ (free_all e (gone e)).states
  unfolding free_all
  states_are =
      ext_get_or 0 states (table (λ p. pick (gone e p) 0 (state e p)) e.n) (v.core.lengths.states_n ∙ sym (length-table _ e.n))
      (λ p h. let l : p < e.n = subst (λ (u : ℕ). p < u) v.core.lengths.states_n h in
      ⊎_elim
      (λ t. (test_marked p l t).free ∙ sym (pick_true (gone e p) 0 (state e p) t))
      (λ t. state_still p l (λ g. T_not (gone e p) t (marked_test p g)) ∙ sym (pick-false (gone e p) 0 (state e p) t))
      (T_dec (gone e p)) ∙ sym (get_or-table (λ p. pick (gone e p) 0 (state e p)) e.n p 0 l))

  pub links_are : links ≡ (free_all e (gone e)).links
  unfolding free_all
  links_are =
      ext_get_or 0 links (table (λ j. pick (gone e (j / 4)) none (get_or e.links j 0)) (4 * e.n)) (v.core.lengths.links_n ∙ sym (length-table _ (4 * e.n)))
      (λ i h. let l : i < 4 * e.n = subst (λ (u : ℕ). i < u) v.core.lengths.links_n h in
      ⊎_elim
      (λ t. (erased_at i (test_marked (i / 4) (omega arith) t)).empty ∙ sym (pick_true (gone e (i / 4)) none (e.links ! i) t))
      (λ t. ⊎_elim (λ s. s) (λ gap. absurd (T_not (gone e (i / 4)) t (marked_test (i / 4) gap.owner))) (v.core.places i l)
      ∙ sym (pick-false (gone e (i / 4)) none (e.links ! i) t))
      (T_dec (gone e (i / 4))) ∙ sym (get_or-table (λ j. pick (gone e (j / 4)) none (get_or e.links j 0)) (4 * e.n) i 0 l))

  pub holds_are : length e.holds ≡ e.n → e.holds ≡ (free_all e (gone e)).holds
  unfolding free_all holds_of
  holds_are holds_n =
      ext_get_or 0 e.holds (table (λ p. pick (gone e p) 0 (get_or e.holds p 0)) e.n) (holds_n ∙ sym (length-table _ e.n))
      (λ p h. let l : p < e.n = subst (λ (u : ℕ). p < u) holds_n h in
      ⊎_elim
      (λ t. no_holds p (test_marked p l t) ∙ sym (pick_true (gone e p) 0 (get_or e.holds p 0) t))
      (λ t. sym (pick-false (gone e p) 0 (get_or e.holds p 0) t))
      (T_dec (gone e p)) ∙ sym (get_or-table (λ p. pick (gone e p) 0 (get_or e.holds p 0)) e.n p 0 l))

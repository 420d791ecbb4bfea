-- The tables after the letting go are the finished store of the rulebook: leaders and counts too.
use Rattle.std.specs.Prelude.{◌≡◌, Bool, ℕ, ◌+◌, ◌*◌, ◌/◌, ◌<◌, T, length}
use Rattle.std.proofs.Math.Path.{refl, sym, ap, ap₂, subst}
use Rattle.std.proofs.Common.{◌∙◌, arith, T_not}
use Rattle.std.proofs.Math.Logic.{⊎_elim}
use Rattle.std.proofs.Math.Bool.{true, false, not}
use mathlib.Core.List.{List}
use Rattle.std.proofs.Math.Dec.{not_T, eqb}
use borrow.Author.Tests.{ne_eqb}
use Rattle.rules.specs.Lists.{◌!◌}
use Rattle.laws.specs.Numbers.{lt_or}
use Rattle.rules.specs.Tests.{◌&◌, only_if}
use Rattle.rules.specs.Limits.{none}
use Rattle.laws.specs.Below.{T_dec}
use Rattle.rules.specs.Reach.{Link}
use Rattle.rules.specs.Tables.{Base, link_at, holds_of, finish}
use Rattle.rules.specs.Words.{Frozen, Reaches, Leader}
use Rattle.rules.specs.Commands.{free_all, gone}
use Rattle.laws.specs.Settle.{carry, link_kept, state_kept, freed_well, frozen_kept, settled_good}
use Rattle.tallies.specs.Sums.{get_or_any, sum_cong}
use Rattle.tallies.specs.Tally.{label, cross, held, placed, tally}
use Rattle.tallies.specs.Exact.{Exact, label_past, label_of}
use Rattle.tallies.specs.Finished.{leaders_finished, counts_finished}
use Rattle.falling.specs.Queue.{Known, Marked, Inv}
use Rattle.falling.specs.End.{erased_at, whole, no_holds, no_links, not-next, marked_test, test_marked, links_are, holds_are}

-- the labels without those of the marked pieces
pub record Cleared (n : ℕ) (leaders states leaders' : List ℕ) : Type 0 where
  pub size : length leaders' ≡ n
  pub off : (p : ℕ) → p < n → Marked n leaders states p → leaders' ! p ≡ none
  pub on : (p : ℕ) → p < n → (Marked n leaders states p → ⊥) → leaders' ! p ≡ leaders ! p

module _ {e : Base} {leaders : List ℕ} (known : Known e leaders) {states links counts queue : List ℕ} {tail : ℕ}
    (v : Inv e leaders states links counts queue (4 * tail) tail) {leaders' : List ℕ} (clear : Cleared e.n leaders states leaders') where
  abbrev x : Exact e leaders
  x = known.exact

  abbrev Out : ℕ → Type 0
  Out p = Marked e.n leaders states p

  abbrev b : Base
  b = free_all e (gone e)

  not_test : (p : ℕ) → p < e.n → (Out p → ⊥) → T (not (gone e p))
  not_test p h f = not_T (gone e p) (λ t. f (test_marked known v p h t))

  test_not : (p : ℕ) → T (not (gone e p)) → Out p → ⊥
  test_not p t g = T_not (gone e p) t (marked_test known v p g)

  frozen_back : (p : ℕ) → Frozen b p → Frozen e p × (Out p → ⊥)
  unfolding free_all
  frozen_back p f =
      ⊎_elim
      (λ t. absurd (let a = (freed_well e (gone e) p f.below t).is in let c = f.is in omega arith))
      (λ t. (record { below = f.below; is = sym (state_kept e (gone e) p f.below t) ∙ f.is }, test_not p t))
      (T_dec (gone e p))

  frozen_on : (p : ℕ) → Frozen e p → (Out p → ⊥) → Frozen b p
  frozen_on p f n = frozen_kept e (gone e) p (not_test p f.below n) f

  link_on : (p r : ℕ) → (Out p → ⊥) → Link e.n (link_at e) p r → Link b.n (link_at b) p r × (Out r → ⊥)
  unfolding free_all
  link_on p r n l = (
    record {
      from = l.from;
      to = l.to;
      place = l.place;
      inside = l.inside;
      names = link_kept e (gone e) p l.place l.from l.inside (not_test p l.from n) ∙ l.names;
    },
    not-next known v n l,
  )

  link_back : (p r : ℕ) → (Out p → ⊥) → Link b.n (link_at b) p r → Link e.n (link_at e) p r × (Out r → ⊥)
  unfolding free_all
  link_back p r n l =
      let k : Link e.n (link_at e) p r = record {
        from = l.from;
        to = l.to;
        place = l.place;
        inside = l.inside;
        names = sym (link_kept e (gone e) p l.place l.from l.inside (not_test p l.from n)) ∙ l.names;
      } in
      (k, not-next known v n k)

  reach_on : {p r : ℕ} → (Out p → ⊥) → Reaches e p r → Reaches b p r
  reach_on n c = carry (λ p. Out p → ⊥) link_on n c

  reach_back : {p r : ℕ} → (Out p → ⊥) → Reaches b p r → Reaches e p r
  reach_back n c = carry (λ p. Out p → ⊥) link_back n c

  label_still : (p : ℕ) → (Out p → ⊥) → label leaders' p ≡ label leaders p
  label_still p n =
      ⊎_elim
      (λ h. get_or_any leaders' p none 0 (omega (arith, clear.size)) ∙ clear.on p h n ∙ get_or_any leaders p 0 none (omega (arith, x.size)))
      (λ h. label_past e.n leaders' p clear.size h ∙ sym (label_past e.n leaders p x.size h))
      (lt_or p e.n)

  label_marked : (p : ℕ) → Out p → label leaders' p ≡ none
  label_marked p g = get_or_any leaders' p none 0 (omega (arith, clear.size, g.below)) ∙ clear.off p g.below g

  leader_on : (p l : ℕ) → Frozen e p → (Out p → ⊥) → Leader e p l → Leader b p l
  leader_on p l f n L =
      let nl : Out l → ⊥ = λ g. n (whole known v l p g (sym (label_of e leaders x p l f L.member))) in
      record {
        member = record { frozen = frozen_on l L.member.frozen nl; there = reach_on n L.member.there; back = reach_on nl L.member.back };
        lowest = λ r g.
            let fr = frozen_back r g.frozen in
            L.lowest r (record { frozen = fr.0; there = reach_back n g.there; back = reach_back fr.1 g.back });
      }

  exact : Exact b leaders'
  unfolding free_all
  exact = record {
    size = clear.size;
    most = x.most;
    leads = λ p f. let r = frozen_back p f in subst (Leader b p) (sym (label_still p r.1)) (leader_on p (label leaders p) r.0 r.1 (x.leads p r.0));
    others = λ p h f.
        ⊎_elim
        (λ t. label_marked p (test_marked known v p h t))
        (λ t. label_still p (test_not p t) ∙ x.others p h (λ s. f (state_kept e (gone e) p h t ∙ s)))
        (T_dec (gone e p));
  }

  -- the counts by the labels left are the counts by the labels before
  held_same : (L p : ℕ) → p < e.n → held e.holds leaders' L p ≡ held e.holds leaders L p
  unfolding held
  held_same L p h =
      ⊎_elim
      (λ t. let z = no_hold p (test_marked known v p h t) in none_if (eqb (label leaders' p) L) z ∙ sym (none_if (eqb (label leaders p) L) z))
      (λ t. ap (λ (u : ℕ). only_if (eqb u L) (e.holds ! p)) (label_still p (test_not p t)))
      (T_dec (gone e p))
    where
      none_if : (c : Bool) {q : ℕ} → q ≡ 0 → only_if c q ≡ 0
      none_if true z = z
      none_if false z = refl

      no_hold : (p : ℕ) → Out p → e.holds ! p ≡ 0
      no_hold p g = unfold holds_of in no_holds known v p g

  placed_same : (L i : ℕ) → L < e.n → i < 4 * e.n → placed links leaders' L i ≡ placed links leaders L i
  unfolding placed cross
  placed_same L i k h =
      let t-still : label leaders' (links ! i) ≡ label leaders (links ! i) = label_still (links ! i) (no_links known v i h) in
      ⊎_elim
      (λ t.
      let z = (erased_at known v i (test_marked known v (i / 4) (omega arith) t)).empty in
      let m = x.most in
      let past : label leaders (links ! i) ≡ none = label_past e.n leaders (links ! i) x.size (omega arith) in
      let off : eqb (label leaders (links ! i)) L ≡ false = ne_eqb (label leaders (links ! i)) L (λ y. absurd (omega arith)) in
      ap (λ (u : ℕ). only_if (eqb u L & not (eqb (label leaders' (i / 4)) L)) 1) t-still
      ∙ ap (λ (c : Bool). only_if (c & not (eqb (label leaders' (i / 4)) L)) 1) off
      ∙ sym (ap (λ (c : Bool). only_if (c & not (eqb (label leaders (i / 4)) L)) 1) off))
      (λ t. ap₂ (λ (u w : ℕ). only_if (eqb u L & not (eqb w L)) 1) t-still (label_still (i / 4) (test_not (i / 4) t)))
      (T_dec (gone e (i / 4)))

  tally_same : (L : ℕ) → L < e.n → tally e.n links e.holds leaders' L ≡ tally e.n links e.holds leaders L
  unfolding tally
  tally_same L k =
      ap₂ (λ (u w : ℕ). u + w)
      (sum_cong (held e.holds leaders' L) (held e.holds leaders L) e.n (λ p h. held_same L p h))
      (sum_cong (placed links leaders' L) (placed links leaders L) (4 * e.n) (λ i h. placed_same L i k h))

  pub counts_are : length e.holds ≡ e.n → counts ≡ (finish b).counts
  unfolding free_all
  counts_are holds_n =
      counts_finished b leaders' exact (settled_good e x.most known.wells).wells counts v.core.lengths.counts_n
      (λ L k. v.core.matches L k ∙ sym (tally_same L k)
      ∙ ap₂ (λ (l h : List ℕ). tally e.n l h leaders' L) (links_are known v) (holds_are known v holds_n))

  pub leaders_are : leaders' ≡ (finish b).leaders
  leaders_are = leaders_finished b leaders' exact

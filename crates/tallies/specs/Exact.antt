-- Labels that are the groups' leaders: the counts by label are the rulebook's counts.
use Rattle.std.specs.Prelude.{◌≡◌, List, length}
use Rattle.std.proofs.Math.Path.{refl, sym, ap, ap₂}
use Rattle.std.proofs.Common.{◌∙◌, subst, eqb→eq, ne_eqb}
use Rattle.std.proofs.Math.Logic.{⊎_elim}
use Rattle.std.proofs.Math.Bool.{Bool, true, false, not}
use Prim.Native.Nat.{ℕ, zero, suc, ◌+◌, ◌*◌, ◌/◌, ◌≤◌, ◌<◌}
use native.Mathlib.Omega.{arith}
use Rattle.std.proofs.Math.Dec.{not_T, eqb}
use Rattle.std.proofs.Math.ListN.{get_or-eq_default}
use Rattle.rules.specs.Tests.{◌&◌, ◌or◌, only_if}
use Rattle.rules.specs.Limits.{none}
use Rattle.rules.specs.Below.{sum}
use Rattle.rules.specs.Tables.{Base, state, is_draft, is_frozen, is_live, link_at, holds_of, in_group, leader_of, places, count_of, count_entry}
use Rattle.rules.specs.Words.{Frozen, Group, Leader, FreeWell, Well, wfree, wdraft, wfrozen}
use Rattle.rules.specs.Lists.{◌!◌}
use Rattle.laws.specs.Tests.{same_test}
use Rattle.laws.specs.Words.{trans, eqb_of, in_group→, →in_group, is_frozen→, leader_of_is, leader-one}
use Rattle.laws.specs.Sound.{count_entry-leads, count_entry-led, count_entry_other}
use Rattle.laws.specs.Counts.{sum_pos}
use Rattle.laws.specs.Numbers.{eq_or, lt_or}
use Rattle.tallies.specs.Sums.{sum_cong, only_if-false}
use Rattle.tallies.specs.Tally.{label, cross, held, placed, tally}
use Rattle.tallies.specs.Moves.{cross_off}

-- the label of a frozen piece is its leader, and others have none
pub record Exact (b : Base) (leaders : List ℕ) : Type 0 where
  pub size : length leaders ≡ b.n
  pub most : b.n ≤ 1024
  pub leads : (p : ℕ) → Frozen b p → Leader b p (label leaders p)
  pub others : (p : ℕ) → p < b.n → (state b p ≡ 2 → ⊥) → label leaders p ≡ none

-- a table with one label for each piece has none past its end
pub label_past : (n : ℕ) (leaders : List ℕ) (p : ℕ) → length leaders ≡ n → n ≤ p → label leaders p ≡ none
label_past n leaders p e h = get_or-eq_default leaders none (omega arith)

-- a sum over 4 n places is one over n pieces of sums over four
pub sum_flat : (f : ℕ → ℕ) (n : ℕ) → sum f (4 * n) ≡ sum (λ r. sum (λ k. f (4 * r + k)) 4) n
unfolding sum
sum_flat f zero = refl
sum_flat f (suc n) =
    let e : 4 * suc n ≡ suc (suc (suc (suc (4 * n)))) = omega arith in
    let a : f (4 * n) ≡ f (4 * n + 0) = ap f (omega arith) in
    let b : f (suc (4 * n)) ≡ f (4 * n + 1) = ap f (omega arith) in
    let c : f (suc (suc (4 * n))) ≡ f (4 * n + 2) = ap f (omega arith) in
    let d : f (suc (suc (suc (4 * n)))) ≡ f (4 * n + 3) = ap f (omega arith) in
    ap (sum f) e ∙ omega (arith, sum_flat f n, a, b, c, d)

module _ (b : Base) (leaders : List ℕ) (x : Exact b leaders) where
  pub label_frozen : (q : ℕ) → label leaders q < b.n → Frozen b q
  label_frozen q h =
      let m = x.most in
      let l : q < b.n = ⊎_elim (λ l. l) (λ l. absurd (omega (arith, label_past b.n leaders q x.size l))) (lt_or q b.n) in
      record { below = l; is = ⊎_elim (λ e. e) (λ f. absurd (omega (arith, x.others q l f))) (eq_or (state b q) 2) }

  pub label_below : (p : ℕ) → Frozen b p → label leaders p < b.n
  label_below p f = (x.leads p f).member.frozen.below

  -- the same label: the same group
  pub group_of : (p q : ℕ) → Frozen b p → label leaders q ≡ label leaders p → Group b p q
  group_of p q f e =
      let fq : Frozen b q = label_frozen q (omega (arith, label_below p f)) in
      let lp = (x.leads p f).member in
      let lq : Group b q (label leaders p) = subst (Group b q) e (x.leads q fq).member in
      record { frozen = fq; there = trans lp.there lq.back; back = trans lq.there lp.back }

  pub label_of : (p q : ℕ) → Frozen b p → Group b p q → label leaders q ≡ label leaders p
  label_of p q f g =
      let lp = x.leads p f in
      let lq = x.leads q g.frozen in
      let u : label leaders q ≤ label leaders p = lq.lowest (label leaders p) (record {
        frozen = lp.member.frozen;
        there = trans g.back lp.member.there;
        back = trans lp.member.back g.there;
      }) in
      let v : label leaders p ≤ label leaders q = lp.lowest (label leaders q) (record {
        frozen = lq.member.frozen;
        there = trans g.there lq.member.there;
        back = trans lq.member.back g.back;
      }) in
      omega arith

  -- a label's own label is itself
  pub label_own : (p : ℕ) → Frozen b p → label leaders (label leaders p) ≡ label leaders p
  label_own p f = label_of p (label leaders p) f (x.leads p f).member

  label_is : (p : ℕ) → Frozen b p → label leaders p ≡ leader_of b p
  label_is p f = leader-one b p (label leaders p) (leader_of b p) (x.leads p f) (leader_of_is b p f)

  module _ (L : ℕ) (fL : Frozen b L) (own : label leaders L ≡ L) where
    pub in_group_lem : (q : ℕ) → in_group b L q ≡ eqb (label leaders q) L
    in_group_lem q =
        same_test (in_group b L q) (eqb (label leaders q) L)
        (λ t. eqb_of (label_of L q fL (in_group→ b L q t) ∙ own))
        (λ t. →in_group b L q fL.below (group_of L q fL (eqb→eq (label leaders q) L t ∙ sym own)))

    place_term : (r k : ℕ) → k < 4 → placed b.links leaders L (4 * r + k) ≡ only_if (in_group b L (link_at b r k) & not (in_group b L r)) 1
    unfolding placed cross link_at
    place_term r k h =
        let d : (4 * r + k) / 4 ≡ r = omega arith in
        ap₂ (λ (u v : Bool). only_if (u & not v) 1) (sym (in_group_lem (b.links ! (4 * r + k)))) (ap (λ (y : ℕ). eqb (label leaders y) L) d ∙ sym (in_group_lem r))

    free_term : (r k : ℕ) → FreeWell b r → k < 4 → in_group b L (link_at b r k) ≡ false
    free_term r k w h =
        let past = label_past b.n leaders (link_at b r k) x.size (omega (arith, w.links k h, x.most)) in
        in_group_lem (link_at b r k) ∙ ne_eqb (label leaders (link_at b r k)) L (λ e. absurd (omega (arith, fL.below, x.most)))

    live_test : (r : ℕ) → Well b r → ((k : ℕ) → k < 4 → (is_live b r & (in_group b L (link_at b r k) & not (in_group b L r))) ≡ (in_group b L (link_at b r k) & not (in_group b L r)))
    unfolding is_live is_draft is_frozen
    live_test r (wfree w) k h =
        let live : Bool = eqb (state b r) 1 or eqb (state b r) 2 in
        let none_in = free_term r k w h in
        ap (λ (u : Bool). live & (u & not (in_group b L r))) none_in ∙ off live ∙ ap (λ (u : Bool). u & not (in_group b L r)) (sym none_in)
      where
        off : (u : Bool) → (u & false) ≡ false
        off true = refl
        off false = refl
    live_test r (wdraft w) k h = ap (λ (s : ℕ). (eqb s 1 or eqb s 2) & (in_group b L (link_at b r k) & not (in_group b L r))) w.is
    live_test r (wfrozen w) k h = ap (λ (s : ℕ). (eqb s 1 or eqb s 2) & (in_group b L (link_at b r k) & not (in_group b L r))) w.is

    -- four places of one piece
    piece_term : (r : ℕ) → Well b r → sum (λ k. placed b.links leaders L (4 * r + k)) 4 ≡ only_if (is_live b r & not (in_group b L r)) (places b L r)
    unfolding places
    piece_term r w =
        sum_cong _ (λ k. only_if (is_live b r & (in_group b L (link_at b r k) & not (in_group b L r))) 1) 4
        (λ k h. place_term r k h ∙ ap (λ (u : Bool). only_if u 1) (sym (live_test r w k h)))
        ∙ out (is_live b r) (in_group b L r)
      where
        out : (u v : Bool) → sum (λ k. only_if (u & (in_group b L (link_at b r k) & not v)) 1) 4 ≡ only_if (u & not v) (sum (λ k. only_if (in_group b L (link_at b r k)) 1) 4)
        out true true = sum_cong _ (λ k. 0) 4 (λ k h. ap (λ (u : Bool). only_if u 1) (all_off (in_group b L (link_at b r k)))) ∙ (unfold sum in refl)
          where
            all_off : (u : Bool) → (u & false) ≡ false
            all_off true = refl
            all_off false = refl
        out true false = sum_cong _ _ 4 (λ k h. ap (λ (u : Bool). only_if u 1) (all_on (in_group b L (link_at b r k))))
          where
            all_on : (u : Bool) → (u & true) ≡ u
            all_on true = refl
            all_on false = refl
        out false v = unfold sum in refl

    held_term : (q : ℕ) → held b.holds leaders L q ≡ only_if (in_group b L q) (holds_of b q)
    unfolding held holds_of
    held_term q = ap (λ (u : Bool). only_if u (b.holds ! q)) (sym (in_group_lem q))

    pub tally-leader : ((r : ℕ) → r < b.n → Well b r) → tally b.n b.links b.holds leaders L ≡ count_of b L
    unfolding tally count_of
    tally-leader ws =
        ap₂ (λ (u v : ℕ). u + v)
        (sum_cong (held b.holds leaders L) (λ q. only_if (in_group b L q) (holds_of b q)) b.n (λ q h. held_term q))
        (sum_flat (placed b.links leaders L) b.n ∙ sum_cong _ _ b.n (λ r h. piece_term r (ws r h)))

  -- where no piece has the label, nothing is counted for it
  pub tally-unused : (L : ℕ) → ((q : ℕ) → label leaders q ≡ L → ⊥) → tally b.n b.links b.holds leaders L ≡ 0
  unfolding tally
  tally-unused L no_one =
      let u : sum (held b.holds leaders L) b.n ≡ 0 =
      zero-sum (held b.holds leaders L) b.n (λ q h. unfold held in only_if-false _ _ (ne_eqb (label leaders q) L (no_one q))) in
      let v : sum (placed b.links leaders L) (4 * b.n) ≡ 0 =
      zero-sum (placed b.links leaders L) (4 * b.n) (λ i h. unfold placed in cross_off leaders L i (b.links ! i) (no_one (b.links ! i))) in
      omega arith
    where
      zero-sum : (f : ℕ → ℕ) (k : ℕ) → ((q : ℕ) → q < k → f q ≡ 0) → sum f k ≡ 0
      zero-sum f k h = ⊎_elim (λ l. let r = sum_pos f k l in absurd (omega (arith, r.2, h r.0 r.1))) (λ l. omega arith) (lt_or 0 (sum f k))

  -- the counts by label are the counts table
  pub tally_entry : ((r : ℕ) → r < b.n → Well b r) → (L : ℕ) → L < b.n → tally b.n b.links b.holds leaders L ≡ count_entry b L
  tally_entry ws L h = ⊎_elim frozen unfrozen (eq_or (state b L) 2)
    where
      nobody : (label leaders L ≡ L → ⊥) → (q : ℕ) → label leaders q ≡ L → ⊥
      nobody d q e = let f = label_frozen q (omega arith) in d (ap (label leaders) (sym e) ∙ label_own q f ∙ e)

      frozen : state b L ≡ 2 → tally b.n b.links b.holds leaders L ≡ count_entry b L
      frozen s =
          let f : Frozen b L = record { below = h; is = s } in
          ⊎_elim
          (λ e. tally-leader L f e ws ∙ sym (count_entry-leads b L s (sym (label_is L f) ∙ e)))
          (λ d. tally-unused L (nobody d) ∙ sym (count_entry-led b L (λ y. d (label_is L f ∙ y))))
          (eq_or (label leaders L) L)

      unfrozen : (state b L ≡ 2 → ⊥) → tally b.n b.links b.holds leaders L ≡ count_entry b L
      unfrozen s =
          let e = x.others L h s in
          tally-unused L (nobody (λ y. absurd (let m = x.most in omega arith)))
          ∙ sym (count_entry_other b L (not_T (is_frozen b L) (λ t. s (is_frozen→ b L h t).is)))

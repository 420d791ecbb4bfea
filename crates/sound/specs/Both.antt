-- Where leaders are right, what is counted for a label is the count of the group that it leads, or the links into the draft that it is.
use Rattle.std.specs.Prelude.{◌≡◌, ◌⊎◌, List}
use Rattle.std.proofs.Math.Path.{sym, subst}
use Rattle.std.proofs.Common.{ap, ◌∙◌}
use Rattle.std.proofs.Math.Logic.{inl, inr, ⊎_elim}
use Prim.Native.Nat.{ℕ, ◌+◌, ◌*◌, ◌/◌, ◌%◌, ◌≤◌, ◌<◌}
use native.Mathlib.Omega.{arith}
use Rattle.rules.specs.Limits.{none}
use Rattle.rules.specs.Below.{sum}
use Rattle.rules.specs.Lists.{◌!◌}
use Rattle.rules.specs.Tables.{Base, state, link_at, holds_of, count_entry}
use Rattle.rules.specs.Words.{Frozen, Live, Well, wfree, wdraft, wfrozen}
use Rattle.laws.specs.Counts.{sum_pos}
use Rattle.laws.specs.Numbers.{lt_or}
use Rattle.laws.specs.Sound.{count_entry_other}
use Rattle.laws.specs.Words.{not_frozen}
use Rattle.tallies.specs.Sums.{get_or_any}
use Rattle.tallies.specs.Tally.{label, placed, tally}
use Rattle.tallies.specs.Exact.{Exact, label_past, label_frozen, label_below, label_own, tally_entry}
use Rattle.tallies.specs.Joined.{Joined, Apart, tally_joined}
use Rattle.into.specs.Named.{named, named_by, hit_pos}
use Rattle.sound.specs.Labels.{by_leader, by_own, labels, labels-n, label_is, singles, single_led, single_own, single_past, single_is, singles-named, singles-none}

module _ {b : Base} {leaders : List ℕ} (x : Exact b leaders) (wells : (p : ℕ) → p < b.n → Well b p) where
  leader-label : (q : ℕ) → q < b.n → label leaders q ≡ leaders ! q
  leader-label q h = get_or_any leaders q none 0 (omega (arith, x.size))

  -- a piece without a leader is not frozen
  pub unled : (q : ℕ) → q < b.n → b.n ≤ leaders ! q → state b q ≡ 2 → ⊥
  unled q h l e = omega (arith, label_below b leaders x q (record { below = h; is = e }), leader-label q h)

  pub unfrozen : (q : ℕ) → q < b.n → (state b q ≡ 2 → ⊥) → leaders ! q ≡ none
  unfrozen q h f = sym (leader-label q h) ∙ x.others q h f

  joined : (t : ℕ) → Joined leaders (singles b.n leaders) (labels b.n leaders) t
  joined t =
      ⊎_elim
      (λ h.
      ⊎_elim
      (λ l. inl (label_is b.n leaders t h ∙ by_leader b.n (leaders ! t) t l ∙ sym (leader-label t h), single_led b.n leaders t h l))
      (λ l. inr (label_is b.n leaders t h ∙ by_own b.n (leaders ! t) t l ∙ sym (single_own b.n leaders t h l), x.others t h (unled t h l)))
      (lt_or (leaders ! t) b.n))
      (λ h. inl (label_past b.n (labels b.n leaders) t (labels-n b.n leaders) h ∙ sym (label_past b.n leaders t x.size h), single_past b.n leaders t h))
      (lt_or t b.n)

  apart : Apart b.n leaders (singles b.n leaders)
  apart s t L h e f =
      let own : label leaders L ≡ L = ap (label leaders) (sym e) ∙ label_own b leaders x s (label_frozen b leaders x s (omega arith)) ∙ e in
      let one = single_is b.n leaders x.most t L h f in
      omega (arith, own, leader-label L h, one.1, ap (λ (q : ℕ). leaders ! q) one.0)

  bare : (q : ℕ) → q < b.n → (label (labels b.n leaders) q ≡ label leaders q) ⊎ (b.holds ! q ≡ 0)
  unfolding holds_of
  bare q h =
      ⊎_elim
      (λ l. inl (label_is b.n leaders q h ∙ by_leader b.n (leaders ! q) q l ∙ sym (leader-label q h)))
      (λ l. inr (go l (wells q h)))
      (lt_or (leaders ! q) b.n)
    where
      go : b.n ≤ leaders ! q → Well b q → holds_of b q ≡ 0
      go l (wfree w) = w.holds
      go l (wdraft w) = w.holds
      go l (wfrozen w) = absurd (unled q h l w.is)

  both : (L : ℕ) → L < b.n
      → tally b.n b.links b.holds (labels b.n leaders) L ≡ count_entry b L + sum (placed b.links (singles b.n leaders) L) (4 * b.n)
  both L h =
      omega (
        arith,
        tally_joined b.n leaders (singles b.n leaders) (labels b.n leaders) x.most joined apart b.links b.holds bare L h,
        tally_entry b leaders x wells L h,
      )

  -- no piece names a free one
  named_live : (L : ℕ) → L < b.n → 0 < named_by b.n b.links L → Live b L
  unfolding named link_at
  named_live L h c =
      let w = sum_pos (named b.links L) (4 * b.n) c in
      let i : ℕ = w.0 in
      let l = w.1 in
      let e : 4 * (i / 4) + i % 4 ≡ i = omega arith in
      go (i / 4) (i % 4) (omega arith) (ap (λ (j : ℕ). b.links ! j) e ∙ (hit_pos L (i / 4) (b.links ! i) w.2).0) (wells (i / 4) (omega arith))
    where
      go : (r k : ℕ) → k < 4 → link_at b r k ≡ L → Well b r → Live b L
      go r k l e (wfree w) = absurd (omega (arith, w.links k l, x.most))
      go r k l e (wdraft w) = ⊎_elim (λ z. absurd (omega (arith, x.most))) (λ z. subst (Live b) e z) (w.links k l)
      go r k l e (wfrozen w) = ⊎_elim (λ z. absurd (omega (arith, x.most))) (λ z. inr (subst (Frozen b) e z)) (w.links k l)

  -- at a draft the links into it are counted
  pub counted_draft : (L : ℕ) → L < b.n → state b L ≡ 1 → tally b.n b.links b.holds (labels b.n leaders) L ≡ named_by b.n b.links L
  counted_draft L h e =
      let z = unfrozen L h (λ f. omega arith) in
      omega (arith, both L h, singles-named b.n leaders x.most b.links L h (omega (arith, x.most)), count_entry_other b L (not_frozen b L 1 e tt))

  -- at any other piece its count is
  pub counted_other : (L : ℕ) → L < b.n → (state b L ≡ 1 → ⊥) → tally b.n b.links b.holds (labels b.n leaders) L ≡ count_entry b L
  counted_other L h d =
      ⊎_elim
      (λ l. omega (arith, both L h, singles-none b.n leaders x.most b.links L h l))
      (λ l. omega (arith, both L h, singles-named b.n leaders x.most b.links L h l, nothing l))
      (lt_or (leaders ! L) b.n)
    where
      nothing : b.n ≤ leaders ! L → named_by b.n b.links L ≡ 0
      nothing l =
          ⊎_elim
          (λ c. absurd (⊎_elim (λ v. d v.is) (λ v. unled L h l v.is) (named_live L h c)))
          (λ c. omega arith)
          (lt_or 0 (named_by b.n b.links L))

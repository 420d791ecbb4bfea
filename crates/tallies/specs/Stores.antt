-- A sound store: its leaders are exact labels, its counts match, and each leader has one; the labels stay where the frozen pieces and their links do.
use Rattle.std.specs.Prelude.{◌≡◌, ◌⊎◌, List, ℕ, ◌≤◌, ◌<◌, length}
use Rattle.std.proofs.Common.{sym, ◌∙◌, subst, inl, inr, ⊎_elim, arith}
use Rattle.std.proofs.Math.Dec.{not_T}
use Rattle.rules.specs.Limits.{none}
use Rattle.rules.specs.Tables.{Base, Tables, is_frozen, link_at, holds_of, leader_of, leader_entry}
use Rattle.rules.specs.Reach.{Link}
use Rattle.rules.specs.Words.{Frozen, Live, Leader, Well, wfree, wdraft, wfrozen}
use Rattle.rules.specs.Calls.{Ready}
use Rattle.rules.specs.Lists.{◌!◌}
use Rattle.laws.specs.Words.{is_frozen→, leader_of_is, leader-one}
use Rattle.laws.specs.Sound.{Good, leader_entry_frozen, leader_entry_other, count_entry-leads, sound→entries, Entries}
use Rattle.laws.specs.Kept.{kept↔counts}
use Rattle.laws.specs.Delta.{SameFrozen, group_stays}
use Rattle.tallies.specs.Sums.{get_or_any}
use Rattle.tallies.specs.Tally.{label, CountsMatch}
use Rattle.tallies.specs.Moves.{tally-most}
use Rattle.tallies.specs.Exact.{Exact, tally_entry, label_frozen}

-- the frozen pieces and their links are the same: so are the groups
pub exact_moves : (a b : Base) (leaders : List ℕ) → ((p : ℕ) → p < a.n → Well a p) → ((p : ℕ) → p < b.n → Well b p) → SameFrozen a b → SameFrozen b a → Exact a leaders
    → Exact b leaders
exact_moves a b leaders wa wb ab ba x = record {
  size = x.size ∙ ab.size;
  most = ba.most;
  leads = λ p f.
      let fa = ba.frozen p f in
      let L = x.leads p fa in
      record { member = group_stays a b wa ab fa L.member; lowest = λ r g. L.lowest r (group_stays b a wb ba f g) };
  others = λ p h nf. x.others p (subst (λ (m : ℕ). p < m) ba.size h) (λ s. nf (ab.frozen p (record { below = subst (λ (m : ℕ). p < m) ba.size h; is = s })).is);
}

-- a live piece links to live pieces alone
pub live_on : (b : Base) → b.n ≤ 1024 → ((p : ℕ) → p < b.n → Well b p) → (p q : ℕ) → Live b p → Link b.n (link_at b) p q → Live b q
live_on b small wells p q live l = go live (wells p l.from)
  where
    some : (P : ℕ → Type 0) → (link_at b p l.place ≡ none) ⊎ P (link_at b p l.place) → P q
    some P = ⊎_elim (λ x. absurd (omega (arith, l.names, l.to))) (λ x. subst P l.names x)

    go : Live b p → Well b p → Live b q
    go (inl d) (wfree w) = absurd (let x = d.is in let y = w.is in omega arith)
    go (inr f) (wfree w) = absurd (let x = f.is in let y = w.is in omega arith)
    go live (wdraft w) = some (Live b) (w.links l.place l.inside)
    go live (wfrozen w) = inr (some (Frozen b) (w.links l.place l.inside))

-- right leaders are exact labels
pub exact_right : (b : Base) (leaders : List ℕ) → length leaders ≡ b.n → b.n ≤ 1024 → ((p : ℕ) → p < b.n → leaders ! p ≡ leader_entry b p) → Exact b leaders
exact_right b leaders size small right = record {
  size = size;
  most = small;
  leads = λ p f. subst (Leader b p) (sym (at p f.below ∙ leader_entry_frozen b p f.is)) (leader_of_is b p f);
  others = λ p h nf. at p h ∙ leader_entry_other b p (not_T (is_frozen b p) (λ t. nf (is_frozen→ b p h t).is));
}
  where
    at : (p : ℕ) → p < b.n → label leaders p ≡ leader_entry b p
    at p h = get_or_any leaders p none 0 (omega (arith, size)) ∙ right p h

module _ (s : Tables) (o : Ready s) where
  abbrev b : Base
  b = s.base

  entries : Entries s
  entries = sound→entries s o.sound

  pub good_of : Good b
  good_of = entries.good

  pub wells_of : (p : ℕ) → p < b.n → Well b p
  wells_of = good_of.wells

  pub exact_of : Exact b s.leaders
  exact_of = exact_right b s.leaders o.sized.leaders o.sized.base.most entries.leaders

  pub match_of : CountsMatch b.n b.links b.holds s.leaders s.counts
  match_of L h = entries.counts L h ∙ sym (tally_entry b s.leaders exact_of wells_of L h)

  -- each leader has a count: every frozen piece is kept
  pub counted_of_lem : (L : ℕ) → L < b.n → label s.leaders L ≡ L → 0 < s.counts ! L
  counted_of_lem L h own =
      let f = label_frozen b s.leaders exact_of L (subst (λ (x : ℕ). x < b.n) (sym own) h) in
      let e : leader_of b L ≡ L = leader-one b L (leader_of b L) (label s.leaders L) (leader_of_is b L f) (exact_of.leads L f) ∙ own in
      subst (λ (x : ℕ). 0 < x) (sym (entries.counts L h ∙ count_entry-leads b L f.is e)) ((kept↔counts b (live_on b o.sized.base.most wells_of)).0 good_of.kept L f e)

  pub holds_most : (p : ℕ) → p < b.n → b.holds ! p ≤ 1000
  unfolding holds_of
  holds_most p h = go (wells_of p h)
    where
      go : Well b p → holds_of b p ≤ 1000
      go (wfree w) = omega (arith, w.holds)
      go (wdraft w) = omega (arith, w.holds)
      go (wfrozen w) = w.holds

  -- the largest possible count
  pub counts_most : (L : ℕ) → L < b.n → s.counts ! L < 1028097
  counts_most L h = omega (arith, match_of L h, tally-most b.n b.links b.holds s.leaders L o.sized.base.most holds_most)

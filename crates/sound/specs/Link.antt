-- The holds of a piece and one link are counted for a label; the link is tested first.
use Rattle.std.specs.Prelude.{◌≡◌, refl, Bool, true, List, ℕ, ◌+◌, ◌≤◌, ◌<◌, T, eqb, length, set}
use Rattle.std.proofs.Common.{sym, ◌∙◌, ap, subst, inl, ⊎_elim, eqb→eq, arith}
use Rattle.std.proofs.lemmas.List.{set-get_or}
use Rattle.rules.specs.Lists.{◌!◌}
use Rattle.rules.specs.Limits.{none}
use Rattle.rules.specs.Tables.{Tables}
use Rattle.rules.specs.Words.{SizedBase}
use Rattle.tallies.specs.Adding.{LaterSame, later_none}
use Rattle.tallies.specs.Places.{LinkAdded, link_past, link_same, link_hit}
use Rattle.counts.specs.Added.{Countable, HoldAdded, hold_hit}
use Rattle.sound.specs.Truthful.{Truthful, tells_yes, tells_eq, Below}
use Rattle.sound.specs.Wells.{LinkWell, link_live}
use Rattle.sound.specs.Labels.{label_by, by_below, labels, labels_at}

-- what the count of all labels reads: tables of their lengths, with states of the three
pub record Countables (t : Tables) : Type 0 where
  pub sized : SizedBase t.base
  pub leaders_n : length t.leaders ≡ t.base.n
  pub states_most : Below (λ q. t.base.states ! q ≤ 2) t.base.n

-- ---- the holds of a piece

-- what the count of its holds is given
pub record HoldGiven (t : Tables) (counts : List ℕ) (p : ℕ) : Type 0 where
  pub below : p < t.base.n
  pub leaders_n : length t.leaders ≡ t.base.n
  pub holds_n : length t.base.holds ≡ t.base.n
  pub countable : Countable t.base.n (labels t.base.n t.leaders) counts

module _ {t : Tables} {counts : List ℕ} {p l : ℕ} (g : HoldGiven t counts p) (e : l ≡ label_by t.base.n (t.leaders ! p) p) where
  -- its label is one of the counts, which has room
  pub hold_below : l < t.base.n
  hold_below = omega (arith, by_below t.base.n (t.leaders ! p) p g.below)

  pub hold_counted : HoldAdded t.base.n t.base.holds (labels t.base.n t.leaders) p counts (set counts l (counts ! l + t.base.holds ! p))
  hold_counted = hold_hit g.countable.labelled g.below (e ∙ sym (labels_at t.base.n t.leaders p g.below)) hold_below

-- it has none
pub hold_none : {t : Tables} {counts : List ℕ} {p : ℕ} → HoldGiven t counts p → t.base.holds ! p ≡ 0
    → HoldAdded t.base.n t.base.holds (labels t.base.n t.leaders) p counts counts
hold_none {t} {counts} {p} g z =
    let l : ℕ = label_by t.base.n (t.leaders ! p) p in
    let e : counts ! l + t.base.holds ! p ≡ counts ! l = omega arith in
    subst
    (λ (c : List ℕ). HoldAdded t.base.n t.base.holds (labels t.base.n t.leaders) p counts c)
    (ap (λ (m : ℕ). set counts l m) e ∙ set-get_or counts l 0)
    (hold_counted g refl)

-- ---- one link

-- what the test of a link is given
pub record LinkGiven (t : Tables) (counts : List ℕ) (state : ℕ) : Type 0 where
  pub tables : Countables t
  pub some : 0 < state
  pub most : state ≤ 2
  pub countable : Countable t.base.n (labels t.base.n t.leaders) counts

-- whether it is well; if it is, it is counted
pub record LinkTested (t : Tables) (state own target : ℕ) (counts counts' : List ℕ) (r : Bool) : Type 0 where
  pub tells : Truthful (LinkWell t.base.n t.base.states state target) r
  pub added : r ≡ true → LinkAdded t.base.n (labels t.base.n t.leaders) own target counts counts'
  pub kept : LaterSame t.base.n counts counts'

module _ {t : Tables} {counts : List ℕ} {state own target : ℕ} where
  pub tested_none : LinkGiven t counts state → target ≡ none → LinkTested t state own target counts counts true
  tested_none g e = record {
    tells = tells_yes (inl e);
    added = λ _. link_past g.countable.labelled (omega (arith, g.countable.labelled.small));
    kept = later_none;
  }

  -- past the tables it is well if it is none
  pub tested_past : LinkGiven t counts state → t.base.n ≤ target → LinkTested t state own target counts counts (eqb target none)
  tested_past g h = record {
    tells = tells_eq target none (λ e. inl e) (λ w. ⊎_elim (λ e. e) (λ x. absurd (omega (arith, x.0))) w);
    added = λ e. (tested_none g (eqb→eq target none (subst T (sym e) tt))).added refl;
    kept = later_none;
  }

  live : {counts' : List ℕ} → LinkGiven t counts state → target < t.base.n → state ≤ t.base.states ! target
      → LinkAdded t.base.n (labels t.base.n t.leaders) own target counts counts' → LinkTested t state own target counts counts' true
  live g h l a = record {
    tells = tells_yes (link_live t.base.states h g.some g.most (g.tables.states_most target h) l);
    added = λ _. a;
    kept = a.kept;
  }

module _ {t : Tables} {counts : List ℕ} {state target l : ℕ} (g : LinkGiven t counts state) (h : target < t.base.n) (e : l ≡ label_by t.base.n (t.leaders ! target) target) where
  -- the target's label is one of the counts, which has room
  pub link_below : l < t.base.n
  link_below = omega (arith, by_below t.base.n (t.leaders ! target) target h)

  -- it is the piece's own, or another
  pub tested_own : {own : ℕ} → state ≤ t.base.states ! target → l ≡ own → LinkTested t state own target counts counts true
  tested_own u o = live g h u (link_same g.countable.labelled h (labels_at t.base.n t.leaders target h ∙ sym e ∙ o))

  pub tested_other : {own : ℕ} → state ≤ t.base.states ! target → (l ≡ own → ⊥) → LinkTested t state own target counts (set counts l (counts ! l + 1)) true
  tested_other u d = live g h u (link_hit g.countable.labelled h (e ∙ sym (labels_at t.base.n t.leaders target h)) link_below d)

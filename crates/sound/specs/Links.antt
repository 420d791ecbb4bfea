-- The four links of a piece are tested, and counted on the way.
use Rattle.std.specs.Prelude.{◌≡◌, refl, Bool, true, ◌⊎◌, List, ℕ, ◌+◌, ◌-◌, ◌*◌, ◌≤◌, ◌<◌}
use Rattle.std.proofs.Common.{sym, ◌∙◌, subst, inl, inr, ⊎_elim, arith, below_more}
use Rattle.rules.specs.Limits.{none}
use Rattle.rules.specs.Lists.{◌!◌}
use Rattle.rules.specs.Tables.{Tables}
use Rattle.laws.specs.Numbers.{lt_or}
use Rattle.areas.specs.Four.{Four, four_none, one_at_most, two_at_most}
use Rattle.tallies.specs.Adding.{Labelled, LaterSame, later_none, added_later, still}
use Rattle.tallies.specs.Places.{LinkAdded}
use Rattle.counts.specs.Added.{PlacesCounted, places-none, places-more, places-rest, places_fit}
use Rattle.sound.specs.Truthful.{Truthful, tells_yes, Below}
use Rattle.sound.specs.Wells.{LinkWell, Linked}
use Rattle.sound.specs.Labels.{label_by, labels, labels_at}
use Rattle.sound.specs.Link.{Countables, LinkGiven, LinkTested}

-- what their test is given
pub record LinksGiven (t : Tables) (counts : List ℕ) (p : ℕ) : Type 0 where
  pub tables : Countables t
  pub below : p < t.base.n
  pub labelled : Labelled t.base.n (labels t.base.n t.leaders) counts
  pub few : (l : ℕ) → l < t.base.n → counts ! l ≤ 67177471

-- the word w tells that the links from k on are empty
abbrev pub RestEmpty : ℕ → ℕ → Type 0
RestEmpty w k = ((k ≡ 1) × (one_at_most ≤ w)) ⊎ ((k ≡ 2) × (two_at_most ≤ w))

rest_empty : {links : List ℕ} {p w j : ℕ} → Four links p w → RestEmpty w j → (k : ℕ) → j ≤ k → k < 4 → links ! (4 * p + k) ≡ none
rest_empty f (inl x) k l u = f.rest x.1 k u (omega (arith, x.0))
rest_empty f (inr x) k l u = f.last x.1 k u (omega (arith, x.0))

-- the first j are well and counted
pub record PlacesTested (t : Tables) (p j : ℕ) (counts counts' : List ℕ) : Type 0 where
  pub linked : Below (λ i. LinkWell t.base.n t.base.states (t.base.states ! p) (t.base.links ! (4 * p + i))) j
  pub counted : PlacesCounted t.base.n t.base.links (labels t.base.n t.leaders) p j counts counts'

-- whether the four are well; if they are, they are counted
pub record LinksTested (t : Tables) (p : ℕ) (counts counts' : List ℕ) (r : Bool) : Type 0 where
  pub tells : Truthful (Linked t.base.n t.base.states t.base.links p) r
  pub counted : r ≡ true → PlacesCounted t.base.n t.base.links (labels t.base.n t.leaders) p 4 counts counts'
  pub kept : LaterSame t.base.n counts counts'

module _ {t : Tables} {counts : List ℕ} {p : ℕ} (g : LinksGiven t counts p) where
  pub places_start : PlacesTested t p 0 counts counts
  places_start = record { linked = λ i h. absurd (omega arith); counted = places-none }

  -- the word says that all are empty
  pub tested_empty : {w : ℕ} → Four t.base.links p w → w ≡ four_none → LinksTested t p counts counts true
  tested_empty f e = record {
    tells = tells_yes (λ j h. inl (f.empty e j h));
    counted = λ _. places-rest g.labelled g.below 4 refl places-none (λ k l u. f.empty e k u);
    kept = later_none;
  }

  module _ {j : ℕ} {c : List ℕ} (x : PlacesTested t p j counts c) where
    -- the next link may be tested
    module _ (k : j < 4) where
      pub next-given : (t.base.states ! p ≡ 0 → ⊥) → LinkGiven t c (t.base.states ! p)
      next-given d = record {
        tables = g.tables;
        some = omega (arith, d);
        most = g.tables.states_most p g.below;
        countable = record {
          labelled = still g.labelled x.counted.added;
          room = λ l h. omega (arith, g.few l h, places_fit x.counted l h);
        };
      }

      module _ {own : ℕ} {c' : List ℕ} {r : Bool} (o : own ≡ label_by t.base.n (t.leaders ! p) p)
          (y : LinkTested t (t.base.states ! p) own (t.base.links ! (4 * p + j)) c c' r) where
        -- it is well
        pub next-well : r ≡ true → PlacesTested t p (j + 1) counts c'
        next-well z = record {
          linked = below_more _ _ x.linked (y.tells.yes z);
          counted =
              places-more g.labelled g.below k x.counted
              (subst
              (λ (l : ℕ). LinkAdded t.base.n (labels t.base.n t.leaders) l (t.base.links ! (4 * p + j)) c c')
              (o ∙ sym (labels_at t.base.n t.leaders p g.below))
              (y.added z));
        }

    -- by the word the links left are empty
    pub rest-tested : {w : ℕ} → j < 4 → Four t.base.links p w → RestEmpty w j → LinksTested t p counts c true
    rest-tested l f e =
        let left : j + (4 - j) ≡ 4 = omega arith in
        let rest = rest_empty f e in
        record {
          tells = tells_yes (λ k h. ⊎_elim (λ v. x.linked k v) (λ v. inl (rest k v h)) (lt_or k j));
          counted = λ _. places-rest g.labelled g.below (4 - j) left x.counted rest;
          kept = added_later x.counted.added;
        }

-- The links of all pieces are tested, and their holds and links counted on the way.
use Rattle.std.specs.Prelude.{◌≡◌, Bool, true, List, ℕ, ◌+◌, ◌≤◌, ◌<◌}
use Rattle.std.proofs.Common.{arith, below_more}
use Rattle.rules.specs.Lists.{◌!◌}
use Rattle.rules.specs.Tables.{Tables}
use Rattle.tallies.specs.Adding.{Labelled, Tallied, LaterSame, added_later, still}
use Rattle.counts.specs.Added.{HoldAdded, hold_fits, PiecesCounted, pieces_none, pieces_more, pieces_fit, pieces_tallied}
use Rattle.sound.specs.Truthful.{Truthful, tells_yes, Below}
use Rattle.sound.specs.Wells.{Linked}
use Rattle.sound.specs.Labels.{labels}
use Rattle.sound.specs.Link.{Countables, HoldGiven}
use Rattle.sound.specs.Links.{LinksGiven, LinksTested}

-- what the test of all links is given: counts of 0
pub record TablesGiven (t : Tables) (counts : List ℕ) : Type 0 where
  pub tables : Countables t
  pub labelled : Labelled t.base.n (labels t.base.n t.leaders) counts
  pub zeros : (i : ℕ) → i < t.base.n → counts ! i ≡ 0

-- the links of the pieces below p are well, and these pieces are counted
pub record PiecesTested (t : Tables) (p : ℕ) (counts counts' : List ℕ) : Type 0 where
  pub below : p ≤ t.base.n
  pub linked : Below (Linked t.base.n t.base.states t.base.links) p
  pub wide : Below (λ q. t.base.holds ! q < 65536) p
  pub counted : PiecesCounted t.base.n t.base.links t.base.holds (labels t.base.n t.leaders) p counts counts'

-- whether all links are well; if they are, all labels are counted
pub record AllTested (t : Tables) (counts counts' : List ℕ) (r : Bool) : Type 0 where
  pub tells : Truthful (Below (Linked t.base.n t.base.states t.base.links) t.base.n) r
  pub tallied : r ≡ true → Tallied t.base.n t.base.links t.base.holds (labels t.base.n t.leaders) counts counts'
  pub kept : LaterSame t.base.n counts counts'

pub pieces_start : {t : Tables} {counts : List ℕ} → PiecesTested t 0 counts counts
pieces_start = record { below = omega arith; linked = λ p h. absurd (omega arith); wide = λ p h. absurd (omega arith); counted = pieces_none }

module _ {t : Tables} {counts : List ℕ} (g : TablesGiven t counts) {p : ℕ} {c : List ℕ} (x : PiecesTested t p counts c) where
  fits : (l : ℕ) → l < t.base.n → c ! l ≤ 67111936
  fits = pieces_fit x.counted g.zeros g.labelled.small x.wide x.below

  -- the holds of the next piece may be added
  pub hold_given : p < t.base.n → HoldGiven t c p
  hold_given h = record {
    below = h;
    leaders_n = g.tables.leaders_n;
    holds_n = g.tables.sized.holds;
    countable = record { labelled = still g.labelled x.counted.added; room = λ l u. omega (arith, fits l u) };
  }

  -- and then its links tested
  module _ {c₁ : List ℕ} (h : p < t.base.n) (a : HoldAdded t.base.n t.base.holds (labels t.base.n t.leaders) p c c₁) (wide : t.base.holds ! p < 65536) where
    pub piece_given : LinksGiven t c₁ p
    piece_given = record {
      tables = g.tables;
      below = h;
      labelled = still (still g.labelled x.counted.added) a.added;
      few = λ l u. omega (arith, fits l u, hold_fits a wide l u);
    }

    module _ {c₂ : List ℕ} {r : Bool} (y : LinksTested t p c₁ c₂ r) where
      -- they are well
      pub piece_well : r ≡ true → PiecesTested t (p + 1) counts c₂
      piece_well e = record {
        below = omega arith;
        linked = below_more _ _ x.linked (y.tells.yes e);
        wide = below_more _ _ x.wide wide;
        counted = pieces_more x.counted a (y.counted e);
      }

  pub pieces_all : t.base.n ≤ p → AllTested t counts c true
  pieces_all l =
      let b = x.below in
      let all : p ≡ t.base.n = omega arith in
      let kept = added_later x.counted.added in
      record {
        tells = tells_yes (λ q h. x.linked q (omega arith));
        tallied = λ _. record { size = kept.size; matches = (pieces_tallied x.counted g.zeros all).matches; later = kept.later };
        kept = kept;
      }

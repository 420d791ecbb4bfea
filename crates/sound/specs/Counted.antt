-- The counts of all labels stand in the seventh region.
use Rattle.std.specs.Prelude.{◌≡◌, Bool, true, List, ℕ, ◌+◌, ◌*◌, ◌≤◌, ◌<◌, length, drop}
use Rattle.std.proofs.Common.{◌∙◌, arith}
use Rattle.rules.specs.Lists.{◌!◌}
use Rattle.rules.specs.Tables.{Tables}
use Rattle.tallies.specs.Tally.{tally}
use Rattle.tallies.specs.Adding.{later_on}
use Rattle.tallies.specs.Parts.{part_of, part_back, part_n, part_at, back_at, back_front, back_later}
use Rattle.sound.specs.Truthful.{Truthful, Below}
use Rattle.sound.specs.Wells.{Linked}
use Rattle.sound.specs.Labels.{labels, labels-n}
use Rattle.sound.specs.Link.{Countables}
use Rattle.sound.specs.Tested.{TablesGiven, AllTested}

-- what the count of all labels into the seventh region is given: entries of 0
pub record CountGiven (t : Tables) (work : List ℕ) : Type 0 where
  pub tables : Countables t
  pub work_n : 8 * t.base.n ≤ length work
  pub zeros : (i : ℕ) → i < t.base.n → work ! (6 * t.base.n + i) ≡ 0

-- the seventh region has the counts of all labels
pub record CountedUp (n : ℕ) (links holds leaders work : List ℕ) : Type 0 where
  pub counts : (l : ℕ) → l < n → work ! (6 * n + l) ≡ tally n links holds (labels n leaders) l

-- only the seventh region changes
pub record OutsideKept (n : ℕ) (w w' : List ℕ) : Type 0 where
  pub size : length w' ≡ length w
  pub front : (i : ℕ) → i < 6 * n → w' ! i ≡ w ! i
  pub later : drop (7 * n) w' ≡ drop (7 * n) w

-- whether all links are well; if they are, the labels are counted
pub record UpTested (t : Tables) (work work' : List ℕ) (r : Bool) : Type 0 where
  pub tells : Truthful (Below (Linked t.base.n t.base.states t.base.links) t.base.n) r
  pub counted : r ≡ true → CountedUp t.base.n t.base.links t.base.holds t.leaders work'
  pub kept : OutsideKept t.base.n work work'

-- ---- the part of work from 6n on is lent, and comes back

module _ {t : Tables} {w : List ℕ} (g : CountGiven t w) where
  pub part_given : TablesGiven t (part_of (6 * t.base.n) w)
  part_given = record {
    tables = g.tables;
    labelled = record {
      small = g.tables.sized.most;
      leaders_n = labels-n t.base.n t.leaders;
      counts_n = omega (arith, part_n (6 * t.base.n) w, g.work_n);
    };
    zeros = λ i h. part_at (6 * t.base.n) w i ∙ g.zeros i h;
  }

  pub part_tested : {part : List ℕ} {r : Bool} → AllTested t (part_of (6 * t.base.n) w) part r → UpTested t w (part_back (6 * t.base.n) w part) r
  part_tested {part} x =
      let n = t.base.n in
      let inside : 6 * n ≤ length w = omega (arith, g.work_n) in
      let behind = later_on (7 * n) (omega arith) (back_later (6 * n) w inside part x.kept) in
      record {
        tells = x.tells;
        counted = λ e. record { counts = λ l h. back_at (6 * n) w inside part l ∙ (x.tallied e).matches l h };
        kept = record { size = behind.size; front = back_front (6 * n) w inside part; later = behind.later };
      }

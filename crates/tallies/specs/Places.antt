-- Counting up the link places: what one place adds.
use Rattle.std.specs.Prelude.{◌≡◌, List, ℕ, ◌+◌, ◌/◌, ◌≤◌, ◌<◌, set}
use Rattle.std.proofs.Common.{sym, ◌∙◌, arith, length-set, drop-set-lt}
use Rattle.rules.specs.Lists.{◌!◌}
use Rattle.tallies.specs.Tally.{label, cross}
use Rattle.tallies.specs.Moves.{cross_in, cross_off, cross_on}
use Rattle.tallies.specs.Exact.{label_past}
use Rattle.tallies.specs.Adding.{Labelled, label_at, LaterSame, later_none, Added, added_none, added-one}

-- a place of a piece with label own that names t is counted
pub record LinkAdded (n : ℕ) (leaders : List ℕ) (own t : ℕ) (c c' : List ℕ) : Type 0 where
  pub at : (i : ℕ) → label leaders (i / 4) ≡ own → Added n (λ l. cross leaders l i t) c c'
  pub kept : LaterSame n c c'

module _ {n : ℕ} {leaders counts : List ℕ} {own t : ℕ} (z : Labelled n leaders counts) where
  -- no piece is named
  pub link_past : n ≤ t → LinkAdded n leaders own t counts counts
  link_past h = record {
    at = λ i o. added_none (λ l u. cross_off leaders l i t (λ e. omega (arith, label_past n leaders t z.leaders_n h, z.small)));
    kept = later_none;
  }

  -- the piece named has no label
  pub link_none : t < n → n ≤ leaders ! t → LinkAdded n leaders own t counts counts
  link_none h g = record { at = λ i o. added_none (λ l u. cross_off leaders l i t (λ e. omega (arith, label_at z t h))); kept = later_none }

  -- it has the same label
  pub link_same : t < n → leaders ! t ≡ own → LinkAdded n leaders own t counts counts
  link_same h e = record { at = λ i o. added_none (λ l u. cross_in leaders l i t (label_at z t h ∙ e ∙ sym o)); kept = later_none }

  -- it has another
  pub link_hit : {l : ℕ} → t < n → l ≡ leaders ! t → l < n → (l ≡ own → ⊥) → LinkAdded n leaders own t counts (set counts l (counts ! l + 1))
  link_hit {l} h e g d = record {
    at = λ i o.
        added-one l 1 g z.counts_n (cross_on leaders l i t (label_at z t h ∙ sym e) (λ x. d (sym x ∙ o)))
        (λ j u f. cross_off leaders j i t (λ x. f (sym x ∙ label_at z t h ∙ sym e)));
    kept = record { size = length-set counts l (counts ! l + 1); later = drop-set-lt n counts l (counts ! l + 1) g };
  }

-- One link place of a piece without a label is changed: the new target is counted, the old one is taken away, and the counts match again.
use Rattle.std.specs.Prelude.{◌≡◌, Bool, List, ℕ, ◌+◌, ◌-◌, ◌*◌, ◌/◌, ◌≤◌, ◌<◌, eqb, length, set}
use Rattle.std.proofs.Math.Path.{refl, ap}
use Rattle.std.proofs.Common.{sym, ◌∙◌, subst, ⊎_elim, arith, le_refl, length-set, eq-eqb, ne_eqb}
use Rattle.std.proofs.Math.Bool.{true, false, not}
use borrow.Rule.Slice.PartMut.{put_mid, mid_of, mid_len, set_mid_at}
use Rattle.rules.specs.Lists.{◌!◌}
use Rattle.laws.specs.Numbers.{set_cases}
use Rattle.rules.specs.Tests.{◌&◌, only_if}
use Rattle.rules.specs.Limits.{none}
use Rattle.tallies.specs.Sums.{get_or_any, only_if-true, only_if-false}
use Rattle.tallies.specs.Tally.{label, cross, CountsMatch}
use Rattle.tallies.specs.Moves.{link_moves, link_counts}
use Rattle.tallies.specs.Exact.{label_past}
use Rattle.tallies.specs.Adding.{Labelled, Added, still}

-- 1 for the label of t
unfoldable pub names : List ℕ → ℕ → ℕ → ℕ
names leaders L t = only_if (eqb (label leaders t) L) 1

-- ---- the old target is taken away

-- t can be taken away: each label counts what it counts for
pub record Uncounting (n : ℕ) (leaders counts : List ℕ) (t : ℕ) : Type 0 where
  pub labelled : Labelled n leaders counts
  pub enough : (L : ℕ) → L < n → names leaders L t ≤ counts ! L

pub record Uncounted (n : ℕ) (leaders counts : List ℕ) (t : ℕ) (counts' : List ℕ) : Type 0 where
  pub size : length counts' ≡ length counts
  pub sums : (L : ℕ) → L < n → counts' ! L + names leaders L t ≡ counts ! L

module _ {n : ℕ} {leaders counts : List ℕ} {t : ℕ} (z : Uncounting n leaders counts t) where
  names_off : (L : ℕ) → (label leaders t ≡ L → ⊥) → names leaders L t ≡ 0
  unfolding names
  names_off L f = only_if-false _ 1 (ne_eqb (label leaders t) L f)

  names_on : (L : ℕ) → label leaders t ≡ L → names leaders L t ≡ 1
  unfolding names
  names_on L e = only_if-true _ 1 (eq-eqb (label leaders t) L e)

  label-t : t < n → label leaders t ≡ leaders ! t
  label-t h = get_or_any leaders t none 0 (omega (arith, z.labelled.leaders_n))

  unnamed : ((L : ℕ) → L < n → label leaders t ≡ L → ⊥) → Uncounted n leaders counts t counts
  unnamed f = record { size = refl; sums = λ L u. omega (arith, names_off L (f L u)) }

  pub out_past : n ≤ t → Uncounted n leaders counts t counts
  out_past h = unnamed (λ L u e. omega (arith, label_past n leaders t z.labelled.leaders_n h, z.labelled.small))

  module _ (below : t < n) where
    pub out_bare : n ≤ leaders ! t → Uncounted n leaders counts t counts
    out_bare h = unnamed (λ L u e. omega (arith, label-t below))

    module _ (led : leaders ! t < n) where
      pub out_some : 0 < counts ! (leaders ! t)
      out_some = omega (arith, z.enough (leaders ! t) led, names_on (leaders ! t) (label-t below))

      pub out_hit : Uncounted n leaders counts t (set counts (leaders ! t) (counts ! (leaders ! t) - 1))
      out_hit = record {
        size = length-set counts (leaders ! t) (counts ! (leaders ! t) - 1);
        sums = λ L u.
            ⊎_elim
            (λ w. omega (arith, w.1, ap (λ (x : ℕ). counts ! x) w.0, names_on L (label-t below ∙ sym w.0), out_some))
            (λ w. omega (arith, w.1, names_off L (λ x. w.0 (sym x ∙ label-t below))))
            (set_cases counts (leaders ! t) (counts ! (leaders ! t) - 1) L 0 (omega (arith, z.labelled.counts_n)));
      }

-- ---- the place is changed

-- place i, of a piece without a label, goes to t
pub record Relinking (n : ℕ) (links leaders counts : List ℕ) (i t : ℕ) : Type 0 where
  pub labelled : Labelled n leaders counts
  pub links_n : length links ≡ 4 * n
  pub inside : i < 4 * n
  pub bare : label leaders (i / 4) ≡ none
  pub few : (L : ℕ) → L < n → counts ! L < 1028097
  pub holds : List ℕ
  pub matches : CountsMatch n links holds leaders counts

pub record Relinked (n : ℕ) (links leaders counts : List ℕ) (i t : ℕ) (links' counts' : List ℕ) (old : ℕ) : Type 0 where
  pub was : old ≡ links ! i
  pub place : links' ≡ set links i t
  pub size : length counts' ≡ length counts
  pub matches : (holds : List ℕ) → CountsMatch n links holds leaders counts → CountsMatch n links' holds leaders counts'

module _ {n : ℕ} {links leaders counts : List ℕ} {i t : ℕ} (r : Relinking n links leaders counts i t) {counts₁ : List ℕ}
    (a : Added n (λ L. cross leaders L i t) counts counts₁) where
  -- a piece without a label counts for every label that it names
  cross_is : (L : ℕ) → L < n → (u : ℕ) → cross leaders L i u ≡ names leaders L u
  unfolding cross names
  cross_is L h u =
      ap (λ (c : Bool). only_if (eqb (label leaders u) L & not c) 1)
      (ne_eqb (label leaders (i / 4)) L (λ e. omega (arith, r.bare, r.labelled.small)))
      ∙ all_on (eqb (label leaders u) L)
    where
      all_on : (c : Bool) → only_if (c & true) 1 ≡ only_if c 1
      all_on true = refl
      all_on false = refl

  -- the old target is still counted
  pub old_counted : Uncounting n leaders counts₁ (links ! i)
  old_counted = record {
    labelled = still r.labelled a;
    enough = λ L h.
        omega (arith, a.sums L h, r.matches L h, link_counts n links r.holds leaders i L r.inside, cross_is L h (links ! i));
  }

  moved : {links' counts₂ : List ℕ} → links' ≡ set links i t → Uncounted n leaders counts₁ (links ! i) counts₂
      → Relinked n links leaders counts i t links' counts₂ (links ! i)
  moved {links'} {counts₂} e b = record {
    was = refl;
    place = e;
    size = b.size ∙ a.size;
    matches = λ holds m.
        subst (λ (x : List ℕ). CountsMatch n x holds leaders counts₂) (sym e)
        (λ L h.
        omega (
          arith,
          m L h,
          a.sums L h,
          b.sums L h,
          link_moves n links holds leaders i t L r.inside (omega (arith, r.links_n, r.inside)),
          cross_is L h (links ! i),
        ));
  }

-- the part from at on is lent, and its place k is written
pub relinked : {n : ℕ} {links leaders counts counts₁ counts₂ part : List ℕ} {t : ℕ} (at k : ℕ) → Relinking n links leaders counts (at + k) t
    → Added n (λ L. cross leaders L (at + k) t) counts counts₁ → part ≡ set (mid_of at (length links - at) links) k t
    → Uncounted n leaders counts₁ (links ! (at + k)) counts₂
    → Relinked n links leaders counts (at + k) t (put_mid at (length links - at) links part) counts₂ (links ! (at + k))
relinked {links = links} {t = t} at k r a e b =
    moved r a
    (ap (put_mid at (length links - at) links) e
    ∙ set_mid_at at (length links - at) k links t
    (omega (arith, r.inside, r.links_n, mid_len at (length links) links (le_refl (length links)))))
    b

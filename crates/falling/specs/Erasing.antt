-- A place of a marked piece is erased: it names none, and the count of another group that it named falls.
use Rattle.std.specs.Prelude.{◌≡◌, refl, ◌⊎◌, List, ℕ, ◌+◌, ◌-◌, ◌*◌, ◌/◌, ◌<◌, length, set}
use Rattle.std.proofs.Common.{sym, ap, ◌∙◌, subst, inl, inr, ⊎_elim, arith, length-set, get_or-set_same, get_or-set_other}
use Rattle.rules.specs.Limits.{none}
use Rattle.rules.specs.Tables.{Base}
use Rattle.laws.specs.Numbers.{eq_or, lt_or}
use Rattle.rules.specs.Lists.{◌!◌}
use Rattle.tallies.specs.Tally.{label, cross, CountsMatch}
use Rattle.tallies.specs.Moves.{cross_in, cross_off, match_in, match_unlink}
use Rattle.tallies.specs.Exact.{label_past}
use Rattle.falling.specs.Queue.{Marked, Erased, lengths_kept, Core, EachCounted, spot, Past}

module _ {e : Base} {leaders states links counts queue : List ℕ} {tail : ℕ} (c : Core e leaders states links counts queue tail) where
  label-none : label leaders none ≡ none
  label-none = let s = c.lengths.small in label_past e.n leaders none c.lengths.leaders_n (omega arith)

  module _ {i : ℕ} (k : i < 4 * e.n) (g : Marked e.n leaders states (i / 4))
      (now-marked : label leaders (links ! i) ≡ label leaders (i / 4) → Marked e.n leaders states (links ! i)) where
    in_links : i < length links
    in_links = omega (arith, c.lengths.links_n)

    abbrev Gone : ℕ → Type 0
    Gone j = Erased e leaders states (set links i none) j

    erased_here : Gone i
    erased_here = record {
      owner = g;
      empty = get_or-set_same links i none 0 in_links;
      inner = λ s.
          ⊎_elim
          (λ same. subst (Marked e.n leaders states) same (now-marked (ap (label leaders) same ∙ s)))
          (λ r. r.inner s)
          (c.places i k);
    }

    erased_still : (j : ℕ) → Erased e leaders states links j → Gone j
    erased_still j r =
        ⊎_elim
        (λ x. subst Gone (sym x) erased_here)
        (λ d. record { owner = r.owner; empty = get_or-set_other links i j none 0 d ∙ r.empty; inner = r.inner })
        (eq_or j i)

    new_links : (j : ℕ) → j < 4 * e.n → (set links i none ! j ≡ e.links ! j) ⊎ Gone j
    new_links j u =
        ⊎_elim
        (λ x. inr (subst Gone (sym x) erased_here))
        (λ d. ⊎_elim (λ s. inl (get_or-set_other links i j none 0 d ∙ s)) (λ r. inr (erased_still j r)) (c.places j u))
        (eq_or j i)

    pub past_next : (m : ℕ) → spot queue m ≡ i → Past e leaders states links queue m → Past e leaders states (set links i none) queue (m + 1)
    past_next m s a j u =
        ⊎_elim (λ l. erased_still (spot queue j) (a j l)) (λ l. subst Gone (sym s ∙ ap (spot queue) (omega arith)) erased_here) (lt_or j m)

    -- a place that names no label, or its own
    pub erase_in : (label leaders (links ! i) ≡ none) ⊎ (label leaders (links ! i) ≡ label leaders (i / 4))
        → Core e leaders states (set links i none) counts queue tail
    erase_in w = record {
      lengths = lengths_kept c.lengths refl (length-set links i none) refl refl;
      queued = c.queued;
      pieces = c.pieces;
      places = new_links;
      matches =
          match_in e.n links e.holds leaders counts c.lengths.counts_n c.matches i none k in_links
          (λ L u. nothing L u w ∙ sym (cross_off leaders L i none (λ x. let s = c.lengths.small in let y = label-none in omega arith)));
      zeros = c.zeros;
      led = c.led;
    }
      where
        nothing : (L : ℕ) → L < e.n → (label leaders (links ! i) ≡ none) ⊎ (label leaders (links ! i) ≡ label leaders (i / 4))
            → cross leaders L i (links ! i) ≡ 0
        nothing L u (inl x) = cross_off leaders L i (links ! i) (λ y. let s = c.lengths.small in omega arith)
        nothing L u (inr x) = cross_in leaders L i (links ! i) x

    module _ {M : ℕ} (at-M : label leaders (links ! i) ≡ M) (lm : M < e.n) (off : label leaders (i / 4) ≡ M → ⊥) where
      moved : (0 < counts ! M) × CountsMatch e.n (set links i none) e.holds leaders (set counts M (counts ! M - 1))
      moved =
          match_unlink e.n links e.holds leaders counts c.lengths.counts_n c.matches i M k in_links c.lengths.small label-none at-M lm
          off

      pub had : 0 < counts ! M
      had = moved.0

      -- a place that names another label: its count falls
      pub erase_out : Core e leaders states (set links i none) (set counts M (counts ! M - 1)) queue tail
      erase_out = record {
        lengths = lengths_kept c.lengths refl (length-set links i none) (length-set counts M (counts ! M - 1)) refl;
        queued = c.queued;
        pieces = c.pieces;
        places = new_links;
        matches = moved.1;
        zeros = λ p gp.
            get_or-set_other counts M (label leaders p) (counts ! M - 1) 0
            (λ x. absurd (omega (arith, had, c.zeros p gp, ap (λ (u : ℕ). counts ! u) x))) ∙ c.zeros p gp;
        led = c.led;
      }

      pub out_at : set counts M (counts ! M - 1) ! M ≡ counts ! M - 1
      out_at = get_or-set_same counts M (counts ! M - 1) 0 (omega (arith, c.lengths.counts_n))

      -- no leader but M has lost its count
      pub counted_out : EachCounted e leaders states counts none → EachCounted e leaders states (set counts M (counts ! M - 1)) M
      counted_out o L u own nz d =
          subst (λ (x : ℕ). 0 < x) (sym (get_or-set_other counts M L (counts ! M - 1) 0 d))
          (o L u own nz (λ x. let s = c.lengths.small in omega arith))

      -- and M has not, where its count is not 0
      pub counted_still : (counts ! M - 1 ≡ 0 → ⊥) → EachCounted e leaders states counts none
          → EachCounted e leaders states (set counts M (counts ! M - 1)) none
      counted_still nz o L u own s d =
          ⊎_elim
          (λ x. let t = ap (λ (v : ℕ). set counts M (counts ! M - 1) ! v) x ∙ out_at in omega arith)
          (λ x. counted_out o L u own s x)
          (eq_or L M)

-- Where leaders are right, counts and into are right and no group has count 0 exactly if each entry is the one counted and no leader's count is 0.
use Rattle.std.specs.Prelude.{◌≡◌, Bool, List, ℕ, ◌+◌, ◌*◌, ◌≤◌, ◌<◌, eqb, length}
use Rattle.std.proofs.Math.Path.{sym}
use Rattle.std.proofs.Common.{ap, ◌∙◌, arith, eq-eqb, ne_eqb}
use Rattle.std.proofs.Math.Logic.{⊎_elim}
use Rattle.std.proofs.Math.Dec.{not_T}
use Rattle.rules.specs.Tests.{pick}
use Rattle.rules.specs.Limits.{none}
use Rattle.rules.specs.Lists.{◌!◌}
use Rattle.rules.specs.Tables.{Base, state, is_frozen, leader_of, count_entry}
use Rattle.rules.specs.Words.{Frozen, Kept, Well}
use Rattle.laws.specs.Numbers.{eq_or}
use Rattle.laws.specs.Sound.{leader_entry_frozen, count_entry-leads, count_entry_other}
use Rattle.laws.specs.Kept.{kept↔counts}
use Rattle.laws.specs.Words.{is_frozen→}
use Rattle.tallies.specs.Exact.{Exact}
use Rattle.tallies.specs.Stores.{live_on, exact_right}
use Rattle.into.specs.Named.{named_by}
use Rattle.into.specs.Into.{Into}
use Rattle.sound.specs.Truthful.{Truthful, tells_same, Below}
use Rattle.sound.specs.Both.{unled, unfrozen, counted_draft, counted_other}
use Rattle.sound.specs.Leaders.{LeadersRight}
use Rattle.sound.specs.Counted.{CountedUp}

-- what is counted for a piece: its count if it has a leader, else the links into it; and what is not
abbrev pub counted_of : ℕ → ℕ → ℕ → ℕ
counted_of leader count into = pick (eqb leader none) into count

abbrev pub other_of : ℕ → ℕ → ℕ → ℕ
other_of leader count into = pick (eqb leader none) count into

module _ (leader count into : ℕ) where
  pub counted_into : leader ≡ none → counted_of leader count into ≡ into
  counted_into e = ap (λ (c : Bool). pick c into count) (eq-eqb leader none e)

  pub counted_count : (leader ≡ none → ⊥) → counted_of leader count into ≡ count
  counted_count d = ap (λ (c : Bool). pick c into count) (ne_eqb leader none d)

  pub other_count : leader ≡ none → other_of leader count into ≡ count
  other_count e = ap (λ (c : Bool). pick c count into) (eq-eqb leader none e)

  pub other_into : (leader ≡ none → ⊥) → other_of leader count into ≡ into
  other_into d = ap (λ (c : Bool). pick c count into) (ne_eqb leader none d)

-- the one is what was counted, the other is 0, and the count of a piece that leads is not
pub record Compared (leader p count into counted : ℕ) : Type 0 where
  pub same : counted_of leader count into ≡ counted
  pub other : other_of leader count into ≡ 0
  pub leads : leader ≡ p → 0 < count

-- so at p
abbrev pub CountFound : ℕ → List ℕ → List ℕ → List ℕ → List ℕ → ℕ → Type 0
CountFound n leaders counts into work p = Compared (leaders ! p) p (counts ! p) (into ! p) (work ! (6 * n + p))

-- counts: at a leader: the group's count; else 0; every frozen piece is kept; and the links into each draft are right
pub record CountsRight (b : Base) (counts links : List ℕ) : Type 0 where
  pub entries : Below (λ p. counts ! p ≡ count_entry b p) b.n
  pub kept : (p : ℕ) → Frozen b p → Kept b p
  pub into : Into b.n b.states b.links links

module _ {b : Base} (small : b.n ≤ 1024) (wells : Below (Well b) b.n) {leaders : List ℕ} (size : length leaders ≡ b.n) (right : LeadersRight b leaders)
    {w : List ℕ} (C : CountedUp b.n b.links b.holds leaders w) where
  exact : Exact b leaders
  exact = exact_right b leaders size small right

  leads : (p : ℕ) → Frozen b p → leaders ! p ≡ leader_of b p
  leads p f = right p f.below ∙ leader_entry_frozen b p f.is

  -- a piece with a leader is frozen, and another is not
  frozen : (p : ℕ) → p < b.n → (leaders ! p ≡ none → ⊥) → Frozen b p
  frozen p h e = record { below = h; is = ⊎_elim (λ x. x) (λ d. absurd (e (unfrozen exact wells p h d))) (eq_or (state b p) 2) }

  other : (p : ℕ) → p < b.n → leaders ! p ≡ none → state b p ≡ 2 → ⊥
  other p h e = unled exact wells p h (omega (arith, e, small))

  no-count : (p : ℕ) → p < b.n → leaders ! p ≡ none → count_entry b p ≡ 0
  no-count p h e = count_entry_other b p (not_T (is_frozen b p) (λ t. other p h e (is_frozen→ b p h t).is))

  counted : (p : ℕ) → p < b.n → (state b p ≡ 1 → ⊥) → w ! (6 * b.n + p) ≡ count_entry b p
  counted p h d = C.counts p h ∙ counted_other exact wells p h d

  -- ---- what the comparison says of one piece

  module _ {count into : ℕ} (p : ℕ) (h : p < b.n) (x : Compared (leaders ! p) p count into (w ! (6 * b.n + p))) where
    entry_found : count ≡ count_entry b p
    entry_found =
        ⊎_elim
        (λ e. sym (other_count (leaders ! p) count into e) ∙ x.other ∙ sym (no-count p h e))
        (λ d. let s = (frozen p h d).is in sym (counted_count (leaders ! p) count into d) ∙ x.same ∙ counted p h (λ e. omega arith))
        (eq_or (leaders ! p) none)

    draft_found : b.states ! p ≡ 1 → into ≡ named_by b.n b.links p
    unfolding state
    draft_found s =
        let e = unfrozen exact wells p h (λ f. omega arith) in
        sym (counted_into (leaders ! p) count into e) ∙ x.same ∙ C.counts p h ∙ counted_draft exact wells p h s

    other_found : (b.states ! p ≡ 1 → ⊥) → into ≡ 0
    unfolding state
    other_found s =
        ⊎_elim
        (λ e. sym (counted_into (leaders ! p) count into e) ∙ x.same ∙ counted p h s ∙ no-count p h e)
        (λ d. sym (other_into (leaders ! p) count into d) ∙ x.other)
        (eq_or (leaders ! p) none)

  -- and what each entry must be
  module _ {counts into : List ℕ} (r : CountsRight b counts into) (p : ℕ) (h : p < b.n) where
    found_same : counted_of (leaders ! p) (counts ! p) (into ! p) ≡ w ! (6 * b.n + p)
    unfolding state
    found_same =
        ⊎_elim
        (λ e.
        counted_into (leaders ! p) (counts ! p) (into ! p) e ∙
        ⊎_elim
        (λ s. r.into.drafts p h s ∙ sym (C.counts p h ∙ counted_draft exact wells p h s))
        (λ s. r.into.others p h s ∙ sym (counted p h s ∙ no-count p h e))
        (eq_or (b.states ! p) 1))
        (λ d.
        let s = (frozen p h d).is in
        counted_count (leaders ! p) (counts ! p) (into ! p) d ∙ r.entries p h ∙ sym (counted p h (λ e. omega arith)))
        (eq_or (leaders ! p) none)

    found_other : other_of (leaders ! p) (counts ! p) (into ! p) ≡ 0
    unfolding state
    found_other =
        ⊎_elim
        (λ e. other_count (leaders ! p) (counts ! p) (into ! p) e ∙ r.entries p h ∙ no-count p h e)
        (λ d. let s = (frozen p h d).is in other_into (leaders ! p) (counts ! p) (into ! p) d ∙ r.into.others p h (λ e. omega arith))
        (eq_or (leaders ! p) none)

    found_leads : leaders ! p ≡ p → 0 < counts ! p
    found_leads e =
        let fr = frozen p h (λ z. omega (arith, e, z, small)) in
        let l : leader_of b p ≡ p = sym (leads p fr) ∙ e in
        omega (arith, r.entries p h, count_entry-leads b p fr.is l, (kept↔counts b (live_on b small wells)).0 r.kept p fr l)

  pub counts_told : (counts into : List ℕ) → length into ≡ b.n → {r : Bool} → Truthful (Below (CountFound b.n leaders counts into w) b.n) r
      → Truthful (CountsRight b counts into) r
  counts_told counts into into_n = tells_same
      (λ f. record {
        entries = λ p h. entry_found p h (f p h);
        kept = (kept↔counts b (live_on b small wells)).1 (λ p fr e.
            omega (arith, (f p fr.below).leads (leads p fr ∙ e), entry_found p fr.below (f p fr.below), count_entry-leads b p fr.is e));
        into = record { size = into_n; drafts = λ p h. draft_found p h (f p h); others = λ p h. other_found p h (f p h) };
      })
      (λ r p h. record { same = found_same r p h; other = found_other r p h; leads = found_leads r p h })

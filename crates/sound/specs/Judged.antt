-- The passes decide whether the tables are sound and the links into each draft right: the first that says no refutes it, and the last decides it.
use Rattle.std.specs.Prelude.{◌≡◌, Bool, false, true, ◌⊎◌, List, ℕ, ◌+◌, ◌-◌, ◌*◌, ◌≤◌, ◌<◌, T, length}
use Rattle.std.proofs.Common.{sym, ap, ◌∙◌, subst, inl, inr, arith}
use Rattle.std.proofs.Math.Dec.{eqb, eqb→eq}
use Rattle.rules.specs.Lists.{◌!◌}
use Rattle.rules.specs.Tests.{◌&◌}
use Rattle.rules.specs.Tables.{Base, Tables, is_sound, into_entry, into_right}
use Rattle.rules.specs.Words.{Well, Sound, Sized}
use Rattle.laws.specs.Below.{every→, →every}
use Rattle.laws.specs.Numbers.{lt_or}
use Rattle.laws.specs.Tests.{and_both, and_left, and_right}
use Rattle.laws.specs.Words.{eqb_of}
use Rattle.laws.specs.Sound.{sound→entries, entries→sound, is_sound→, →is_sound}
use Rattle.tallies.specs.Adding.{LaterSame, later_then, later_on, later_at}
use Rattle.paths.specs.Classes.{frozen_closed}
use Rattle.into.specs.Into.{Into, into_entries, into_entry_lem}
use Rattle.groups.specs.Grouped.{Searchable, Grouped, Of}
use Rattle.sound.specs.Truthful.{Truthful, tells_no, tells_same, never, tells_is, Below}
use Rattle.sound.specs.Wells.{HeldWell, holds_of_lem, well_linked}
use Rattle.sound.specs.Zeros.{PiecesZeroed}
use Rattle.sound.specs.Leaders.{LeaderFound, LeadersRight, leaders_told}
use Rattle.sound.specs.Counted.{CountedUp, UpTested}
use Rattle.sound.specs.Compared.{CountFound, counts_told}

-- the links into each draft are right
abbrev pub IntoSound : Base → List ℕ → Type 0
IntoSound b into = Into b.n b.states b.links into

-- the eighth region is 0
abbrev pub SumsZero : ℕ → List ℕ → Type 0
SumsZero n w = Below (λ p. w ! (7 * n + p) ≡ 0) n

-- whether the tables and the links into each draft are; if they are the eighth region is 0, and behind it work is as it was
pub record Judged (s : Tables) (into w w' : List ℕ) (r : Bool) : Type 0 where
  pub tells : Truthful (Sound s × IntoSound s.base into) r
  pub later : LaterSame (8 * s.base.n) w w'
  pub zeros : r ≡ true → SumsZero s.base.n w'

module _ (b : Base) {into : List ℕ} where
  right→ : length into ≡ b.n → T (into_right b into) → IntoSound b into
  unfolding into_right
  right→ size t = into_entries b size (λ p h. eqb→eq (into ! p) (into_entry b p) (every→ (λ p. eqb (into ! p) (into_entry b p)) b.n t p h))

  →right : IntoSound b into → T (into_right b into)
  unfolding into_right
  →right x = →every (λ p. eqb (into ! p) (into_entry b p)) b.n (λ p h. eqb_of {m = into ! p} {n = into_entry b p} (into_entry_lem b x p h))

pub is_sound_lem : {s : Tables} {into w w' : List ℕ} {r : Bool} → length into ≡ s.base.n → Judged s into w w' r
    → (r ≡ (is_sound s & into_right s.base into)) × LaterSame (8 * s.base.n) w w' × (r ≡ true → SumsZero s.base.n w')
is_sound_lem {s} {into} size x = (
  tells_is (is_sound s & into_right s.base into)
      (λ t. (is_sound→ s (and_left (is_sound s) _ t), right→ s.base size (and_right (is_sound s) (into_right s.base into) t)))
      (λ y. and_both (is_sound s) _ (→is_sound s y.0) (→right s.base y.1))
      x.tells,
  x.later,
  x.zeros,
)

-- ---- the first two passes

-- what the first two passes leave: every piece is well, the labels are counted, and what the search and the sums read is 0
pub record WellCounted (s : Tables) (w w₂ : List ℕ) : Type 0 where
  pub wells : Below (Well s.base) s.base.n
  pub counted : CountedUp s.base.n s.base.links s.base.holds s.leaders w₂
  pub marks : Below (λ i. w₂ ! i ≡ 0) (2 * s.base.n)
  pub sums : SumsZero s.base.n w₂
  pub kept : LaterSame (8 * s.base.n) w w₂

module _ {s : Tables} {w w₁ : List ℕ} {r : Bool} (held : Truthful (Below (HeldWell s.base.states s.base.holds) s.base.n) r × PiecesZeroed s.base.n 0 s.base.n w w₁) where
  -- states and holds are not well
  pub not-held : {into : List ℕ} → r ≡ false → Judged s into w w₁ false
  not-held e = record {
    tells = tells_no (λ x. held.0.no e (λ p h. holds_of_lem s.base p ((sound→entries s x.0).good.wells p h)));
    later = held.1.kept;
    zeros = never;
  }

  module _ (z : Sized s) (wide : 8 * s.base.n ≤ length w) (yes : r ≡ true) where
    module _ {w₂ : List ℕ} {r₁ : Bool} (x : UpTested s w₁ w₂ r₁) where
      wells_told : Truthful (Below (Well s.base) s.base.n) r₁
      wells_told = well_linked s.base (held.0.yes yes) x.tells

      behind : LaterSame (7 * s.base.n) w₁ w₂
      behind = record { size = x.kept.size; later = x.kept.later }

      counted_later : LaterSame (8 * s.base.n) w w₂
      counted_later = later_then held.1.kept (later_on (8 * s.base.n) (omega arith) behind)

      -- links are not
      pub not_linked : {into : List ℕ} → r₁ ≡ false → Judged s into w w₂ false
      not_linked e = record { tells = tells_no (λ y. wells_told.no e (sound→entries s y.0).good.wells); later = counted_later; zeros = never }

      -- ---- the search, and the last two passes

      module _ (yes₁ : r₁ ≡ true) where
        all : WellCounted s w w₂
        all = record {
          wells = wells_told.yes yes₁;
          counted = x.counted yes₁;
          marks = λ i h. x.kept.front i (omega arith) ∙ marked i h (lt_or i s.base.n);
          sums = λ p h. later_at behind p ∙ (held.1.zeros p (omega arith) h).3;
          kept = counted_later;
        }
          where
            marked : (i : ℕ) → i < 2 * s.base.n → (i < s.base.n) ⊎ (s.base.n ≤ i) → w₁ ! i ≡ 0
            marked i h (inl l) = (held.1.zeros i (omega arith) l).0
            marked i h (inr l) =
                let e : i ≡ s.base.n + (i - s.base.n) = omega arith in
                ap (λ (j : ℕ). w₁ ! j) e ∙ (held.1.zeros (i - s.base.n) (omega arith) (omega arith)).1

        pub searchable : Searchable s.base.n s.base.states s.base.links 2 w₂
        searchable = record {
          lent = record { most = z.base.most; states_n = z.base.states; links_n = z.base.links; work_n = omega (arith, wide, all.kept.size) };
          closed = frozen_closed s.base z.base.most all.wells;
          zeros = all.marks;
        }

        module _ {w₃ : List ℕ} (M : Grouped s.base.n s.base.links (Of s.base.states 2) w₂ w₃) where
          searched : LaterSame (6 * s.base.n) w₂ w₃
          searched = record { size = M.size; later = M.later }

          later_same : LaterSame (8 * s.base.n) w w₃
          later_same = later_then all.kept (later_on (8 * s.base.n) (omega arith) searched)

          module _ {r₂ : Bool} (found : Truthful (Below (LeaderFound s.base.n s.base.states s.leaders w₃) s.base.n) r₂) where
            told : Truthful (LeadersRight s.base s.leaders) r₂
            told = leaders_told z.base.most all.wells M s.leaders found

            -- leaders are not right
            pub not-led : {into : List ℕ} → r₂ ≡ false → Judged s into w w₃ r₂
            not-led {into} e =
                subst
                (λ (b : Bool). Judged s into w w₃ b)
                (sym e)
                (record { tells = tells_no (λ x. told.no e (sound→entries s x.0).leaders); later = later_same; zeros = never })

            module _ (led : r₂ ≡ true) where
              -- the search leaves the counts
              counted_on : CountedUp s.base.n s.base.links s.base.holds s.leaders w₃
              counted_on = record { counts = λ l h. later_at searched l ∙ all.counted.counts l h }

              -- they are: the counts decide
              pub counts_judged : {into : List ℕ} {r₃ : Bool} → length into ≡ s.base.n → Truthful (Below (CountFound s.base.n s.leaders s.counts into w₃) s.base.n) r₃
                  → Judged s into w w₃ r₃
              counts_judged {into} size x =
                  let right = told.yes led in
                  let counts = counts_told z.base.most all.wells z.leaders right counted_on s.counts into size x in
                  record {
                    tells = tells_same
                        (λ c. (entries→sound s (record { good = record { wells = all.wells; kept = c.kept }; leaders = right; counts = c.entries }), c.into))
                        (λ y. let entries = sound→entries s y.0 in record { entries = entries.counts; kept = entries.good.kept; into = y.1 })
                        counts;
                    later = later_same;
                    zeros = λ _ p h. later_at (later_on (7 * s.base.n) (omega arith) searched) p ∙ all.sums p h;
                  }

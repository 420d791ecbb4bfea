-- Writes one after another.
use Rattle.std.specs.Prelude.{◌≡◌, refl, List, [], ◌∷◌, ◌++◌, ℕ, zero, suc, ◌+◌, ◌-◌, ◌/◌, ◌%◌, ◌<◌, length, get_or, set, take}
use Rattle.std.proofs.Common.{sym, ◌∙◌, append_assoc, append-nil, arith, add-one, add-zero, length-append, take-suc}
use Rattle.std.proofs.lemmas.List.Edits.{sets}
use Rattle.std.proofs.lemmas.List.{set_comm}
use Rattle.rules.specs.Trace.{decimal, value_or, spaced, answer_line}
use Rattle.answers.specs.Wrote.{Wrote, digits_of, piece_line, closing_line}
use Rattle.rules.specs.Limits.{none}
use Rattle.answers.specs.Decimals.{length_digits, decimal_small, value_none}

sets_append : (l : List ℕ) (i : ℕ) (xs ys : List ℕ) → sets l i (xs ++ ys) ≡ sets (sets l i xs) (i + length xs) ys
sets_append l i [] ys = rw (add-zero i)
sets_append l i (x ∷ xs) ys = let e : i + suc (length xs) ≡ suc i + length xs = omega arith in sets_append (set l i x) (suc i) xs ys ∙ rw e

-- nothing is written
pub nothing : {l : List ℕ} {i : ℕ} → Wrote l i [] l i
nothing = record { place = omega arith; room = refl }

-- what is written after something else stands after it
pub then : {l m n : List ℕ} {i j k : ℕ} {xs ys : List ℕ} → Wrote l i xs m j → Wrote m j ys n k → Wrote l i (xs ++ ys) n k
then {l} {m} {n} {i} {j} {k} {xs} {ys} a b =
    record {
      place = rw length-append (omega (arith, a.place, b.place));
      room = b.room ∙ rw (a.room, a.place) (sym (sets_append l i xs ys));
    }

-- the last byte may be written first
sets_last : (l : List ℕ) (i : ℕ) (xs : List ℕ) (a : ℕ) → sets l i (xs ++ (a ∷ [])) ≡ sets (set l (i + length xs) a) i xs
sets_last l i [] a = rw (add-zero i)
sets_last l i (x ∷ xs) a =
    let e : i + suc (length xs) ≡ suc i + length xs = omega arith in
    sets_last (set l i x) (suc i) xs a ∙ rw (e, set_comm l i (suc i + length xs) x a (λ q. omega arith))

pub digits_step : (l : List ℕ) (at k v : ℕ) → 0 < k
    → sets (set l (at + (k - 1)) (48 + v % 10)) at (digits_of (k - 1) (v / 10)) ≡ sets l at (digits_of k v)
unfolding digits_of
digits_step l at zero v h = absurd (omega arith)
digits_step l at (suc k) v h =
    let e : suc k - 1 ≡ k = omega arith in
    rw e (sym (sets_last l at (digits_of k (v / 10)) (48 + v % 10) ∙ rw (length_digits k (v / 10))))

pub digits_done : (l : List ℕ) (at k v : ℕ) → k ≡ 0 → l ≡ sets l at (digits_of k v)
unfolding digits_of
digits_done l at k v e = rw e

-- one freed number more
spaced_append : (xs ys : List ℕ) → spaced (xs ++ ys) ≡ spaced xs ++ spaced ys
unfolding spaced
spaced_append [] ys = refl
spaced_append (x ∷ xs) ys = rw (spaced_append xs ys, append_assoc)

pub spaced-more : (l : List ℕ) (i : ℕ) → i < length l → spaced (take (i + 1) l) ≡ spaced (take i l) ++ (32 ∷ decimal (get_or l i 0))
unfolding spaced
spaced-more l i h = rw (add-one i, take-suc l i 0 h, spaced_append, append-nil)

-- ---- lines, part by part

pub plain_line : (number value : ℕ)
    → answer_line number value [] ≡ decimal number ++ (32 ∷ (value_or value ++ (32 ∷ (decimal 0 ++ (10 ∷ [])))))
unfolding answer_line spaced
plain_line number value = refl

-- `-` and 0 are the same bytes always
pub bare_line : (number : ℕ) → answer_line number none [] ≡ decimal number ++ (32 ∷ 45 ∷ 32 ∷ 48 ∷ 10 ∷ [])
bare_line number = plain_line number none ∙ rw (value_none none refl, decimal_small 0 (omega arith))

-- so is the line of a draft
pub draft_line : piece_line 1 none 0 0 ≡ 48 ∷ 32 ∷ 49 ∷ 32 ∷ 45 ∷ 32 ∷ 48 ∷ 32 ∷ 48 ∷ 10 ∷ []
draft_line = rw (value_none none refl, decimal_small 0 (omega arith), decimal_small 1 (omega arith))

pub closing-line : (drafts frozen groups : ℕ)
    → closing_line drafts frozen groups
    ≡ 61 ∷ (32 ∷ (decimal drafts ++ (32 ∷ (decimal frozen ++ (32 ∷ (decimal groups ++ (10 ∷ [])))))))
unfolding spaced
closing-line drafts frozen groups = simp (append_assoc, append-nil)

-- The words at a place of a text by their first byte, and a line that is too long.
use Rattle.std.specs.Prelude.{◌≡◌, refl, List, [], ◌∷◌, ℕ, ◌+◌, ◌<◌, length, get_or, drop, None}
use Rattle.std.proofs.lemmas.Bool.{lt-leb}
use Rattle.std.proofs.Common.{drop-cons, add-one, eq-eqb, ne_eqb}
use Rattle.rules.specs.Limits.{none}
use Rattle.rules.specs.Trace.{is, bad, number, word, target, target_word, says}

module _ (line : List ℕ) (at : ℕ) where
  pub word_space : at < length line → get_or line at 0 ≡ 32 → word (drop at line) ≡ number (drop (at + 1) line)
  unfolding word
  word_space l e = rw (drop-cons line at 0 l, add-one at, eq-eqb (get_or line at 0) 32 e)

  pub word_other : at < length line → (get_or line at 0 ≡ 32 → ⊥) → word (drop at line) ≡ bad
  unfolding word
  word_other l e = rw (drop-cons line at 0 l, ne_eqb (get_or line at 0) 32 e)

  pub target_none : at < length line → get_or line at 0 ≡ 45 → target (drop at line) ≡ is none (drop (at + 1) line)
  unfolding target
  target_none l e = rw (drop-cons line at 0 l, add-one at, eq-eqb (get_or line at 0) 45 e)

  pub target-number : at < length line → (get_or line at 0 ≡ 45 → ⊥) → target (drop at line) ≡ number (drop at line)
  unfolding target
  target-number l e = rw (drop-cons line at 0 l, ne_eqb (get_or line at 0) 45 e)

  pub target_space : at < length line → get_or line at 0 ≡ 32 → target_word (drop at line) ≡ target (drop (at + 1) line)
  unfolding target_word
  target_space l e = rw (drop-cons line at 0 l, add-one at, eq-eqb (get_or line at 0) 32 e)

  pub target_other : at < length line → (get_or line at 0 ≡ 32 → ⊥) → target_word (drop at line) ≡ bad
  unfolding target_word
  target_other l e = rw (drop-cons line at 0 l, ne_eqb (get_or line at 0) 32 e)

-- ---- a line over 64 bytes

pub says_long : (line : List ℕ) → 64 < length line → says line ≡ None
unfolding says
says_long [] e = refl
says_long (b ∷ bs) e = rw (lt-leb (length (b ∷ bs)) 64 e)

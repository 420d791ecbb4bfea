-- The register as its lines, each a list of its seat, its piece and its number.
use Rattle.std.specs.Prelude.{◌≡◌, refl, Bool, List, [], ◌∷◌, ℕ, zero, suc, ◌+◌, ◌*◌, ◌/◌, ◌≤◌, ◌<◌, ltb, leb, length, get_or, take, drop}
use Rattle.std.proofs.Common.{ap, ◌∙◌, arith, length-drop, add_assoc}
use Rattle.std.proofs.lemmas.List.{get_or-drop}
use Rattle.std.specs.Simd.{first_chunks}
use Rattle.rules.specs.Tests.{◌&◌}
use Rattle.rules.specs.Limits.{lines, entries}
use Rattle.rules.specs.Register.{seat_at, piece_at, number_at, order}

-- line i
abbrev pub line_at : List ℕ → ℕ → List ℕ
line_at l i = seat_at l i ∷ piece_at l i ∷ number_at l i ∷ []

-- xs are the lines of l
pub record IsLines (l : List ℕ) (xs : List (List ℕ)) : Type 0 where
  pub size : length xs ≡ lines
  pub at : (i : ℕ) (d : List ℕ) → i < lines → get_or xs i d ≡ line_at l i

-- a line is used and stands before the pair of this order
abbrev pub before : List ℕ → ℕ → Bool
before line k = ltb 0 (get_or line 2 0) & ltb (order (get_or line 0 0) (get_or line 1 0)) k

-- a line is not all zeros and stands at most at the pair of this order
abbrev pub up_to : List ℕ → ℕ → Bool
up_to line k = ltb 0 (order (get_or line 0 0) (get_or line 1 0)) & leb (order (get_or line 0 0) (get_or line 1 0)) k

-- ---- arrays of three

triple : (l : List ℕ) → 3 ≤ length l → take 3 l ≡ get_or l 0 0 ∷ get_or l 1 0 ∷ get_or l 2 0 ∷ []
triple [] h = absurd (omega arith)
triple (x ∷ []) h = absurd (omega arith)
triple (x ∷ y ∷ []) h = absurd (omega arith)
triple (x ∷ y ∷ z ∷ r) h = refl

-- the three entries from place a on
unfoldable three : List ℕ → ℕ → List ℕ
three l a = get_or l a 0 ∷ get_or l (a + 1) 0 ∷ get_or l (a + 2) 0 ∷ []

three-drop : (l : List ℕ) (a : ℕ) → three (drop 3 l) a ≡ three l (3 + a)
unfolding three
three-drop l a = simp (get_or-drop, add_assoc)

chunk_at : (k : ℕ) (l : List ℕ) (i : ℕ) (d : List ℕ) → i < k → 3 * k ≤ length l → get_or (first_chunks 3 k l) i d ≡ three l (3 * i)
chunk_at zero l i d h g = absurd (omega arith)
chunk_at (suc k) l zero d h g = unfold three in triple l (omega arith)
chunk_at (suc k) l (suc i) d h g =
    let x : 3 + 3 * i ≡ 3 * suc i = omega arith in
    chunk_at k (drop 3 l) i d (omega arith) (omega (arith, length-drop 3 l)) ∙ three-drop l (3 * i) ∙ ap (three l) x

pub chunks_lines : {l : List ℕ} {xs : List (List ℕ)} → length l ≡ entries → xs ≡ first_chunks 3 (length l / 3) l → length xs ≡ length l / 3 → IsLines l xs
unfolding three seat_at piece_at number_at
chunks_lines {l} {xs} z e s = record {
  size = omega arith;
  at = λ i d h. ap (λ (ys : List (List ℕ)). get_or ys i d) e ∙ chunk_at (length l / 3) l i d (omega arith) (omega arith);
}

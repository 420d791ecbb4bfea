-- What a push and a carried place are of the regions, and what one step does to the measure.
use Rattle.std.specs.Prelude.{◌≡◌, refl, List, ℕ, zero, suc, ◌+◌, ◌*◌, ◌≤◌, ◌<◌, length, set}
use Rattle.std.proofs.Common.{sym, ◌∙◌, ap, arith, add-one, set-set, get_or-set_same, get_or-set_other}
use Rattle.std.proofs.lemmas.List.{set-get_or}
use Rattle.rules.specs.Lists.{◌!◌}
use Rattle.paths.specs.Search.{Regions, rest, height}
use Rattle.paths.specs.Sums.{rest_less}
use Rattle.paths.specs.Moves.Bump.{bumped}
use Rattle.paths.specs.Moves.Push as move
use Rattle.groups.specs.Layout.{part, tail, regions, with_marks, with_next, with_stack, with_starts, with_parents, moved, put_marks, put_stack, put_starts, put_parents, tail_keeps}
use Rattle.groups.specs.Steps.{stacked}

pub height_pos : (size stand : ℕ) → 0 < size → height size stand ≡ suc stand
height_pos zero stand h = absurd (omega arith)
height_pos (suc size) stand h = refl

pub height_le : (size stand : ℕ) → height size stand ≤ suc stand
height_le zero stand = omega arith
height_le (suc size) stand = omega arith

-- one place more
pub next_one : (l : List ℕ) (v j : ℕ) → v < length l → set l v (j + 1) ≡ set (set l v j) v (suc (set l v j ! v))
next_one l v j lt = ap (λ (m : ℕ). set l v m) (add-one j ∙ ap suc (sym (get_or-set_same l v j 0 lt))) ∙ sym (set-set l v j (suc (set l v j ! v)))

-- one place more of v, and then y with its next place 0
pub next_push : (l : List ℕ) (v j y : ℕ) → v < length l → (y ≡ v → ⊥) → set l v j ! y ≡ 0 → set (set l v (j + 1)) y 0 ≡ set (set l v j) v (suc (set l v j ! v))
next_push l v j y lt f z =
    let e : set l v (j + 1) ! y ≡ 0 = get_or-set_other l v y (j + 1) 0 f ∙ sym (get_or-set_other l v y j 0 f) ∙ z in
    ap (λ (m : ℕ). set (set l v (j + 1)) y m) (sym e) ∙ set-get_or (set l v (j + 1)) y 0 ∙ next_one l v j lt

pub moved-one : (s : Regions) (v j : ℕ) → v < length s.next → moved s v (j + 1) ≡ bumped (moved s v j) v
moved-one s v j lt = ap (with_next s) (next_one s.next v j lt)

-- the place that is stored
pub moved_same : (s : Regions) (v j : ℕ) → j ≡ s.next ! v → moved s v j ≡ s
moved_same s v j e =
    let q : set s.next v j ≡ s.next = ap (λ (m : ℕ). set s.next v m) e ∙ set-get_or s.next v 0 in
    ap (with_next s) q

pub moved_push : (s : Regions) (v j size blocks stand y : ℕ) → v < length s.next → (y ≡ v → ⊥) → set s.next v j ! y ≡ 0
    → moved (move.pushed (moved s v (j + 1)) size blocks stand y) y 0 ≡ bumped (move.pushed (moved s v j) size blocks stand y) v
moved_push s v j size blocks stand y lt f z = ap (λ (l : List ℕ). with_next (move.pushed s size blocks stand y) l) (next_push s.next v j y lt f z)

pub push_view : (n : ℕ) (w : List ℕ) (size blocks stand y : ℕ) → size < n → blocks < n → y < n
    → regions n (stacked n w size blocks stand y) ≡ move.pushed (regions n w) size blocks stand y
push_view n w size blocks stand y a b d =
    let w₁ : List ℕ = set w y (size + 1) in
    let w₂ : List ℕ = set w₁ (3 * n + size) y in
    let w₃ : List ℕ = set w₂ (4 * n + blocks) size in
    put_parents n w₃ size stand a ∙
    ap (λ (r : Regions). with_parents r (set r.parents size stand))
    (put_starts n w₂ blocks size b ∙
    ap (λ (r : Regions). with_starts r (set r.starts blocks size))
    (put_stack n w₁ size y a ∙
    ap (λ (r : Regions). with_stack r (set r.stack size y))
    (put_marks n w y (size + 1) d ∙ ap (λ (m : ℕ). with_marks (regions n w) (set (part n 0 w) y m)) (add-one size))))

pub push_tail : (n : ℕ) (w : List ℕ) (size blocks stand y : ℕ) → size < n → blocks < n → y < n → tail n (stacked n w size blocks stand y) ≡ tail n w
push_tail n w size blocks stand y a b d =
    let w₁ : List ℕ = set w y (size + 1) in
    let w₂ : List ℕ = set w₁ (3 * n + size) y in
    let w₃ : List ℕ = set w₂ (4 * n + blocks) size in
    tail_keeps n w₃ (5 * n + size) stand (omega arith) ∙ tail_keeps n w₂ (4 * n + blocks) size (omega arith) ∙
    tail_keeps n w₁ (3 * n + size) y (omega arith) ∙ tail_keeps n w y (size + 1) (omega arith)

-- the places left fall by one with each place explored
pub bump_rest : (n : ℕ) (s : Regions) (v : ℕ) → v < n → length s.next ≡ n → s.next ! v < 4 → suc (rest (bumped s v).next n) ≡ rest s.next n
bump_rest n s v lt len four =
    rest_less s.next (bumped s v).next n v lt four (get_or-set_same s.next v (suc (s.next ! v)) 0 (omega arith))
    (λ i u f. get_or-set_other s.next v i (suc (s.next ! v)) 0 f)

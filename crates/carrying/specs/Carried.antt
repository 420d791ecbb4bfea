-- The rest of a chunk at the front of the buffer.
use Rattle.std.specs.Prelude.{◌≡◌, List, ℕ, ◌+◌, ◌-◌, ◌≤◌, min, length, take, drop}
use Rattle.std.proofs.Common.{sym, ◌∙◌, ap, subst, arith, zero-le, length-take, length-drop}
use Rattle.std.proofs.lemmas.List.{take-take, take_min}
use Rattle.std.specs.List.{copy_within}
use Rattle.std.proofs.Math.Seq.{paste}
use Rattle.std.proofs.lemmas.List.Edits.{length-paste, take-paste}
use Rattle.chunks.specs.Short.{enough}

-- the bytes from `from` up to `to`
abbrev pub rest_of : List ℕ → ℕ → ℕ → List ℕ
rest_of buf from to = take (to - from) (drop from buf)

-- as many of them as are enough stand at the front
pub record Carried (before : List ℕ) (from to : ℕ) (after : List ℕ) (r : ℕ) : Type 0 where
  pub size : length after ≡ length before
  pub few : r ≤ enough
  pub inside : r ≤ length after
  pub front : take r after ≡ take enough (rest_of before from to)

-- ---- laws

-- as many bytes as the rest has, or as are enough
pub carried : {before after : List ℕ} {from to r : ℕ} → from ≤ to → to ≤ length before → r ≡ min enough (to - from)
    → after ≡ copy_within before from (from + r) 0 → Carried before from to after r
carried {before} {after} {from} {to} {r} a b e moved = record {
  size = same;
  few = omega arith;
  inside = omega (arith, same);
  front = front ∙ sym (take-take r (to - from) behind (omega arith)) ∙ ap (λ (k : ℕ). take k rest) least ∙ take_min enough rest;
}
  where
    behind : List ℕ
    behind = drop from before

    rest : List ℕ
    rest = rest_of before from to

    room : r ≤ length behind
    room = omega (arith, length-drop from before)

    is : after ≡ paste before 0 behind r
    is = let e : from + r - from ≡ r = omega arith in rw e at moved

    same : length after ≡ length before
    same = ap length is ∙ length-paste before 0 behind r (omega (arith, length-drop from before)) room

    least : r ≡ min enough (length rest)
    least = omega (arith, length-take (to - from) behind, length-drop from before)

    front : take r after ≡ take r behind
    front = ap (take r) is ∙ subst (λ (k : ℕ). take k (paste before 0 behind r) ≡ take r behind) (omega arith) (take-paste before 0 behind r zero-le room)

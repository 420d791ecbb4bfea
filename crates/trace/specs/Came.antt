-- What a read leaves behind the bytes that are kept.
use Rattle.std.specs.Prelude.{◌≡◌, Bool, true, false, Result, Ok, Err, List, [], ◌∷◌, ◌++◌, ℕ, ◌+◌, ◌-◌, ◌≤◌, ◌<◌, length, take, drop, set}
use Rattle.std.proofs.Common.{sym, ap, ◌∙◌, arith, add-one, length-drop, length-take, length-set, length-take-le, take-suc-set}
use borrow.Rule.Slice.PartMut.{mid_of, put_mid, same_len_mid, take_put}
use Rattle.trace.specs.declared.Failure.{Failure}
use Rattle.trace.specs.declared.Chunk.{Chunk}
use Rattle.chunks.specs.Says.{closing, closing_some}

-- bytes stand behind the first `kept`, up to `end`; at the end of the input byte 10, if any are kept
pub record Behind (before : List ℕ) (kept : ℕ) (after : List ℕ) (end : ℕ) (last : Bool) : Type 0 where
  pub size : length after ≡ length before
  pub inside : end ≤ length after
  pub on : last ≡ false → (kept ≤ end) × (take kept after ≡ take kept before)
  pub over : last ≡ true → take end after ≡ closing (take kept before)

-- what came, where the read did not fail
abbrev pub Comes : List ℕ → ℕ → List ℕ → Result Chunk Failure → Type 0
Comes before kept after (Ok c) = Behind before kept after c.end c.last
Comes before kept after (Err _) = Unit {0}

pub record Came (before : List ℕ) (kept : ℕ) (after : List ℕ) (r : Result Chunk Failure) : Type 0 where
  pub behind : Comes before kept after r

-- ---- laws

not_so : {A : Type 0} → false ≡ true → A
not_so e = absurd (let z : ◌≡◌ {A = ℕ} 0 1 = cc e in omega arith)

-- ---- what was read stands in the place of the part behind the kept bytes

module _ (before part : List ℕ) (kept : ℕ) where
  -- the buffer with the part in its place
  abbrev filled : List ℕ
  filled = put_mid kept (length before - kept) before part

  module _ (h : kept < length before) (e : length part ≡ length (mid_of kept (length before - kept) before)) where
    filled_size : length filled ≡ length before
    filled_size = same_len_mid kept (length before - kept) before part e

    filled_same : take kept filled ≡ take kept before
    filled_same = take_put kept (length before - kept) before part (omega arith)

module _ {before : List ℕ} {kept : ℕ} (h : kept < length before) (part : List ℕ) (e : length part ≡ length (mid_of kept (length before - kept) before)) where
  -- r bytes were read
  pub behind_on : {r : ℕ} → r ≤ length (mid_of kept (length (filled before part kept) - kept) (filled before part kept))
      → Behind before kept (filled before part kept) (kept + r) false
  behind_on {r} g = record {
    size = size;
    inside = omega (arith, size, length-take (length after - kept) (drop kept after), length-drop kept after);
    on = λ _. (omega arith, filled_same before part kept h e);
    over = λ x. not_so x;
  }
    where
      after : List ℕ
      after = filled before part kept

      size : length after ≡ length before
      size = filled_size before part kept h e

  -- none, and none are kept
  pub behind-none : kept ≡ 0 → Behind before kept (filled before part kept) 0 true
  behind-none x = record {
    size = filled_size before part kept h e;
    inside = omega arith;
    on = λ y. not_so (sym y);
    over = λ _. ap (λ (k : ℕ). closing (take k before)) (sym x);
  }

  -- none, and byte 10 ends the line that is kept
  pub behind_over : 0 < kept → Behind before kept (set (filled before part kept) kept 10) (kept + 1) true
  behind_over p = record {
    size = length-set after kept 10 ∙ size;
    inside = omega (arith, length-set after kept 10, size);
    on = λ y. not_so (sym y);
    over = λ _.
        ap (λ (k : ℕ). take k (set after kept 10)) (add-one kept) ∙ take-suc-set after kept 10 (omega (arith, size))
        ∙ ap (λ (t : List ℕ). t ++ (10 ∷ [])) (filled_same before part kept h e)
        ∙ sym (closing_some (take kept before) (omega (arith, length-take-le kept before (omega arith))));
  }
    where
      after : List ℕ
      after = filled before part kept

      size : length after ≡ length before
      size = filled_size before part kept h e

-- ---- the two answers

-- the read did not fail
pub came : {before after : List ℕ} {kept end : ℕ} {last : Bool} → Behind before kept after end last
    → Came before kept after (Ok (record { end = end; last = last }))
came b = record { behind = b }

-- it failed: nothing is said of the bytes
pub came_failed : {before after : List ℕ} {kept : ℕ} {x : Failure} → Came before kept after (Err x)
came_failed = record { behind = tt }

-- The register without a line, entry by entry.
use Rattle.register.specs.Moves.{Inserted}
use Rattle.register.specs.Entries.{front_length, after, in_front}
use Rattle.std.specs.Prelude.{◌≡◌, refl, ◌⊎◌, List, [], ◌∷◌, ◌++◌, ℕ, zero, suc, ◌+◌, ◌-◌, ◌*◌, ◌≤◌, ◌<◌, length, take, drop}
use Rattle.std.proofs.Math.Path.{sym, ap, subst}
use Rattle.std.proofs.Common.{◌∙◌, inl, inr, ⊎_elim, length-drop, get_or-append-add, ext_get_or}
use native.Mathlib.Omega.{arith}
use Rattle.std.proofs.Math.ListN.{get_or, length-append, get_or-append, get_or-eq_default}
use Rattle.std.proofs.Math.Seq.{get_or-drop}
use Rattle.rules.specs.Limits.{lines, entries}
use Rattle.rules.specs.Register.{seat_at, piece_at, number_at, removed}
use Rattle.laws.specs.Numbers.{lt_or}

-- an unused line
abbrev unused : List ℕ
unused = 0 ∷ 0 ∷ 0 ∷ []

module _ (l : List ℕ) (z : length l ≡ entries) (i : ℕ) (h : i < lines) where
  rest-length : length (drop (3 * i + 3) l) ≡ 3069 - 3 * i
  rest-length = omega (arith, length-drop (3 * i + 3) l)

  pub removed_size : length (removed l i) ≡ entries
  unfolding removed
  removed_size = omega (arith, length-append (take (3 * i) l) (drop (3 * i + 3) l ++ unused), length-append (drop (3 * i + 3) l) unused, front_length l z i h, rest-length)

  pub removed_front : (j : ℕ) → j < 3 * i → get_or (removed l i) j 0 ≡ get_or l j 0
  unfolding removed
  removed_front j k = in_front l z i h (drop (3 * i + 3) l ++ unused) j k

  pub removed_back : (j : ℕ) → 3 * i ≤ j → j < 3069 → get_or (removed l i) j 0 ≡ get_or l (j + 3) 0
  unfolding removed
  removed_back j g k =
      let x : 3 * i + (j - 3 * i) ≡ j = omega arith in
      let y : 3 * i + 3 + (j - 3 * i) ≡ j + 3 = omega arith in
      subst (λ (a : ℕ). get_or (removed l i) a 0 ≡ get_or (drop (3 * i + 3) l ++ unused) (j - 3 * i) 0) x (after l z i h (drop (3 * i + 3) l ++ unused) (j - 3 * i))
      ∙ get_or-append (drop (3 * i + 3) l) unused 0 (j - 3 * i) (omega (arith, rest-length))
      ∙ get_or-drop (3 * i + 3) l (j - 3 * i) 0
      ∙ ap (λ (a : ℕ). get_or l a 0) y

  nothing : (d : ℕ) → get_or unused d 0 ≡ 0
  nothing zero = refl
  nothing (suc zero) = refl
  nothing (suc (suc zero)) = refl
  nothing (suc (suc (suc d))) = refl

  pub removed_last : (j : ℕ) → 3069 ≤ j → get_or (removed l i) j 0 ≡ 0
  unfolding removed
  removed_last j g =
      let x : 3 * i + (3069 - 3 * i + (j - 3069)) ≡ j = omega arith in
      subst (λ (a : ℕ). get_or (removed l i) a 0 ≡ 0) x
      (after l z i h (drop (3 * i + 3) l ++ unused) (3069 - 3 * i + (j - 3069))
      ∙ subst (λ (a : ℕ). get_or (drop (3 * i + 3) l ++ unused) (a + (j - 3069)) 0 ≡ get_or unused (j - 3069) 0) rest-length (get_or-append-add (drop (3 * i + 3) l) unused (j - 3069) 0)
      ∙ nothing (j - 3069))

  pub removed-one : (m : List ℕ) → length m ≡ entries → ((j : ℕ) → j < 3 * i → get_or m j 0 ≡ get_or l j 0)
      → ((j : ℕ) → 3 * i ≤ j → j < 3069 → get_or m j 0 ≡ get_or l (j + 3) 0) → ((j : ℕ) → 3069 ≤ j → j < entries → get_or m j 0 ≡ 0) → m ≡ removed l i
  removed-one m y f g e = ext_get_or 0 m (removed l i) (y ∙ sym removed_size) (λ j k. go j (omega (arith, k)) (lt_or j (3 * i)) (lt_or j 3069))
    where
      go : (j : ℕ) → j < entries → (j < 3 * i) ⊎ (3 * i ≤ j) → (j < 3069) ⊎ (3069 ≤ j) → get_or m j 0 ≡ get_or (removed l i) j 0
      go j k (inl u) v = f j u ∙ sym (removed_front j u)
      go j k (inr u) (inl v) = g j u v ∙ sym (removed_back j u v)
      go j k (inr u) (inr v) = e j v k ∙ sym (removed_last j v)

  unshift : (j d : ℕ) → i ≤ j → j < 1023 → d < 3 → get_or l (3 * (j + 1) + d) 0 ≡ get_or (removed l i) (3 * j + d) 0
  unshift j d g k u =
      let x : 3 * j + d + 3 ≡ 3 * (j + 1) + d = omega arith in
      subst (λ (a : ℕ). get_or l a 0 ≡ get_or (removed l i) (3 * j + d) 0) x (sym (removed_back (3 * j + d) (omega arith) (omega arith)))

  -- entry d of line j + 1 is that of line j without the line
  whole : (j d : ℕ) → i ≤ j → d < 3 → get_or l (3 * (j + 1) + d) 0 ≡ get_or (removed l i) (3 * j + d) 0
  whole j d g u =
      ⊎_elim
      (λ k. unshift j d g k u)
      (λ k. get_or-eq_default l 0 (omega arith) ∙ sym (removed_last (3 * j + d) (omega arith)))
      (lt_or j 1023)

  pub removed_is : Inserted (removed l i) i (seat_at l i) (piece_at l i) (number_at l i) l
  unfolding seat_at piece_at number_at
  removed_is = record {
    size = z ∙ sym removed_size;
    inside = h;
    before = λ j k. record { seats = sym (removed_front (3 * j) (omega arith)); pieces = sym (removed_front (3 * j + 1) (omega arith)); numbers = sym (removed_front (3 * j + 2) (omega arith)) };
    line_seat = refl;
    line_piece = refl;
    line-number = refl;
    behind = λ j k.
        let x : 3 * (j + 1) + 0 ≡ 3 * (j + 1) = omega arith in
        let y : 3 * j + 0 ≡ 3 * j = omega arith in
        let first = sym (ap (λ (a : ℕ). get_or l a 0) x) ∙ whole j 0 k (omega arith) ∙ ap (λ (a : ℕ). get_or (removed l i) a 0) y in
        record { seats = first; pieces = whole j 1 k (omega arith); numbers = whole j 2 k (omega arith) };
  }

-- What a lent trace gives: the output in the room, then zeros, or a refusal's number.
use Rattle.std.specs.Prelude.{◌≡◌, not, None, Some, List, [], ◌++◌, ℕ, ◌+◌, ◌-◌, ◌^◌, ◌≤◌, ◌<◌, T, leb, take, replicate}
use Rattle.std.proofs.Math.Path.{sym, ap}
use Rattle.std.proofs.Common.{◌∙◌, subst, arith, append-nil, drop, drop_of_length-le, le→leb, leb→le, length-append, length-drop, length-take, length-take-le}
use Rattle.std.proofs.Math.Dec.{not_T}
use Rattle.std.proofs.Math.ListN.{length}
use borrow.Rule.Slice.PartMut.{mid_of, put_mid}
use Rattle.rules.specs.Tests.{pick}
use Rattle.rules.specs.Tables.{Tables, Store}
use Rattle.rules.specs.Calls.{number_of}
use Rattle.rules.specs.Trace.{lines_from, output_of, Given, in_room}
use Rattle.rules.specs.declared.Refusal.TheVariants.{Room}
use Rattle.laws.specs.Below.{pick_true, pick-false}
use Rattle.reader.specs.Ended.{LastLine, last_line_lem}
use Rattle.reader.specs.Fed.{wrote_front}
use Rattle.obeying.specs.Standing.{Standing}
use Rattle.lending.specs.Filled.{Filled}

abbrev pub given : ℕ → List ℕ → Given
given r room = record { result = r; room = room }

-- ---- laws

pub not_within : {a b : ℕ} → b < a → T (not (leb a b))
not_within {a} {b} h = not_T (leb a b) (λ t. let x = leb→le a b t in omega arith)

-- the room counts by its length alone
same_room : (out room room' : List ℕ) → length room' ≡ length room → in_room out room' ≡ in_room out room
unfolding in_room
same_room out room room' e = ap (λ (k : ℕ).
    pick (leb (length out) k) (given (length out) (out ++ replicate (k - length out) 0)) (given (2 ^ 63 + number_of Room) (replicate k 0))) e

-- an output longer than the room
pub lent_over : (room : List ℕ) {room' : List ℕ} → room' ≡ replicate (length room) 0 → (out : List ℕ) → length room < length out
    → given (2 ^ 63 + number_of Room) room' ≡ in_room out room
unfolding in_room
lent_over room e out h = ap (given (2 ^ 63 + number_of Room)) e ∙ sym (pick-false (leb (length out) (length room)) _ _ (not_within h))

-- the first bytes of the room and those behind them, which fit or do not
module _ (room end : List ℕ) (size : ℕ) (place : size ≤ length room) where
  abbrev all : List ℕ
  all = take size room ++ end

  all_size : length all ≡ size + length end
  all_size = length-append (take size room) end ∙ omega (arith, length-take-le size room place)

  pub lent_longer : length room - size < length end → length room < length all
  lent_longer h = omega (arith, all_size)

  pub lent_fits : length end ≤ length room - size → (room' : List ℕ) {rest : List ℕ} → length room' ≡ length room → take (size + length end) room' ≡ all
      → rest ≡ replicate (length (mid_of (size + length end) (length room' - (size + length end)) room')) 0
      → given (size + length end) (put_mid (size + length end) (length room' - (size + length end)) room' rest) ≡ in_room all room
  unfolding in_room
  lent_fits h room' {rest} same e z =
      (λ i. given (sym all_size i) (filled i))
      ∙ sym (pick_true (leb (length all) (length room)) _ _ (le→leb (length all) (length room) (omega (arith, all_size))))
    where
      k : ℕ
      k = size + length end

      m : ℕ
      m = length room' - k

      filled : put_mid k m room' rest ≡ all ++ replicate (length room - length all) 0
      filled =
          ap (λ (t : List ℕ). take k room' ++ (rest ++ t)) (drop_of_length-le (drop k room') {i = m} (omega (arith, length-drop k room')))
          ∙ ap (λ (t : List ℕ). take k room' ++ t) (append-nil rest ∙ z ∙ ap (λ (j : ℕ). replicate j 0) (omega (arith, all_size, length-take m (drop k room'), length-drop k room')))
          ∙ ap (λ (t : List ℕ). t ++ replicate (length room - length all) 0) e

-- ---- a filled room

module _ {s₀ : Store} {text room : List ℕ} {a : Standing} {room₁ : List ℕ} (same : length room₁ ≡ length room) where
  -- the output is longer than the room
  pub lent_full : Filled s₀ text room a room₁ None → {r : ℕ} {room₂ : List ℕ} → ((out : List ℕ) → length room₁ < length out → given r room₂ ≡ in_room out room₁)
      → given r room₂ ≡ in_room (output_of s₀ (lines_from [] text)) room
  lent_full f over =
      let h : length room < length (output_of s₀ (lines_from [] text)) = f.is in
      over (output_of s₀ (lines_from [] text)) (omega arith) ∙ same_room (output_of s₀ (lines_from [] text)) room room₁ same

  -- the last line, read from the store's tables, then all the output
  pub lent_all : {size : ℕ} → Filled s₀ text room a room₁ (Some size) → {t : Tables} → t ≡ a.store.tables → {out out' : List ℕ} {k r : ℕ} {room₂ : List ℕ}
      → LastLine t.base.n t.base.states t.leaders out 0 out' k → k ≤ length out
      → given r room₂ ≡ in_room (take size room₁ ++ take k out') room₁ → given r room₂ ≡ in_room (output_of s₀ (lines_from [] text)) room
  lent_all {size} f e {out} {out'} {k} x h y =
      let last = subst (λ (t : Tables). LastLine t.base.n t.base.states t.leaders out 0 out' k) e x in
      y ∙ ap (λ (t : List ℕ). in_room t room₁) (ap (λ (t : List ℕ). take size room₁ ++ t) (wrote_front (last_line_lem f.is.1 last) h) ∙ sym f.is.2)
      ∙ same_room (output_of s₀ (lines_from [] text)) room room₁ same

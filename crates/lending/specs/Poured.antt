-- A lent trace: its output is poured into the room part by part, while it fits.
use Rattle.std.specs.Prelude.{◌≡◌, refl, Option, None, Some, List, [], ◌++◌, ℕ, ◌+◌, ◌-◌, ◌≤◌, ◌<◌, length, take, drop}
use Rattle.std.proofs.Common.{sym, ap, ◌∙◌, subst, append_assoc, append-nil, arith, length-append, length-drop, length-take, drop_of_length-le, length-take-le}
use Rattle.std.proofs.lemmas.Slice.{take-put_mid}
use borrow.Rule.Slice.PartMut.{put_mid, same_len_mid}
use Rattle.rules.specs.Tables.{Store}
use Rattle.rules.specs.Trace.{lines_from, output_of}
use Rattle.chunks.specs.Says.{Says, says_none, says-more}
use Rattle.obeying.specs.Standing.{Standing}
use Rattle.reader.specs.Answered.{Stands}
use Rattle.answers.specs.Wrote.{longest}
use Rattle.reader.specs.Fed.{Feeding, Stopped, fed_on}

-- what is said of a text from store s₀ on stands in the room behind its first `start` bytes, up to `size`
pub record Holds (s₀ : Store) (text room₀ : List ℕ) (start : ℕ) (s : Store) (left room : List ℕ) (size : ℕ) : Type 0 where
  pub place : size ≤ length room
  pub said : List ℕ
  pub says : Says s₀ text said s left
  pub is : take size room ≡ take start room₀ ++ said

-- so far up to `at`; the room had its length too
pub record Pouring (s₀ : Store) (text room₀ : List ℕ) (start : ℕ) (s : Store) (room : List ℕ) (at size : ℕ) : Type 0 where
  pub same : length room ≡ length room₀
  pub begins : start ≤ length room₀
  pub inside : at ≤ length text
  pub holds : Holds s₀ text room₀ start s (drop at text) room size

-- the room is too small for the output, or the whole text is answered and the store stands
abbrev pub Pours : Store → List ℕ → List ℕ → ℕ → Standing → List ℕ → Option ℕ → Type 0
Pours s₀ text room₀ start a room None = (rest : List ℕ) → length room₀ < start + length (output_of s₀ (lines_from [] (text ++ rest)))
Pours s₀ text room₀ start a room (Some size) = Stands a.store.tables.base.n a.store a.list a.work a.from × Holds s₀ text room₀ start a.store [] room size

pub record Poured (s₀ : Store) (text room₀ : List ℕ) (start : ℕ) (a : Standing) (room : List ℕ) (r : Option ℕ) : Type 0 where
  pub is : Pours s₀ text room₀ start a room r

-- ---- laws

-- bytes that are copied to a place stand there, behind what stood before it
module _ (d : List ℕ) (at k : ℕ) {part new : List ℕ} (e : part ≡ new) (size : length new ≡ k) (fits : at + k ≤ length d) where
  abbrev placed : List ℕ
  placed = put_mid at (at + k - at) d part

  pub placed_same : length placed ≡ length d
  placed_same = same_len_mid at (at + k - at) d part (omega (arith, ap length e, length-take (at + k - at) (drop at d), length-drop at d))

  pub placed_front : take (at + k) placed ≡ take at d ++ new
  placed_front = take-put_mid at (at + k - at) d part (at + k) (omega (arith, ap length e)) (omega arith) ∙ ap (λ (t : List ℕ). take at d ++ t) e

pub pouring_none : {s : Store} {text room : List ℕ} {start : ℕ} → start ≤ length room → Pouring s text room start s room 0 start
pouring_none {s} {text} {room} {start} h = record {
  same = refl;
  begins = h;
  inside = omega arith;
  holds = record { place = h; said = []; says = says_none; is = sym (append-nil (take start room)) };
}

module _ {s₀ : Store} {text room₀ : List ℕ} {start : ℕ} {s : Store} {room : List ℕ} {at size : ℕ} (f : Pouring s₀ text room₀ start s room at size) where
  -- all of it is answered
  pub pouring_all : {l w : List ℕ} {from : ℕ} → length text ≤ at → Stands s.tables.base.n s l w from
      → Poured s₀ text room₀ start (record { store = s; list = l; work = w; from = from }) room (Some size)
  pouring_all h stands = record {
    is = (stands, subst (λ (t : List ℕ). Holds s₀ text room₀ start s t room size) (drop_of_length-le text {i = at} h) f.holds);
  }

  module _ {n : ℕ} {s' : Store} {l' w' out : List ℕ} {next k from' : ℕ} (g : Feeding n s text at s' l' w' out next k from') where
    -- some of what is left is taken
    pub pouring_less : at < length text → longest ≤ length out → Stopped text out next k → length text - next < length text - at
    pouring_less less room stop = omega (arith, g.inside, fed_on g less room stop)

    says : Says s₀ text (f.holds.said ++ take k out) s' (drop next text)
    says = says-more f.holds.says (record { exact = g.exact })

    -- these answers do not fit
    pub pouring_over : length room - size < k → {a : Standing} {room' : List ℕ} → Poured s₀ text room₀ start a room' None
    pouring_over over = record {
      is = λ rest.
          let o : List ℕ = output_of s' (lines_from [] (drop next text ++ rest)) in
          let said : List ℕ = f.holds.said in
          omega (
            arith,
            f.same,
            ap length (says.exact rest),
            length-append (said ++ take k out) o,
            length-append said (take k out),
            ap length f.holds.is,
            length-append (take start room₀) said,
            length-take-le start room₀ f.begins,
            length-take-le size room f.holds.place,
            length-take-le k out g.room,
          );
    }

    -- they do
    pub pouring_more : k ≤ length room - size → {room' : List ℕ} → length room' ≡ length room → take (size + k) room' ≡ take size room ++ take k out
        → Pouring s₀ text room₀ start s' room' next (size + k)
    pouring_more fits {room'} len e = record {
      same = len ∙ f.same;
      begins = f.begins;
      inside = g.inside;
      holds = record {
        place = omega (arith, f.holds.place);
        said = f.holds.said ++ take k out;
        says = says;
        is = e ∙ ap (λ (t : List ℕ). t ++ take k out) f.holds.is ∙ append_assoc (take start room₀) f.holds.said (take k out);
      };
    }

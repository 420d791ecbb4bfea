-- What is found at the front of a text is what its first line says: byte 10 stands behind its last word, or the line is bad.
use Rattle.std.specs.Prelude.{◌≡◌, refl, Bool, true, false, List, [], ◌∷◌, ◌++◌, ℕ, suc, ◌+◌, ◌≤◌, ◌<◌, eqb, length, None}
use Rattle.std.proofs.Common.{sym, ◌∙◌, subst, arith, add-one, drop-cons, ap, ne_eqb, get_or, drop}
use Rattle.rules.specs.Tests.{pick}
use Rattle.rules.specs.Trace.{Word, is, bad, word, target_word, ends, naming, seated_by, seated_or, seated, set_to, set_place, set_piece, chosen, says}
use Rattle.rules.specs.declared.Command.{Command}
use Rattle.rules.specs.declared.Command.TheVariants.{New, Set, Freeze, Acquire, Release, Bin, Look}
use Rattle.lines.specs.Ending.{Found, Named, Unended, Front, leaving, front_of, next_of, Reads, ended_by, naming_by, seat_or_by, seating_by, set_to_by, set_place_by, set_piece_by}
use Rattle.lines.specs.Ending.{found_by, Names, Seats, chosen_by, behind, word-ended, target-word-ended}
use Rattle.lines.specs.Left.{Left, unended_tail, word_left, target-word_left, says-chosen}
use Rattle.rules.specs.Replies.{Line}

-- ---- a line with byte 10 behind it says what the line says

module _ (more : List ℕ) where
  ended_is : (c : Command) (r : List ℕ) → Unended r → ended_by c (r ++ (10 ∷ more)) ≡ leaving (ends c r) more
  ended_is c [] u = refl
  ended_is c (b ∷ bs) u = rw (ne_eqb b 10 (u 0 (omega arith)))

  naming_is : (c : ℕ → Command) (k : ℕ) (l : List ℕ) (w : Word) → Left k l w → naming_by c (behind w (10 ∷ more)) ≡ leaving (naming c w) more
  naming_is c k l (is p r) h = ended_is (c p) r h.0
  naming_is c k l bad h = refl

  seat_is : (c : ℕ → ℕ → Command) (p : ℕ) (l : List ℕ) (w : Word) → Left 6 l w → naming_by (c p) (behind w (10 ∷ more)) ≡ leaving (seated_by c p w) more
  seat_is c p l (is i r) h = ended_is (c p i) r h.0
  seat_is c p l bad h = refl

  seat_or_is : (c : ℕ → ℕ → Command) (p : ℕ) (l : List ℕ) → Unended l → seat_or_by c p (l ++ (10 ∷ more)) ≡ leaving (seated_or c p l) more
  seat_or_is c p [] u = refl
  seat_or_is c p (b ∷ bs) u =
      rw (ne_eqb b 10 (u 0 (omega arith)), word-ended (b ∷ bs) more) (seat_is c p (b ∷ bs) (word (b ∷ bs)) (word_left (b ∷ bs) u))

  seated_is : (c : ℕ → ℕ → Command) (l : List ℕ) (w : Word) → Left 6 l w → seating_by c (behind w (10 ∷ more)) ≡ leaving (seated c w) more
  seated_is c l (is p r) h = seat_or_is c p r h.0
  seated_is c l bad h = refl

  set_to_is : (p k : ℕ) (l : List ℕ) (w : Word) → Left 6 l w → set_to_by p k (behind w (10 ∷ more)) ≡ leaving (set_to p k w) more
  set_to_is p k l (is t r) h = ended_is (Set p k t) r h.0
  set_to_is p k l bad h = refl

  set_place_is : (p : ℕ) (l : List ℕ) (w : Word) → Left 6 l w → set_place_by p (behind w (10 ∷ more)) ≡ leaving (set_place p w) more
  set_place_is p l (is k r) h = rw (target-word-ended r more) (set_to_is p k r (target_word r) (target-word_left r h.0))
  set_place_is p l bad h = refl

  set_piece_is : (l : List ℕ) (w : Word) → Left 6 l w → set_piece_by (behind w (10 ∷ more)) ≡ leaving (set_piece w) more
  set_piece_is l (is p r) h = rw (word-ended r more) (set_place_is p r (word r) (word_left r h.0))
  set_piece_is l bad h = refl

  pick_is : (t : Bool) (x y : Line) {u v : Front} → u ≡ leaving x more → v ≡ leaving y more → pick t u v ≡ leaving (pick t x y) more
  pick_is true x y a b = a
  pick_is false x y a b = b

  chosen_is : (b : ℕ) (l : List ℕ) → Unended l → chosen_by b (l ++ (10 ∷ more)) ≡ leaving (chosen b l) more
  unfolding chosen_by chosen
  chosen_is b l u =
      rw (word-ended l more)
      (pick_is (eqb b 110) (ends New l) set (ended_is New l u)
      (pick_is (eqb b 115) (set_piece w) freeze (set_piece_is l w h)
      (pick_is (eqb b 102) (seated Freeze w) acquire (seated_is Freeze l w h)
      (pick_is (eqb b 97) (seated Acquire w) release (seated_is Acquire l w h)
      (pick_is (eqb b 114) (seated Release w) bin (seated_is Release l w h)
      (pick_is (eqb b 98) (naming Bin w) look (naming_is Bin 6 l w h)
      (pick_is (eqb b 108) (naming Look w) None (naming_is Look 6 l w h) refl)))))))
    where
      w : Word
      w = word l

      h : Left 6 l w
      h = word_left l u

      look : Line
      look = pick (eqb b 108) (naming Look w) None

      bin : Line
      bin = pick (eqb b 98) (naming Bin w) look

      release : Line
      release = pick (eqb b 114) (seated Release w) bin

      acquire : Line
      acquire = pick (eqb b 97) (seated Acquire w) release

      freeze : Line
      freeze = pick (eqb b 102) (seated Freeze w) acquire

      set : Line
      set = pick (eqb b 115) (set_piece w) freeze

-- ---- at a place of a text

module _ (text : List ℕ) (at : ℕ) where
  -- what was found is what the line says
  found_exact : at < length text → (r : Found) → front_of text r ≡ chosen_by (get_or text at 0) (drop (at + 1) text)
      → (line more : List ℕ) → Unended line → drop at text ≡ line ++ (10 ∷ more) → front_of text r ≡ leaving (says line) more
  found_exact l r e line more u h = e ∙ go line u (sym (drop-cons text at 0 l) ∙ h)
    where
      go : (line : List ℕ) → Unended line → get_or text at 0 ∷ drop (suc at) text ≡ line ++ (10 ∷ more)
          → chosen_by (get_or text at 0) (drop (at + 1) text) ≡ leaving (says line) more
      go [] v x =
          let p : get_or text at 0 ≡ 10 = cc in
          ap (λ (b : ℕ). chosen_by b (drop (at + 1) text)) p ∙ (unfold chosen_by says in refl)
      go (b ∷ bs) v x =
          let p : get_or text at 0 ≡ b = cc in
          let q : drop (suc at) text ≡ bs ++ (10 ∷ more) = cc in
          ap (λ (n : ℕ). chosen_by (get_or text at 0) (drop n text)) (add-one at) ∙ ap (λ (y : ℕ). chosen_by y (drop (suc at) text)) p ∙ ap (chosen_by b) q
          ∙ chosen_is more b bs (unended_tail b bs v) ∙ ap (λ (y : Line). leaving y more) (sym (says-chosen b bs (unended_tail b bs v)))

-- ---- what is found, by the first byte

-- the letter b is that of command c
abbrev pub SeatLetter : ℕ → (ℕ → ℕ → Command) → Type 0
SeatLetter b c = (rest : List ℕ) → chosen_by b rest ≡ seating_by c (word rest)

abbrev pub Letter : ℕ → (ℕ → Command) → Type 0
Letter b c = (rest : List ℕ) → chosen_by b rest ≡ naming_by c (word rest)

module _ {text : List ℕ} {at : ℕ} (l : at < length text) where
  reads : (r : Found) → front_of text r ≡ chosen_by (get_or text at 0) (drop (at + 1) text) → next_of r ≤ length text → Reads text at r
  reads r e h = record { exact = found_exact text at l r e; inside = h }

  pub reads_new : {r : Found} → get_or text at 0 ≡ 110 → (front_of text r ≡ ended_by New (drop (at + 1) text)) × (next_of r ≤ length text) → Reads text at r
  unfolding chosen_by
  reads_new {r} e h = reads r (rw e h.0) h.1

  pub reads_set : {r : Found} → get_or text at 0 ≡ 115
      → (front_of text r ≡ set_piece_by (word (drop (at + 1) text))) × (next_of r ≤ length text) → Reads text at r
  unfolding chosen_by
  reads_set {r} e h = reads r (rw e h.0) h.1

  -- a command that names one piece and a seat: without a piece, and with the piece p and what was named behind it
  seatless : (c : ℕ → ℕ → Command) (b : ℕ) → SeatLetter b c → get_or text at 0 ≡ b → word (drop (at + 1) text) ≡ bad → Reads text at None
  seatless c b k e w = reads None (sym (ap (λ (x : ℕ). chosen_by x (drop (at + 1) text)) e ∙ k (drop (at + 1) text) ∙ ap (seating_by c) w)) (omega arith)

  reads_seated : (c : ℕ → ℕ → Command) (b : ℕ) → SeatLetter b c → get_or text at 0 ≡ b
      → {p end : ℕ} {r : Named} {f : Found} → word (drop (at + 1) text) ≡ is p (drop end text) → Seats text end r → found_by (c p) r ≡ f → Reads text at f
  reads_seated c b k e {p} {end} {r} {f} w n same =
      subst (Reads text at) same
      (reads (found_by (c p) r)
      (n.exact c p ∙ sym (ap (λ (x : ℕ). chosen_by x (drop (at + 1) text)) e ∙ k (drop (at + 1) text) ∙ ap (seating_by c) w))
      (n.inside (c p)))

  -- a command that names one piece
  reads_named : (c : ℕ → Command) (b : ℕ) → Letter b c → get_or text at 0 ≡ b → {r : Named} {f : Found} → Names text (at + 1) r → found_by c r ≡ f → Reads text at f
  reads_named c b k e {r} {f} n same =
      subst (Reads text at) same
      (reads (found_by c r) (n.exact c ∙ sym (ap (λ (x : ℕ). chosen_by x (drop (at + 1) text)) e ∙ k (drop (at + 1) text))) (n.inside c))

  module _ (w : word (drop (at + 1) text) ≡ bad) where
    pub no_freeze : get_or text at 0 ≡ 102 → Reads text at None
    no_freeze e = seatless Freeze 102 (λ rest. unfold chosen_by in refl) e w

    pub no_acquire : get_or text at 0 ≡ 97 → Reads text at None
    no_acquire e = seatless Acquire 97 (λ rest. unfold chosen_by in refl) e w

    pub no_release : get_or text at 0 ≡ 114 → Reads text at None
    no_release e = seatless Release 114 (λ rest. unfold chosen_by in refl) e w

  module _ {p end : ℕ} {r : Named} {f : Found} (w : word (drop (at + 1) text) ≡ is p (drop end text)) (n : Seats text end r) where
    pub reads_freeze : get_or text at 0 ≡ 102 → found_by (Freeze p) r ≡ f → Reads text at f
    reads_freeze e same = reads_seated Freeze 102 (λ rest. unfold chosen_by in refl) e w n same

    pub reads_acquire : get_or text at 0 ≡ 97 → found_by (Acquire p) r ≡ f → Reads text at f
    reads_acquire e same = reads_seated Acquire 97 (λ rest. unfold chosen_by in refl) e w n same

    pub reads_release : get_or text at 0 ≡ 114 → found_by (Release p) r ≡ f → Reads text at f
    reads_release e same = reads_seated Release 114 (λ rest. unfold chosen_by in refl) e w n same

  module _ {r : Named} {f : Found} where
    pub reads_bin : get_or text at 0 ≡ 98 → Names text (at + 1) r → found_by Bin r ≡ f → Reads text at f
    reads_bin e n same = reads_named Bin 98 (λ rest. unfold chosen_by in refl) e n same

    pub reads_look : get_or text at 0 ≡ 108 → Names text (at + 1) r → found_by Look r ≡ f → Reads text at f
    reads_look e n same = reads_named Look 108 (λ rest. unfold chosen_by in refl) e n same

  -- all others are bad
  pub reads_other : (get_or text at 0 ≡ 110 → ⊥) → (get_or text at 0 ≡ 115 → ⊥) → (get_or text at 0 ≡ 102 → ⊥) → (get_or text at 0 ≡ 97 → ⊥)
      → (get_or text at 0 ≡ 114 → ⊥) → (get_or text at 0 ≡ 98 → ⊥) → (get_or text at 0 ≡ 108 → ⊥) → Reads text at None
  unfolding chosen_by
  reads_other n s f a r b k =
      reads None (rw (
        ne_eqb (get_or text at 0) 110 n,
        ne_eqb (get_or text at 0) 115 s,
        ne_eqb (get_or text at 0) 102 f,
        ne_eqb (get_or text at 0) 97 a,
        ne_eqb (get_or text at 0) 114 r,
        ne_eqb (get_or text at 0) 98 b,
        ne_eqb (get_or text at 0) 108 k,
      )) (omega arith)

-- A part of a list, from an entry on, is lent and comes back.
use Rattle.std.specs.Prelude.{◌≡◌, List, ◌++◌, ℕ, ◌+◌, ◌-◌, ◌≤◌, ◌<◌, length, take, drop}
use Rattle.std.proofs.Common.{sym, ◌∙◌, ap, subst, append-nil, arith, length-append, length-drop, get_or-append-add, get_or-take, get_or-drop, length-take-le, take_all, drop-drop, drop_at}
use Rattle.std.proofs.Math.ListN.{get_or-append}
use Rattle.std.proofs.Math.Seq.{drop-length}
use borrow.Rule.Slice.PartMut.{mid_of, put_mid, Post-is}
use Rattle.rules.specs.Lists.{◌!◌}
use Rattle.tallies.specs.Adding.{LaterSame}

module _ (a : ℕ) (w : List ℕ) where
  -- the part from entry a on, and the whole when another is put back
  abbrev pub part_of : List ℕ
  part_of = mid_of a (length w - a) w

  abbrev pub part_back : List ℕ → List ℕ
  part_back part = put_mid a (length w - a) w part

  part_is : part_of ≡ drop a w
  part_is = take_all (length w - a) (drop a w) (simp length-drop (omega arith))

  pub part_n : length part_of ≡ length w - a
  part_n = ap length part_is ∙ length-drop a w

  pub part_at : (i : ℕ) → part_of ! i ≡ w ! (a + i)
  part_at i = ap (λ (l : List ℕ). l ! i) part_is ∙ get_or-drop a w i 0

  module _ (h : a ≤ length w) (part : List ℕ) where
    head : length (take a w) ≡ a
    head = length-take-le a w h

    back_is : part_back part ≡ take a w ++ part
    back_is = ap (λ (t : List ℕ). take a w ++ (part ++ t)) (Post-is a (length w) w h ∙ drop-length w) ∙ ap (λ (t : List ℕ). take a w ++ t) (append-nil part)

    -- an entry of it, and one in front
    pub back_at : (i : ℕ) → part_back part ! (a + i) ≡ part ! i
    back_at i =
        ap (λ (l : List ℕ). l ! (a + i)) back_is ∙ ap (λ (j : ℕ). (take a w ++ part) ! (j + i)) (sym head) ∙ get_or-append-add (take a w) part i 0

    pub back_front : (i : ℕ) → i < a → part_back part ! i ≡ w ! i
    back_front i l = ap (λ (x : List ℕ). x ! i) back_is ∙ get_or-append (take a w) part 0 i (omega (arith, head)) ∙ get_or-take a w i 0 l

    -- what is behind so many entries of the part is behind so many more of the whole
    pub back_later : {k : ℕ} → LaterSame k part_of part → LaterSame (a + k) w (part_back part)
    back_later {k} x =
        subst (LaterSame (a + k) w) (sym back_is)
        (record {
          size = length-append (take a w) part ∙ omega (arith, head, x.size, part_n);
          later = sym (drop-drop k a (take a w ++ part)) ∙ ap (drop k) (drop_at (take a w) part a head) ∙ x.later ∙ ap (drop k) part_is ∙ drop-drop k a w;
        })

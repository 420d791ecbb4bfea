-- The target of the next place is unseen and names no piece: it is finished at once.
use Rattle.std.specs.Prelude.{◌≡◌, List, ℕ, ◌+◌, ◌*◌, ◌≤◌, ◌<◌, set}
use Rattle.std.proofs.Common.{sym, ◌∙◌, ap, subst, arith, get_or-set_same}
use Rattle.rules.specs.Lists.{◌!◌}
use Rattle.areas.specs.Four.{Four, four_none}
use Rattle.paths.specs.Ground.{ground}
use Rattle.paths.specs.Search.{finished_mark, Regions, Invariant}
use Rattle.paths.specs.Moves.Bump.{bumped}
use Rattle.paths.specs.Moves.Leaf.{leafed, leaf}
use Rattle.groups.specs.Layout.{part, tail, regions, moved, with_leaders, part_length, put_marks, put_leaders, tail_keeps}
use Rattle.groups.specs.Stores.{moved-one}
use Rattle.groups.specs.Steps.{view, Positioned, UnderWay, Progressed, closed_one}
use Rattle.groups.specs.Explore.{next_place, stand_lt, size_n, next-length, place_is, bumps, less, target_reached, fresh}
use Rattle.groups.specs.declared.At.{At}

-- a word of four empty links: no place names a piece
pub leaf_empty : {n : ℕ} {ss ls : List ℕ} {k : ℕ} {w : List ℕ} {a : At} → UnderWay n ss ls k w a → {y word : ℕ} → Four ls y word → word ≡ four_none
    → (j : ℕ) → j < 4 → n ≤ ls ! (4 * y + j)
leaf_empty G f e j u = omega (arith, f.empty e j u, G.lent.most)

one-regions : (n : ℕ) (w : List ℕ) (y : ℕ) → y < n → regions n (closed_one n w y) ≡ leafed (regions n w) y
one-regions n w y lt =
    put_leaders n (set w y finished_mark) y y lt ∙ ap (λ (r : Regions). with_leaders r (set r.leaders y y)) (put_marks n w y finished_mark lt)

one_tail : (n : ℕ) (w : List ℕ) (y : ℕ) → y < n → tail n (closed_one n w y) ≡ tail n w
one_tail n w y lt = tail_keeps n (set w y finished_mark) (2 * n + y) y (omega arith) ∙ tail_keeps n w y finished_mark (omega arith)

module _ {n : ℕ} {ss ls : List ℕ} {k : ℕ} {w : List ℕ} {a : At} (G : UnderWay n ss ls k w a) (four : a.place < 4) (y-n : ls ! (4 * a.piece + a.place) < n)
    {mark : ℕ} (mark-is : mark ≡ w ! (ls ! (4 * a.piece + a.place))) (y-in : ss ! (ls ! (4 * a.piece + a.place)) ≡ k) (zero-mark : mark ≡ 0)
    (empty : (j : ℕ) → j < 4 → n ≤ ls ! (4 * (ls ! (4 * a.piece + a.place)) + j)) where
  abbrev y : ℕ
  y = ls ! (4 * a.piece + a.place)

  abbrev w' : List ℕ
  w' = closed_one n w y

  R : regions n w' ≡ leafed (regions n w) y
  R = one-regions n w y y-n

  E : view n w' (next_place a a.blocks) ≡ bumped (leafed (view n w a) y) a.piece
  E =
      ap (λ (x : Regions). moved x a.piece (a.place + 1)) R ∙
      moved-one (leafed (regions n w) y) a.piece a.place (omega (arith, next-length G, G.stands.piece_lt))

  marks_y : (leafed (view n w a) y).marks ! y ≡ finished_mark
  marks_y = get_or-set_same (part n 0 w) y finished_mark 0 (omega (arith, y-n, part_length n 0 w (omega (arith, G.lent.work_n))))

  inv : {old : Regions} {root : ℕ} → Positioned n ss ls k old root w a
      → Invariant (ground n ss ls k) old root (bumped (leafed (view n w a) y) a.piece) a.size a.blocks a.stand
  inv S =
      bumps G four (stand_lt G) (S.piece_is G.live) (place_is G) (leaf S.inv y y-n (target_reached G four y-n mark-is y-in S) (fresh G four y-n mark-is y-in zero-mark) empty)
      (λ u v i lt le. omega (arith, marks_y, stand_lt G, size_n G, G.lent.most))

  leaf_step : Progressed n ss ls k w a w' (next_place a a.blocks)
  leaf_step = record {
    stands = λ old root S. record {
      inv = subst (λ (s : Regions). Invariant (ground n ss ls k) old root s a.size a.blocks a.stand) (sym E) (inv S);
      piece_lt = S.piece_lt;
      piece_is = λ pos. ap (λ (s : Regions). s.stack ! a.stand) R ∙ S.piece_is pos;
      stored = λ z. absurd (omega (arith, G.live));
    };
    less = less G four (view n w' (next_place a a.blocks)) a.size a.stand (omega (arith, stand_lt G, size_n G)) (ap (λ (s : Regions). s.next) E);
    tail_same = one_tail n w y y-n;
  }

  pub step_leaf : {w₁ : List ℕ} → w₁ ≡ w' → Progressed n ss ls k w a w₁ (next_place a a.blocks)
  step_leaf e = subst (λ (u : List ℕ). Progressed n ss ls k w a u (next_place a a.blocks)) (sym e) leaf_step

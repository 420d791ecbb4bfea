-- The search's piece is explored: its block is finished, or not, and the search goes back to its parent.
use Rattle.std.specs.Prelude.{◌≡◌, refl, List, ℕ, pred, ◌+◌, ◌-◌, ◌*◌, ◌≤◌, ◌<◌, length, set}
use Rattle.std.proofs.Common.{sym, ◌∙◌, ap, subst, ⊎_elim, arith, sub-one, length-set}
use Rattle.rules.specs.Lists.{◌!◌}
use Rattle.laws.specs.Numbers.{lt_or}
use Rattle.paths.specs.Ground.{Ground, ground}
use Rattle.paths.specs.Search.{Regions, Invariant, measure, height, rest}
use Rattle.paths.specs.Moves.Back.{back, stand_pos}
use Rattle.paths.specs.Moves.Pop.{popped, pop, Closing}
use Rattle.groups.specs.Layout.{part, tail, regions, moved, part_get, part_length, put_next, tail_keeps}
use Rattle.groups.specs.Stores.{height_pos, moved_same}
use Rattle.groups.specs.Steps.{view, Positioned, UnderWay, Exhausted, Progressed, Standing, Closed, Resumable, Resumed}
use Rattle.groups.specs.Explore.{stand_lt, size_n, blocks_some, blocks_n, place_is}
use Rattle.groups.specs.declared.At.{At}

module _ {n : ℕ} {ss ls : List ℕ} {k : ℕ} {w : List ℕ} {a : At} (X : Exhausted n ss ls k w a) {w₁ : List ℕ} (w-is : w₁ ≡ set w (n + a.piece) 4) where
  abbrev g : Ground
  g = ground n ss ls k

  G : UnderWay n ss ls k w a
  G = X.going

  piece_n : a.piece < n
  piece_n = G.stands.piece_lt

  st_size : a.stand < a.size
  st_size = stand_lt G

  size_le : a.size ≤ n
  size_le = size_n G

  some : 0 < a.blocks
  some = blocks_some G

  blocks_le : a.blocks ≤ n
  blocks_le = blocks_n G

  work_n : 6 * n ≤ length w₁
  work_n = omega (arith, ap length w-is ∙ length-set w (n + a.piece) 4, G.lent.work_n)

  -- with its place stored the regions are as the search sees them
  same : regions n w₁ ≡ view n w a
  same =
      ap (regions n) w-is ∙ put_next n w a.piece 4 piece_n ∙ ap (λ (j : ℕ). moved (regions n w) a.piece j) (sym X.four)

  inv : {old : Regions} {root : ℕ} → Positioned n ss ls k old root w a → Invariant g old root (regions n w₁) a.size a.blocks a.stand
  inv {old} {root} S = subst (λ (s : Regions). Invariant g old root s a.size a.blocks a.stand) (sym same) S.inv

  I : Invariant g G.old G.root (regions n w₁) a.size a.blocks a.stand
  I = inv G.stands

  full : {old : Regions} {root : ℕ} → Positioned n ss ls k old root w a → part n n w₁ ! (part n (3 * n) w₁ ! a.stand) ≡ 4
  full S =
      ap (λ (s : Regions). s.next ! (s.stack ! a.stand)) same ∙ ap (λ (x : ℕ). (view n w a).next ! x) (S.piece_is G.live) ∙ place_is G ∙ X.four

  stack_at : part n (3 * n) w₁ ! a.stand ≡ a.piece
  stack_at = ap (λ (s : Regions). s.stack ! a.stand) same ∙ G.stands.piece_is G.live

  pub standing : Standing n w₁ a
  standing = record {
    pieces = record { work_n = work_n; most = G.lent.most; size_le = size_le; stand_lt = st_size; piece = I.base.stack.stack_lt };
    piece_is = stack_at;
  }

  last_get : part n (4 * n) w₁ ! pred a.blocks ≡ w₁ ! (4 * n + (a.blocks - 1))
  last_get = part_get n (4 * n) w₁ (pred a.blocks) (omega (arith, some, blocks_le)) ∙ ap (λ (i : ℕ). w₁ ! (4 * n + i)) (sym (sub-one a.blocks))

  parent_get : part n (5 * n) w₁ ! a.stand ≡ w₁ ! (5 * n + a.stand)
  parent_get = part_get n (5 * n) w₁ a.stand (omega (arith, st_size, size_le))

  parent_stand : w₁ ! (5 * n + a.stand) ≤ a.stand
  parent_stand = omega (arith, parent_get, I.base.trail.par_le a.stand st_size)

  before : measure n (regions n w₁) a.size a.stand ≡ measure n (view n w a) a.size a.stand
  before = ap (λ (s : Regions). measure n s a.size a.stand) same

  tail_one : tail n w₁ ≡ tail n w
  tail_one = ap (tail n) w-is ∙ tail_keeps n w (n + a.piece) 4 (omega (arith, piece_n))

  -- the search goes on at the parent
  module _ {p : ℕ} (p-is : p ≡ w₁ ! (5 * n + a.stand)) where
    p_n : p < n
    p_n = omega (arith, parent_stand, st_size, size_le)

    parent_is : part n (5 * n) w₁ ! a.stand ≡ p
    parent_is = parent_get ∙ sym p-is

    -- in work w₂ whose stack is that of w₁
    module _ (w₂ : List ℕ) (stack_same : part n (3 * n) w₂ ≡ part n (3 * n) w₁) where
      piece_get : part n (3 * n) w₁ ! p ≡ w₂ ! (3 * n + p)
      piece_get = ap (λ (l : List ℕ). l ! p) (sym stack_same) ∙ part_get n (3 * n) w₂ p p_n

      piece_ok : w₂ ! (3 * n + p) < n
      piece_ok = omega (arith, sym piece_get, I.base.stack.stack_lt p (omega (arith, parent_stand, st_size)))

      -- the place there is the one stored
      module _ {size blocks : ℕ} {r : At} (R : Resumed n w₂ size blocks p r) where
        r_piece : r.piece < n
        r_piece = omega (arith, R.piece_is, piece_ok)

        r_place : r.place ≡ part n n w₂ ! r.piece
        r_place = R.place_is ∙ sym (part_get n n w₂ (w₂ ! (3 * n + p)) piece_ok) ∙ ap (λ (x : ℕ). part n n w₂ ! x) (sym R.piece_is)

        r_view : view n w₂ r ≡ regions n w₂
        r_view = moved_same (regions n w₂) r.piece r.place r_place

        stands_at_lem : {old : Regions} {root : ℕ} → Invariant g old root (regions n w₂) size blocks p → Positioned n ss ls k old root w₂ r
        stands_at_lem {old} {root} J = record {
          inv =
              subst (λ (m : ℕ). Invariant g old root (view n w₂ r) m r.blocks r.stand) (sym R.size_is)
              (subst (λ (m : ℕ). Invariant g old root (view n w₂ r) size m r.stand) (sym R.blocks_is)
              (subst (λ (m : ℕ). Invariant g old root (view n w₂ r) size blocks m) (sym R.stand_is)
              (subst (λ (s : Regions). Invariant g old root s size blocks p) (sym r_view) J)));
          piece_lt = r_piece;
          piece_is = λ _. ap (λ (m : ℕ). part n (3 * n) w₂ ! m) R.stand_is ∙ part_get n (3 * n) w₂ p p_n ∙ sym R.piece_is;
          stored = λ _. sym r_place;
        }

        measure-at : measure n (view n w₂ r) r.size r.stand ≡ measure n (regions n w₂) size p
        measure-at =
            ap (λ (s : Regions). measure n s r.size r.stand) r_view ∙ ap (λ (m : ℕ). measure n (regions n w₂) m r.stand) R.size_is ∙
            ap (λ (m : ℕ). measure n (regions n w₂) size m) R.stand_is

    pub resumable : {w₂ : List ℕ} → part n (3 * n) w₂ ≡ part n (3 * n) w₁ → length w₂ ≡ length w₁ → Resumable n w₂ p
    resumable {w₂} stack_same len = record { most = G.lent.most; work_n = omega (arith, work_n); stand_lt = p_n; piece_lt = piece_ok w₂ stack_same }

    -- where the last block starts, as it is read
    module _ {start : ℕ} (start_is : start ≡ w₁ ! (4 * n + (a.blocks - 1))) where
      -- the piece starts no block
      pub step_back : (start ≡ a.stand → ⊥) → {r : At} → Resumed n w₁ a.size a.blocks p r → Progressed n ss ls k w a w₁ r
      step_back inner R =
          let f : part n (4 * n) w₁ ! pred a.blocks ≡ a.stand → ⊥ = λ h. inner (start_is ∙ sym last_get ∙ h) in
          record {
            stands = λ old root S.
                stands_at_lem w₁ refl R
                (subst (λ (m : ℕ). Invariant g old root (regions n w₁) a.size a.blocks m) parent_is (back (inv S) G.live (full S) f));
            less = omega (
              arith,
              measure-at w₁ refl R,
              before,
              height_pos a.size p G.live,
              height_pos a.size a.stand G.live,
              parent_is,
              I.base.trail.par_lt a.stand st_size (stand_pos I G.live (full G.stands) f),
            );
            tail_same = tail_one;
          }

      -- it starts the last block, which is finished
      module _ (starts : start ≡ a.stand) where
        pub step_pop : {w₂ : List ℕ} → length w₂ ≡ length w₁ → Closed n w₁ a.stand a.size w₂ → {r : At} → Resumed n w₂ a.stand (a.blocks - 1) p r
            → Progressed n ss ls k w a w₂ r
        step_pop {w₂} len₂ C R =
            let D = C.off in
            let s : Regions = popped (regions n w₁) (part n 0 w₂) (part n (2 * n) w₂) in
            let Q : s ≡ regions n w₂ =
            λ t. record {
              marks = part n 0 w₂;
              next = sym D.next_same t;
              leaders = part n (2 * n) w₂;
              stack = sym D.stack_same t;
              starts = sym D.starts_same t;
              parents = sym D.parents_same t;
            } in
            let did : Closing g (part n 0 w₁) (part n (2 * n) w₁) (part n (3 * n) w₁) a.stand a.size C.low (part n 0 w₂) (part n (2 * n) w₂) = record {
              marks_len = part_length n 0 w₂ (omega (arith, work_n)) ∙ sym (part_length n 0 w₁ (omega (arith, work_n)));
              leaders_len = part_length n (2 * n) w₂ (omega (arith, work_n)) ∙ sym (part_length n (2 * n) w₁ (omega (arith, work_n)));
              hit = D.hit;
              miss = D.miss;
            }
            in
            record {
              stands = λ old root S.
                  stands_at_lem w₂ D.stack_same R
                  (subst (λ (s : Regions). Invariant g old root s a.stand (a.blocks - 1) p) Q
                  (subst (λ (m : ℕ). Invariant g old root s a.stand m p) (sym (sub-one a.blocks))
                  (subst (λ (m : ℕ). Invariant g old root s a.stand (pred a.blocks) m) parent_is
                  (pop X.closed (inv S) G.live (full S) (last_get ∙ sym start_is ∙ starts) C.lowest did))));
              less =
                  let q : rest (part n n w₂) n ≡ rest (part n n w₁) n = ap (λ (l : List ℕ). rest l n) D.next_same in
                  let m = measure-at w₂ D.stack_same R in
                  ⊎_elim
                  (λ h.
                  omega (
                    arith,
                    m,
                    before,
                    q,
                    height_pos a.stand p h,
                    height_pos a.size a.stand G.live,
                    parent_is,
                    I.base.trail.par_lt a.stand st_size h,
                  ))
                  (λ h.
                  let z : a.stand ≡ 0 = omega arith in
                  let e : height a.stand p ≡ 0 = ap (λ (m : ℕ). height m p) z in
                  omega (arith, m, before, q, e, height_pos a.size a.stand G.live))
                  (lt_or 0 a.stand);
              tail_same = D.tail_same ∙ tail_one;
            }

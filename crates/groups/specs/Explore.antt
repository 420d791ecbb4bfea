-- The next place of the search's piece is explored: it is passed, its target is pushed, or blocks are merged.
use Rattle.std.specs.Prelude.{◌≡◌, refl, List, length, slice_range}
use Rattle.std.proofs.Common.{sym, ◌∙◌, arith, add-one, length-set}
use Rattle.std.proofs.Math.Path.{ap, subst}
use Prim.Native.Nat.{ℕ, suc, pred, ◌+◌, ◌-◌, ◌*◌, ◌≤◌, ◌<◌}
use Rattle.std.proofs.Math.ListN.{set}
use Rattle.std.proofs.Math.Seq.{get_or-set_same, get_or-set_other}
use Rattle.rules.specs.Reach.{Link}
use Rattle.rules.specs.Lists.{◌!◌}
use Rattle.paths.specs.Ground.{Ground, ground, Way, Reached, reached_next, one_step}
use Rattle.paths.specs.Search.{finished_mark, Regions, Invariant, measure, rest}
use Rattle.paths.specs.Sums.{count_le}
use Rattle.paths.specs.Moves.Bump.{bumped, bump}
use Rattle.paths.specs.Moves.Push.{stack_room, blocks_few}
use Rattle.paths.specs.Moves.Push as move
use Rattle.paths.specs.Moves.Merge.{merge, merged_below}
use Rattle.groups.specs.Layout.{part, tail, regions, moved, slice_get, slice_length, marks_get, part_length, put_next, tail_keeps}
use Rattle.groups.specs.Stores.{height_pos, height_le, moved-one, moved_push, push_view, push_tail, bump_rest}
use Rattle.groups.specs.Steps.{view, Positioned, UnderWay, Progressed, Stackable, stacked, Blocks, Cut}
use Rattle.groups.specs.declared.At.{At}

-- the next place of the same piece, with some blocks left
abbrev pub next_place : At → ℕ → At
next_place a left = record { size = a.size; blocks = left; stand = a.stand; piece = a.piece; place = a.place + 1 }

-- a piece pushed
abbrev pub entered : At → ℕ → At
entered a y = record { size = a.size + 1; blocks = a.blocks + 1; stand = a.size; piece = y; place = 0 }

module _ {n : ℕ} {ss ls : List ℕ} {k : ℕ} {w : List ℕ} {a : At} (G : UnderWay n ss ls k w a) where
  abbrev g : Ground
  g = ground n ss ls k

  pub stand_lt : a.stand < a.size
  stand_lt = (G.stands.inv.live G.live).stand_lt

  pub size_n : a.size ≤ n
  size_n = omega (arith, G.stands.inv.base.stack.few, count_le (part n 0 w) n)

  pub blocks_some : 0 < a.blocks
  blocks_some = G.stands.inv.base.bounds.some G.live

  pub blocks_n : a.blocks ≤ n
  blocks_n = omega (arith, size_n, blocks_few G.stands.inv.base.bounds)

  -- where the blocks start
  abbrev starts : List ℕ
  starts = slice_range w (4 * n) (4 * n + a.blocks)

  starts_length : length starts ≡ a.blocks
  starts_length = slice_length w (omega arith) (omega (arith, blocks_n, G.lent.work_n)) ∙ omega arith

  starts_get : (i : ℕ) → i < a.blocks → starts ! i ≡ part n (4 * n) w ! i
  starts_get i lt = slice_get n (4 * n) w 0 i (omega arith) (omega arith) (omega (arith, blocks_n)) ∙ ap (λ (j : ℕ). part n (4 * n) w ! j) (omega arith)

  pub next-length : length (part n n w) ≡ n
  next-length = part_length n n w (omega (arith, G.lent.work_n))

  view-length : length (view n w a).next ≡ n
  view-length = simp length-set next-length

  pub place_is : (view n w a).next ! a.piece ≡ a.place
  place_is = get_or-set_same (part n n w) a.piece a.place 0 (omega (arith, next-length, G.stands.piece_lt))

  -- root reaches the search's piece
  piece_reached : {old : Regions} {root : ℕ} → Positioned n ss ls k old root w a → Reached g root a.piece
  piece_reached {root = root} S = subst (λ (x : ℕ). Reached g root x) (S.piece_is G.live) (S.inv.base.stack.stack_in a.stand stand_lt)

  pub place_le : a.place ≤ 4
  place_le = omega (arith, place_is, G.stands.inv.base.explored.four a.piece G.stands.piece_lt (piece_reached G.stands))

  module _ (four : a.place < 4) where
    -- what the place's target is
    abbrev target : ℕ
    target = ls ! (4 * a.piece + a.place)

    -- what a place explored asks of what it names
    abbrev GoodAt : Regions → ℕ → ℕ → Type 0
    GoodAt s left t = t < n → ss ! t ≡ k → (i : ℕ) → i < left → s.starts ! i ≤ a.stand → s.starts ! i < s.marks ! t

    abbrev Good : Regions → ℕ → Type 0
    Good s left = GoodAt s left target

    -- a place of the piece is explored, after whatever else
    pub bumps : {old : Regions} {root : ℕ} {s : Regions} {size blocks stand : ℕ} → a.stand < size → s.stack ! a.stand ≡ a.piece → s.next ! a.piece ≡ a.place
        → Invariant g old root s size blocks stand → Good s blocks → Invariant g old root (bumped s a.piece) size blocks stand
    bumps {old} {root} {s} {size} {blocks} {stand} lt e f I good =
        subst (λ (x : ℕ). Invariant g old root (bumped s x) size blocks stand) e
        (bump I a.stand lt
        (omega (arith, ap (λ (x : ℕ). s.next ! x) e, f, four))
        (subst (λ (x : ℕ). GoodAt s blocks (ls ! (4 * x + s.next ! x))) (sym e) (subst (λ (m : ℕ). GoodAt s blocks (ls ! (4 * a.piece + m))) (sym f) good)))

    one : view n w (next_place a a.blocks) ≡ bumped (view n w a) a.piece
    one = moved-one (regions n w) a.piece a.place (omega (arith, next-length, G.stands.piece_lt))

    pub less : (s : Regions) (size stand : ℕ) → stand ≤ n → s.next ≡ (bumped (view n w a) a.piece).next → measure n s size stand < measure n (view n w a) a.size a.stand
    less s size stand le e =
        let r = bump_rest n (view n w a) a.piece G.stands.piece_lt view-length (omega (arith, place_is, four)) in
        omega (arith, r, ap (λ (l : List ℕ). rest l n) e, height_le size stand, height_pos a.size a.stand G.live, G.lent.most)

    -- the place is passed, with some blocks left
    passing : (left : ℕ) → ((old : Regions) (root : ℕ) → Positioned n ss ls k old root w a → Invariant g old root (view n w a) a.size left a.stand × Good (view n w a) left)
        → Progressed n ss ls k w a w (next_place a left)
    passing left keeps = record {
      stands = λ old root S.
          let K = keeps old root S in
          record {
            inv =
                subst (λ (s : Regions). Invariant g old root s a.size left a.stand) (sym one)
                (bumps stand_lt (S.piece_is G.live) place_is K.0 K.1);
            piece_lt = S.piece_lt;
            piece_is = S.piece_is;
            stored = λ z. absurd (omega (arith, G.live));
          };
      less = less (view n w (next_place a left)) a.size a.stand (omega (arith, stand_lt, size_n)) (ap (λ (s : Regions). s.next) one);
      tail_same = refl;
    }

    pub step_other : (target < n → ss ! target ≡ k → ⊥) → Progressed n ss ls k w a w (next_place a a.blocks)
    step_other h = passing a.blocks (λ old root S. (S.inv, λ lt e i u v. absurd (h lt e)))

    module _ (y-n : target < n) where
      -- the mark of the target, as it is read
      module _ {mark : ℕ} (mark-is : mark ≡ w ! target) where
        marked : part n 0 w ! target ≡ mark
        marked = marks_get n w target y-n ∙ sym mark-is

        pub step_finished : mark ≡ finished_mark → Progressed n ss ls k w a w (next_place a a.blocks)
        step_finished e = passing a.blocks (λ old root S. (S.inv, λ u v i x le. omega (arith, e, marked, le, stand_lt, size_n, G.lent.most)))

        module _ (y-in : ss ! target ≡ k) where
          link : Link n g.at a.piece target
          link = record { from = G.stands.piece_lt; to = y-n; place = a.place; inside = four; names = refl }

          pub target_reached : {old : Regions} {root : ℕ} → Positioned n ss ls k old root w a → Reached g root target
          target_reached S = reached_next (piece_reached S) S.piece_lt a.place four y-n y-in

          way : part n (3 * n) w ! a.stand ≡ a.piece → Way g (part n (3 * n) w ! a.stand) target
          way e = subst (λ (x : ℕ). Way g x target) (sym e) (one_step link)

          module _ (zero-mark : mark ≡ 0) where
            pub fresh : part n 0 w ! target ≡ 0
            fresh = marked ∙ zero-mark

            -- there is room for the target on the stack
            pub size_room : a.size < n
            size_room = stack_room G.stands.inv.base.stack target y-n fresh

            pub blocks_room : a.blocks < n
            blocks_room = omega (arith, size_room, blocks_few G.stands.inv.base.bounds)

            pub stackable : {w₁ : List ℕ} → length w₁ ≡ length w → Stackable n w₁ a.size a.blocks a.stand target
            stackable e = record {
              most = G.lent.most;
              work_n = omega (arith, G.lent.work_n);
              size_lt = size_room;
              blocks_lt = blocks_room;
              stand_lt = omega (arith, stand_lt, size_n);
              piece_lt = y-n;
            }

            -- the search with the target pushed
            s : Regions
            s = move.pushed (view n w a) a.size a.blocks a.stand target

            pushes : (old : Regions) (root : ℕ) → Positioned n ss ls k old root w a → Invariant g old root s (suc a.size) (suc a.blocks) a.size
            unfolding s
            pushes old root S =
                move.push S.inv.base S.inv.live (λ _. S.inv.rooted) target y-n y-in fresh (λ _. way (S.piece_is G.live))
                (λ e. absurd (omega (arith, G.live))) (omega (arith, stand_lt))

            -- what the next place and the push store
            module _ {w₁ w₂ : List ℕ} (w₁-is : w₁ ≡ set w (n + a.piece) (a.place + 1)) (w₂-is : w₂ ≡ stacked n w₁ a.size a.blocks a.stand target) where
              other : target ≡ a.piece → ⊥
              other e =
                  omega (
                    arith,
                    G.stands.inv.base.stack.stack_marks a.stand stand_lt,
                    ap (λ (x : ℕ). part n 0 w ! x) (G.stands.piece_is G.live ∙ sym e),
                    fresh,
                  )

              R : regions n w₂ ≡ move.pushed (moved (regions n w) a.piece (a.place + 1)) a.size a.blocks a.stand target
              R =
                  ap (regions n) w₂-is ∙ push_view n w₁ a.size a.blocks a.stand target size_room blocks_room y-n ∙
                  ap (λ (x : Regions). move.pushed x a.size a.blocks a.stand target)
                  (ap (regions n) w₁-is ∙ put_next n w a.piece (a.place + 1) G.stands.piece_lt)

              E : view n w₂ (entered a target) ≡ bumped s a.piece
              unfolding s
              E =
                  ap (λ (x : Regions). moved x target 0) R ∙
                  moved_push (regions n w) a.piece a.place a.size a.blocks a.stand target (omega (arith, next-length, G.stands.piece_lt)) other
                  (G.stands.inv.base.explored.fresh target y-n (target_reached G.stands) fresh)

              target_at : part n (3 * n) w₂ ! a.size ≡ target
              target_at =
                  ap (λ (x : Regions). x.stack ! a.size) R ∙
                  get_or-set_same (part n (3 * n) w) a.size target 0 (omega (arith, size_room, part_length n (3 * n) w (omega (arith, G.lent.work_n))))

              stands : (old : Regions) (root : ℕ) → Positioned n ss ls k old root w a → Invariant g old root (bumped s a.piece) (suc a.size) (suc a.blocks) a.size
              unfolding s
              stands old root S =
                  let I = pushes old root S in
                  let stack-stand : set (part n (3 * n) w) a.size target ! a.stand ≡ a.piece =
                  get_or-set_other (part n (3 * n) w) a.size a.stand target 0 (λ x. omega (arith, stand_lt)) ∙ S.piece_is G.live in
                  let marks_y : set (part n 0 w) target (suc a.size) ! target ≡ suc a.size =
                  get_or-set_same (part n 0 w) target (suc a.size) 0 (omega (arith, y-n, part_length n 0 w (omega (arith, G.lent.work_n)))) in
                  bumps (omega (arith, stand_lt)) stack-stand place_is I (λ u v i lt le. omega (arith, I.base.bounds.below i lt, marks_y))

              pub step_push : Progressed n ss ls k w a w₂ (entered a target)
              unfolding s
              step_push = record {
                stands = λ old root S. record {
                  inv =
                      subst (λ (x : Regions). Invariant g old root x (a.size + 1) (a.blocks + 1) a.size) (sym E)
                      (subst (λ (m : ℕ). Invariant g old root (bumped s a.piece) m (a.blocks + 1) a.size) (sym (add-one a.size))
                      (subst (λ (m : ℕ). Invariant g old root (bumped s a.piece) (suc a.size) m a.size) (sym (add-one a.blocks)) (stands old root S)));
                  piece_lt = y-n;
                  piece_is = λ _. target_at;
                  stored = λ e. absurd (omega arith);
                };
                less = less (view n w₂ (entered a target)) (a.size + 1) a.size size_n (ap (λ (x : Regions). x.next) E);
                tail_same =
                    ap (tail n) w₂-is ∙ push_tail n w₁ a.size a.blocks a.stand target size_room blocks_room y-n ∙
                    ap (tail n) w₁-is ∙ tail_keeps n w (n + a.piece) (a.place + 1) (omega (arith, G.stands.piece_lt));
              }

          -- the target is on the stack: the blocks that start above it are dropped
          pub step_merge : (mark ≡ 0 → ⊥) → (mark ≡ finished_mark → ⊥) → {left : ℕ} → Cut starts (mark - 1) left → Progressed n ss ls k w a w (next_place a left)
          step_merge nz nf {left} K =
              passing left (λ old root S.
              let o = S.inv.base.stack.marks_stack target y-n (target_reached S) (λ e. nz (sym marked ∙ e)) (λ e. nf (sym marked ∙ e)) in
              let hit : Way g (part n (3 * n) w ! a.stand) (part n (3 * n) w ! o.0) =
              subst (λ (x : ℕ). Way g (part n (3 * n) w ! a.stand) x) (sym o.3) (way (S.piece_is G.live)) in
              let few : left ≤ a.blocks = omega (arith, K.le, starts_length) in
              let low : part n (4 * n) w ! pred left ≤ o.0 = omega (arith, K.below, starts_get (pred left) (omega (arith, K.some)), o.1, marked) in
              let high : (i : ℕ) → left ≤ i → i < a.blocks → o.0 < part n (4 * n) w ! i =
              λ i x u. omega (arith, K.above i x (omega (arith, starts_length)), starts_get i u, o.1, marked) in (
                merge S.inv G.live o.0 o.2 hit left K.some few low high,
                λ u v i lt le. omega (arith, o.1, merged_below S.inv G.live o.0 o.2 hit left K.some few low high i lt),
              ))

  pub blocks_ok : {position : ℕ} → Blocks starts position
  blocks_ok = record {
    some = omega (arith, starts_length, blocks_some);
    base = omega (arith, starts_get 0 blocks_some, G.stands.inv.base.bounds.base blocks_some);
  }

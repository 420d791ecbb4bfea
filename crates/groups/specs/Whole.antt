-- The whole search from one root: how it begins, what its loop keeps, and how it ends.
use Rattle.std.specs.Prelude.{◌≡◌, refl, List, ℕ, ◌<◌, length}
use Rattle.std.proofs.Common.{sym, ◌∙◌, ap, subst, inr, ⊎_elim, arith, length-set}
use Rattle.rules.specs.Reach.{here}
use Rattle.rules.specs.Lists.{◌!◌}
use Rattle.paths.specs.Ground.{Ground, ground, Reached}
use Rattle.paths.specs.Search.{finished_mark, Regions, Invariant}
use Rattle.paths.specs.Stays.{kept_in}
use Rattle.paths.specs.Moves.Push as move
use Rattle.paths.specs.Moves.Whole.{begins, finishes}
use Rattle.groups.specs.Layout.{part, tail, regions, marks_get, sizes}
use Rattle.groups.specs.Stores.{moved_same, push_view, push_tail}
use Rattle.groups.specs.Steps.{Lent, Positioned, UnderWay, stacked, Started, Searched}
use Rattle.groups.specs.declared.At.{At}

-- the search at its root
abbrev pub first : ℕ → At
first root = record { size = 1; blocks = 1; stand = 0; piece = root; place = 0 }

-- what the loop of a search keeps, from the work w₀ on which it began
pub record Searching (n : ℕ) (ss ls : List ℕ) (k : ℕ) (w₀ : List ℕ) (root : ℕ) (w : List ℕ) (a : At) : Type 0 where
  pub lent : Lent n ss ls w
  pub len : length w ≡ length w₀
  pub old : Regions
  pub began : Positioned n ss ls k old root w₀ (first root)
  pub stands : (old : Regions) → Positioned n ss ls k old root w₀ (first root) → Positioned n ss ls k old root w a
  pub tail_same : tail n w ≡ tail n w₀

pub going : {n : ℕ} {ss ls : List ℕ} {k : ℕ} {w₀ : List ℕ} {root : ℕ} {w : List ℕ} {a : At} → Searching n ss ls k w₀ root w a → 0 < a.size → UnderWay n ss ls k w a
going {root = root} Q pos = record { lent = Q.lent; live = pos; old = Q.old; root = root; stands = Q.stands Q.old Q.began }

module _ {n : ℕ} {ss ls : List ℕ} {k : ℕ} {w : List ℕ} {root : ℕ} (S : Started n ss ls k w root) where
  abbrev g : Ground
  g = ground n ss ls k

  itself : Reached g root root
  itself = record { is = S.root_in; way = here }

  root_get : part n 0 w ! root ≡ w ! root
  root_get = marks_get n w root S.root_lt

  module _ {mark : ℕ} (mark-is : mark ≡ w ! root) (zero-mark : mark ≡ 0) {w₀ : List ℕ} (w₀-is : w₀ ≡ stacked n w 0 0 0 root) where
    unseen : part n 0 w ! root ≡ 0
    unseen = root_get ∙ sym mark-is ∙ zero-mark

    R : regions n w₀ ≡ move.pushed (regions n w) 0 0 0 root
    R = ap (regions n) w₀-is ∙ push_view n w 0 0 0 root (omega (arith, S.root_lt)) (omega (arith, S.root_lt)) S.root_lt

    next-zero : 0 ≡ part n n w₀ ! root
    next-zero = sym (ap (λ (s : Regions). s.next ! root) R ∙ S.calm.fresh root S.root_lt itself unseen)

    begun : Invariant g (regions n w) root (regions n w₀) 1 1 0
    begun =
        subst (λ (s : Regions). Invariant g (regions n w) root s 1 1 0) (sym R)
        (move.push (begins (sizes n w S.lent.work_n) S.calm) (λ h. absurd (omega arith)) (λ h. absurd (omega arith)) root S.root_lt S.root_in unseen
        (λ h. absurd (omega arith)) (λ e. refl) (omega arith))

    begin : Positioned n ss ls k (regions n w) root w₀ (first root)
    begin = record {
      inv = subst (λ (s : Regions). Invariant g (regions n w) root s 1 1 0) (sym (moved_same (regions n w₀) root 0 next-zero)) begun;
      piece_lt = S.root_lt;
      piece_is = λ _. (begun.live (omega arith)).first;
      stored = λ e. absurd (omega arith);
    }

    len₀ : length w₀ ≡ length w
    len₀ = ap length w₀-is ∙ simp length-set refl

    pub searching : Searching n ss ls k w₀ root w₀ (first root)
    searching = record {
      lent = record { most = S.lent.most; states_n = S.lent.states_n; links_n = S.lent.links_n; work_n = omega (arith, len₀, S.lent.work_n) };
      len = refl;
      old = regions n w;
      began = begin;
      stands = λ old S. S;
      tail_same = refl;
    }

    pub searched : {w' : List ℕ} {a : At} → Searching n ss ls k w₀ root w' a → a.size ≡ 0 → Searched n ss ls k w root w'
    searched {w'} {a} Q end =
        let T = Q.stands (regions n w) begin in
        let I : Invariant g (regions n w) root (regions n w') 0 a.blocks a.stand =
        subst (λ (m : ℕ). Invariant g (regions n w) root (regions n w') m a.blocks a.stand) end
        (subst (λ (s : Regions). Invariant g (regions n w) root s a.size a.blocks a.stand)
        (moved_same (regions n w') a.piece a.place (sym (T.stored end))) T.inv) in
        record {
          visited = finishes S.closed S.root_lt S.root_in I;
          tail_same = Q.tail_same ∙ ap (tail n) w₀-is ∙ push_tail n w 0 0 0 root (omega (arith, S.root_lt)) (omega (arith, S.root_lt)) S.root_lt;
        }

  -- a root that is finished already
  pub already : {mark : ℕ} → mark ≡ w ! root → (mark ≡ 0 → ⊥) → Searched n ss ls k w root w
  already mark-is nz =
      let e : part n 0 w ! root ≡ finished_mark = ⊎_elim (λ z. absurd (nz (mark-is ∙ sym root_get ∙ z))) (λ e. e) (S.calm.either root S.root_lt itself) in
      record {
        visited = record {
          calm = S.calm;
          all = λ x lt r. (kept_in (part n 0 w) S.closed S.calm.closed r.is r.way here S.root_lt itself e).2;
          others = record { same = λ x lt. inr (refl, refl, refl) };
        };
        tail_same = refl;
      }

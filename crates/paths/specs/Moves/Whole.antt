-- Where a search begins, and where it ends.
use Rattle.std.specs.Prelude.{◌≡◌, refl, ◌⊎◌, ℕ, ◌<◌}
use Rattle.std.proofs.Common.{inl, inr, ⊎_elim, arith}
use Rattle.rules.specs.Reach.{here}
use Rattle.rules.specs.Lists.{◌!◌}
use Rattle.laws.specs.Numbers.{eq_or}
use Rattle.paths.specs.Ground.{Ground, OneWay, Reached}
use Rattle.paths.specs.Search.{finished_mark, Regions, RegionsSized, Steady, Invariant}
use Rattle.paths.specs.Search.{Calm, Visited}
use Rattle.paths.specs.Stays.{kept_in}

pub begins : {g : Ground} {s : Regions} {root : ℕ} → RegionsSized g.n s → Calm g (Reached g root) s.marks s.next s.leaders → Steady g s root s 0 0
begins Z K = record {
  small = K.small;
  sizes = Z;
  stack = record {
    stack_lt = λ q lt. absurd (omega arith);
    stack_marks = λ q lt. absurd (omega arith);
    stack_in = λ q lt. absurd (omega arith);
    marks_stack = λ v lt r a b. absurd (⊎_elim a b (K.either v lt r));
    few = omega arith;
  };
  bounds = record {
    some = λ h. absurd (omega arith);
    base = λ h. absurd (omega arith);
    mono = λ i j a b. absurd (omega arith);
    below = λ i a. absurd (omega arith);
    rank = λ i a. absurd (omega arith);
  };
  trail = record {
    par_le = λ q a. absurd (omega arith);
    par_lt = λ q a. absurd (omega arith);
    par_in = λ q a. absurd (omega arith);
    par_full = λ q a. absurd (omega arith);
    up = λ q a. absurd (omega arith);
    back = λ q a. absurd (omega arith);
  };
  explored = record { four = K.four; fresh = K.fresh; seen = λ q a. absurd (omega arith) };
  ends = record { closed = K.closed; exact = K.exact };
  others = record { same = λ v lt. inr (refl, refl, refl) };
}

pub finishes : {g : Ground} {old s : Regions} {root blocks stand : ℕ} → OneWay g → root < g.n → g.state root ≡ g.class → Invariant g old root s 0 blocks stand
    → Visited g old s.marks s.next s.leaders root
finishes {g} {s = s} {root = root} C root_lt root_in I =
    let either : (v : ℕ) → v < g.n → Reached g root v → (s.marks ! v ≡ 0) ⊎ (s.marks ! v ≡ finished_mark) =
    λ v lt r.
    ⊎_elim
    (λ z. inl z)
    (λ nz. ⊎_elim (λ f. inr f) (λ nf. absurd (omega (arith, (I.base.stack.marks_stack v lt r nz nf).2))) (eq_or (s.marks ! v) finished_mark))
    (eq_or (s.marks ! v) 0)
    in
    let itself : Reached g root root = record { is = root_in; way = here } in
    let root-fin : s.marks ! root ≡ finished_mark = ⊎_elim (λ z. absurd (I.rooted z)) (λ e. e) (either root root_lt itself) in
    record {
      calm = record {
        small = I.base.small;
        either = either;
        four = I.base.explored.four;
        fresh = I.base.explored.fresh;
        closed = I.base.ends.closed;
        exact = I.base.ends.exact;
      };
      all = λ x lt r. (kept_in s.marks C I.base.ends.closed r.is r.way here root_lt itself root-fin).2;
      others = I.base.others;
    }

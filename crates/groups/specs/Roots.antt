-- From one search to what the callers are told: one after another from every piece of the class.
use Rattle.std.specs.Prelude.{◌≡◌, refl, List, ℕ, ◌+◌, ◌*◌, ◌≤◌, ◌<◌, length}
use Rattle.std.proofs.Common.{sym, ◌∙◌, ap, subst, inl, inr, ⊎_elim, arith}
use Rattle.rules.specs.Reach.{here}
use Rattle.rules.specs.Lists.{◌!◌}
use Rattle.laws.specs.Numbers.{eq_or, lt_or}
use Rattle.paths.specs.Ground.{Ground, ground, OneWay, Leads}
use Rattle.paths.specs.Search.{finished_mark, Calm}
use Rattle.groups.specs.Layout.{part, tail, tail_is, marks_get}
use Rattle.groups.specs.Steps.{Lent, Started, Searched}
use Rattle.groups.specs.Grouped.{Searchable, Grouped, Of}
use Rattle.groups.specs.Root.{lead_get, unseen}

-- every piece of the class below `root` is finished, and no other piece is marked
pub record Trying (n : ℕ) (ss ls : List ℕ) (k : ℕ) (w₀ w : List ℕ) (root : ℕ) : Type 0 where
  pub le : root ≤ n
  pub len : length w ≡ length w₀
  pub lent : Lent n ss ls w
  pub closed : OneWay (ground n ss ls k)
  pub calm : Calm (ground n ss ls k) (Of ss k) (part n 0 w) (part n n w) (part n (2 * n) w)
  pub outside : (x : ℕ) → x < n → (ss ! x ≡ k → ⊥) → part n 0 w ! x ≡ 0
  pub done : (x : ℕ) → x < root → ss ! x ≡ k → part n 0 w ! x ≡ finished_mark
  pub tail_same : tail n w ≡ tail n w₀

pub trying-none : {n : ℕ} {ss ls : List ℕ} {k : ℕ} {w : List ℕ} → Searchable n ss ls k w → Trying n ss ls k w w 0
trying-none {n} {w = w} R = record {
  le = omega arith;
  len = refl;
  lent = R.lent;
  closed = R.closed;
  calm = unseen R.lent (λ x lt r. (R.zeros x (omega arith), R.zeros (n + x) (omega arith)));
  outside = λ x lt f. marks_get n w x lt ∙ R.zeros x (omega arith);
  done = λ x lt. absurd (omega arith);
  tail_same = refl;
}

module _ {n : ℕ} {ss ls : List ℕ} {k : ℕ} {w₀ w : List ℕ} {root : ℕ} (Q : Trying n ss ls k w₀ w root) where
  abbrev g : Ground
  g = ground n ss ls k

  pub trying_start : root < n → ss ! root ≡ k → Started n ss ls k w root
  trying_start lt e =
      let K = Q.calm in
      record {
        lent = Q.lent;
        closed = Q.closed;
        calm = record {
          small = K.small;
          either = λ v u r. K.either v u r.is;
          four = λ v u r. K.four v u r.is;
          fresh = λ v u r. K.fresh v u r.is;
          closed = λ x u r. K.closed x u r.is;
          exact = λ x u r. K.exact x u r.is;
        };
        root_lt = lt;
        root_in = e;
      }

  -- what a search from root leaves: root's pieces are finished, and the others as they were
  module _ {w' : List ℕ} (S : Searched n ss ls k w root w') where
    kept : (x : ℕ) → x < n → part n 0 w ! x ≡ finished_mark → part n 0 w' ! x ≡ finished_mark
    kept x lt e = ⊎_elim (λ r. S.visited.all x lt r) (λ s. s.0 ∙ e) (S.visited.others.same x lt)

    calm_on : Calm g (Of ss k) (part n 0 w') (part n n w') (part n (2 * n) w')
    calm_on =
        let K = Q.calm in
        let found = S.visited.calm in
        let same = S.visited.others.same in
        record {
          small = K.small;
          either = λ v lt i.
              ⊎_elim (λ r. found.either v lt r) (λ s. ⊎_elim (λ z. inl (s.0 ∙ z)) (λ f. inr (s.0 ∙ f)) (K.either v lt i)) (same v lt);
          four = λ v lt i. ⊎_elim (λ r. found.four v lt r) (λ s. omega (arith, s.1, K.four v lt i)) (same v lt);
          fresh = λ v lt i z. ⊎_elim (λ r. found.fresh v lt r z) (λ s. s.1 ∙ K.fresh v lt i (sym s.0 ∙ z)) (same v lt);
          closed = λ x lt i e j u v c.
              ⊎_elim (λ r. found.closed x lt r e j u v c) (λ s. kept (g.at x j) v (K.closed x lt i (sym s.0 ∙ e) j u v c)) (same x lt);
          exact = λ x lt i e.
              ⊎_elim
              (λ r. found.exact x lt r e)
              (λ s. subst (λ (l : ℕ). Leads g x l) (sym s.2) (K.exact x lt i (sym s.0 ∙ e)))
              (same x lt);
        }

    -- a piece of the class, searched from
    pub trying-more : root < n → ss ! root ≡ k → length w' ≡ length w → Trying n ss ls k w₀ w' (root + 1)
    trying-more lt e len = record {
      le = omega arith;
      len = len ∙ Q.len;
      lent = record { most = Q.lent.most; states_n = Q.lent.states_n; links_n = Q.lent.links_n; work_n = omega (arith, len, Q.lent.work_n) };
      closed = Q.closed;
      calm = calm_on;
      outside = λ x u f. ⊎_elim (λ r. absurd (f r.is)) (λ s. s.0 ∙ Q.outside x u f) (S.visited.others.same x u);
      done = λ x u c.
          ⊎_elim
          (λ h. kept x (omega arith) (Q.done x h c))
          (λ h.
          let q : root ≡ x = omega arith in
          subst (λ (m : ℕ). part n 0 w' ! m ≡ finished_mark) q (S.visited.all root lt (record { is = e; way = here })))
          (lt_or x root);
      tail_same = S.tail_same ∙ Q.tail_same;
    }

  -- any other piece, passed
  pub trying_pass : root < n → (ss ! root ≡ k → ⊥) → Trying n ss ls k w₀ w (root + 1)
  trying_pass lt f = record {
    le = omega arith;
    len = Q.len;
    lent = Q.lent;
    closed = Q.closed;
    calm = Q.calm;
    outside = Q.outside;
    done = λ x u c.
        ⊎_elim
        (λ h. Q.done x h c)
        (λ h. let q : x ≡ root = omega arith in absurd (f (sym (ap (λ (m : ℕ). ss ! m) q) ∙ c)))
        (lt_or x root);
    tail_same = Q.tail_same;
  }

  pub trying-all : n ≤ root → Grouped n ls (Of ss k) w₀ w
  trying-all le =
      let all : (x : ℕ) → x < n → ss ! x ≡ k → part n 0 w ! x ≡ finished_mark = λ x lt c. Q.done x (omega arith) c in
      record {
        all = λ x lt c. sym (marks_get n w x lt) ∙ all x lt c;
        «only» = λ x lt e.
            ⊎_elim (λ c. c) (λ f. absurd (omega (arith, e, marks_get n w x lt, Q.outside x lt f))) (eq_or (ss ! x) k);
        either = λ x lt.
            ⊎_elim
            (λ c. inr (sym (marks_get n w x lt) ∙ all x lt c))
            (λ f. inl (sym (marks_get n w x lt) ∙ Q.outside x lt f))
            (eq_or (ss ! x) k);
        leads = λ x lt c. lead_get n ls w lt (Q.calm.exact x lt c (all x lt c));
        size = Q.len;
        later = sym (tail_is n w) ∙ Q.tail_same ∙ tail_is n w₀;
      }

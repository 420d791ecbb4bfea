-- From one search to what the callers are told: a search from one root.
use Rattle.std.specs.Prelude.{◌≡◌, List, ℕ, ◌+◌, ◌*◌, ◌<◌, length}
use Rattle.std.proofs.Common.{sym, ◌∙◌, subst, inl, arith}
use Rattle.rules.specs.Lists.{◌!◌}
use Rattle.paths.specs.Ground.{ground, Lead, Reached, link_in}
use Rattle.paths.specs.Search.{Calm}
use Rattle.groups.specs.Layout.{part, tail_is, part_get, marks_get}
use Rattle.groups.specs.Steps.{Lent, Started, Searched}
use Rattle.groups.specs.Grouped.{Visitable, Led, ReachedFrom}

-- a leader of the regions, as it stands in the work
pub lead_get : (n : ℕ) (ls w : List ℕ) {x : ℕ} → x < n → Lead n (link_in ls) x (part n (2 * n) w ! x) → Lead n (link_in ls) x (w ! (2 * n + x))
lead_get n ls w {x} lt = subst (λ (l : ℕ). Lead n (link_in ls) x l) (part_get n (2 * n) w x lt)

-- where the marks and the next places are 0, all pieces are unseen
pub unseen : {n : ℕ} {ss ls : List ℕ} {k : ℕ} {P : ℕ → Type 0} {w : List ℕ} → Lent n ss ls w → ((x : ℕ) → x < n → P x → (w ! x ≡ 0) × (w ! (n + x) ≡ 0))
    → Calm (ground n ss ls k) P (part n 0 w) (part n n w) (part n (2 * n) w)
unseen {n} {P = P} {w} lent zeros =
    let zero-mark : (x : ℕ) → x < n → P x → part n 0 w ! x ≡ 0 = λ x lt r. marks_get n w x lt ∙ (zeros x lt r).0 in
    let zero-next : (x : ℕ) → x < n → P x → part n n w ! x ≡ 0 = λ x lt r. part_get n n w x lt ∙ (zeros x lt r).1 in
    record {
      small = lent.most;
      either = λ v lt r. inl (zero-mark v lt r);
      four = λ v lt r. omega (arith, zero-next v lt r);
      fresh = λ v lt r e. zero-next v lt r;
      closed = λ x lt r e. absurd (omega (arith, zero-mark x lt r));
      exact = λ x lt r e. absurd (omega (arith, zero-mark x lt r));
    }

module _ {n : ℕ} {ss ls : List ℕ} {k : ℕ} {w : List ℕ} {root : ℕ} (R : Visitable n ss ls k w root) where
  pub search_start : Started n ss ls k w root
  search_start = record {
    lent = R.lent;
    closed = R.closed;
    calm = unseen R.lent (λ x lt r. R.zeros x lt (r.is, r.way));
    root_lt = R.root_lt;
    root_in = R.root_in;
  }

  -- what one search leaves
  pub search_end : {w' : List ℕ} → length w' ≡ length w → Searched n ss ls k w root w' → Led n ls (ReachedFrom n ss ls k root) w w'
  search_end {w'} len S =
      let W = S.visited in
      record {
        leads = λ x lt r.
            let x-in : Reached (ground n ss ls k) root x = record { is = r.0; way = r.1 } in
            lead_get n ls w' lt (W.calm.exact x lt x-in (W.all x lt x-in));
        size = len;
        later = sym (tail_is n w') ∙ S.tail_same ∙ tail_is n w;
      }

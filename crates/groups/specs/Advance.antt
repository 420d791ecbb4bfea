-- The places of pieces are explored one by one, until a piece has none left.
use Rattle.std.specs.Prelude.{◌≡◌, refl, List, ℕ, zero, suc, ◌+◌, ◌-◌, ◌*◌, ◌≤◌, ◌<◌, length}
use Rattle.std.proofs.Common.{sym, ◌∙◌, subst, arith}
use Rattle.rules.specs.Lists.{◌!◌}
use Rattle.groups.specs.Steps.{UnderWay, Progressed, Followed, Came, Advanced, Ending}
use Rattle.groups.specs.Explore.{next_place, entered, place_le, step_other}
use Rattle.groups.specs.declared.At.{At}

-- where the search stands, by its numbers
abbrev pub at : ℕ → ℕ → ℕ → ℕ → ℕ → At
at size blocks stand piece place = record { size = size; blocks = blocks; stand = stand; piece = piece; place = place }

came-none : {n : ℕ} {ss ls : List ℕ} {k : ℕ} {w : List ℕ} {a : At} → Came n ss ls k w a w a
came-none = record { len = refl; stands = λ old root S. S; most = omega arith; tail_same = refl }

module _ {n : ℕ} {ss ls : List ℕ} {k : ℕ} {w : List ℕ} {a : At} {w₁ : List ℕ} {b : At} (P : Came n ss ls k w a w₁ b) where
  pub came_going : UnderWay n ss ls k w a → 0 < b.size → UnderWay n ss ls k w₁ b
  came_going G live = record {
    lent = record { most = G.lent.most; states_n = G.lent.states_n; links_n = G.lent.links_n; work_n = omega (arith, P.len, G.lent.work_n) };
    live = live;
    old = G.old;
    root = G.root;
    stands = P.stands G.old G.root G.stands;
  }

  pub came_then : {w₂ : List ℕ} {d : At} → Progressed n ss ls k w₁ b w₂ d → Progressed n ss ls k w a w₂ d
  came_then T = record { stands = λ old root S. T.stands old root (P.stands old root S); less = omega (arith, P.most, T.less); tail_same = T.tail_same ∙ P.tail_same }

  came_on : {w₂ : List ℕ} {d : At} → Came n ss ls k w₁ b w₂ d → Came n ss ls k w a w₂ d
  came_on Q = record {
    len = Q.len ∙ P.len;
    stands = λ old root S. Q.stands old root (P.stands old root S);
    most = omega (arith, P.most, Q.most);
    tail_same = Q.tail_same ∙ P.tail_same;
  }

  came-more : {w₂ : List ℕ} {d : At} → length w₂ ≡ length w₁ → Progressed n ss ls k w₁ b w₂ d → Came n ss ls k w a w₂ d
  came-more len T = came_on (record { len = len; stands = T.stands; most = omega (arith, T.less); tail_same = T.tail_same })

-- the places left name no piece
came-rest : {n : ℕ} {ss ls : List ℕ} {k : ℕ} {w : List ℕ} (m : ℕ) {a : At} → UnderWay n ss ls k w a → a.place + m ≡ 4
    → ((j : ℕ) → a.place ≤ j → j < 4 → n ≤ ls ! (4 * a.piece + j)) → Came n ss ls k w a w (at a.size a.blocks a.stand a.piece 4)
came-rest {n} {ss} {ls} {k} {w} zero {a} G e h =
    let z : a.place ≡ 4 = omega arith in
    subst (λ (j : ℕ). Came n ss ls k w a w (at a.size a.blocks a.stand a.piece j)) z came-none
came-rest {n} {ss} {ls} {k} {w} (suc m) {a} G e h =
    let P : Came n ss ls k w a w (next_place a a.blocks) = came-more came-none refl (step_other G (omega arith) (λ lt i. omega (arith, h a.place (omega arith) (omega arith)))) in
    came_on P (came-rest m (came_going P G G.live) (omega arith) (λ j l u. h j (omega arith) u))

-- ---- one place

pub passed : {n : ℕ} {ss ls : List ℕ} {k : ℕ} {w : List ℕ} {a : At} {w₁ : List ℕ} {left : ℕ} → UnderWay n ss ls k w a
    → Progressed n ss ls k w a w₁ (next_place a left) → Followed n ss ls k w a w₁ (next_place a left)
passed G T = record { progressed = T; live = G.live; same = λ f. refl }

pub pushed : {n : ℕ} {ss ls : List ℕ} {k : ℕ} {w : List ℕ} {a : At} {w₁ : List ℕ} {y : ℕ} {d : At} → d ≡ entered a y → Progressed n ss ls k w a w₁ (entered a y)
    → Followed n ss ls k w a w₁ d
pushed {n} {ss} {ls} {k} {w} {a} {w₁} e T =
    subst (λ (x : At). Followed n ss ls k w a w₁ x) (sym e) (record { progressed = T; live = omega arith; same = λ f. absurd (f refl) })

-- ---- the loop: where it stands, with no piece named from place `end` on

pub record Exploring (n : ℕ) (ss ls : List ℕ) (k : ℕ) (w : List ℕ) (a : At) (w₁ : List ℕ) (b : At) (end : ℕ) : Type 0 where
  pub came : Came n ss ls k w a w₁ b
  pub live : 0 < b.size
  pub ending : Ending ls b.piece end

module _ {n : ℕ} {ss ls : List ℕ} {k : ℕ} {w : List ℕ} {a : At} (G : UnderWay n ss ls k w a) where
  module _ {w₁ : List ℕ} {b : At} {end : ℕ} (X : Exploring n ss ls k w a w₁ b end) where
    pub exploring_going : UnderWay n ss ls k w₁ b
    exploring_going = came_going X.came G X.live

    -- a place more is explored
    pub exploring_on : {w₂ : List ℕ} {d : At} {end' : ℕ} → length w₂ ≡ length w₁ → Followed n ss ls k w₁ b w₂ d → Ending ls d.piece end' → Exploring n ss ls k w a w₂ d end'
    exploring_on len F e = record { came = came-more X.came len F.progressed; live = F.live; ending = e }

    pub exploring_all : end ≤ b.place → Advanced n ss ls k w a w₁ (at b.size b.blocks b.stand b.piece 4)
    exploring_all le =
        let H = exploring_going in
        record {
          came = came_on X.came (came-rest (4 - b.place) H (omega (arith, place_le H)) (λ j l u. omega (arith, X.ending.empty j (omega arith) u, G.lent.most)));
          four = refl;
          live = X.live;
        }

-- ---- what the four links at once show

pub ending_four : {ls : List ℕ} {p : ℕ} → Ending ls p 4
ending_four = record { few = omega arith; empty = λ j l u. absurd (omega arith) }

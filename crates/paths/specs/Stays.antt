-- What is finished stays finished along every way that comes back to the class.
use Rattle.std.specs.Prelude.{◌≡◌, List, ℕ, ◌<◌}
use Rattle.std.proofs.Common.{subst, ⊎_elim}
use Rattle.rules.specs.Reach.{here, chain}
use Rattle.rules.specs.Lists.{◌!◌}
use Rattle.laws.specs.Words.{trans}
use Rattle.laws.specs.Numbers.{eq_or}
use Rattle.paths.specs.Ground.{Ground, Way, OneWay, Reached, one_step}
use Rattle.paths.specs.Search.{finished_mark, MarksClosed}

pub kept_in : {g : Ground} {root : ℕ} (marks : List ℕ) → OneWay g → MarksClosed g (Reached g root) marks → {x y w : ℕ} → g.state w ≡ g.class → Way g x y → Way g y w → x < g.n
    → Reached g root x → marks ! x ≡ finished_mark → (y < g.n) × Reached g root y × (marks ! y ≡ finished_mark)
kept_in marks C cl w-in here r lt cx e = (lt, cx, e)
kept_in {g} marks C cl w-in (chain {p = x} {q = z} l p) r lt cx e =
    ⊎_elim
    (λ cz.
    let next = subst (λ (m : ℕ). m < g.n → g.state m ≡ g.class → marks ! m ≡ finished_mark) l.names (cl x l.from cx e l.place l.inside) in
    kept_in marks C cl w-in p r l.to (record { is = cz; way = trans cx.way (one_step l) }) (next l.to cz))
    (λ f. absurd (C.stays cx.is l f w-in (trans p r)))
    (eq_or (g.state z) g.class)

-- `register::find` meets its contract: the pair stands behind the first line, and behind those of which the test holds.
use Rattle.std.proofs.Common.{◌≡◌, [], ◌-◌, ◌∙◌, ap, rules, arith}
use Rattle.std.proofs.lemmas.Fn.{always_returns_same}
use Rattle.register.specs.Halved.{first_told, some_pair, fronts_pair}
use Rattle.register.specs.Lines.{up_to}
use Rattle.register.proofs.find.Goals as goal

pub returns : goal.returns
returns c =
    let last = c.order_of-pair.result - 1 in
    let told = first_told c.requires _ _ c.is_before.ensures (c.lines.ensures.at 0 [] (omega arith)) c.order_of-pair.ensures ∙ c.if-not-is_before.false in
    let said = c.point.ensures.said (λ x. up_to x last) (always_returns_same _ (λ a r. r ≡ up_to a.0.now last) _ (λ a r f' k. search rules)) (fronts_pair c.requires last) in
    some_pair c.requires _ _ last told (ap (λ k. k - 1) c.order_of-pair.ensures) said

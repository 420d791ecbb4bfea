-- `register::used` meets its contract: none is used, or the first and those behind it of which the test holds.
use Rattle.std.proofs.Common.{◌≡◌, rules}
use Rattle.std.proofs.lemmas.Fn.{always_returns_same}
use Rattle.register.specs.Halved.{in_use, none_used, some_used, fronts_used}
use Rattle.rules.specs.Register.{number_at}
use Rattle.register.proofs.used.Goals as goal

pub returns-then-register-eq0 : goal.returns-then-register-eq0
unfolding number_at
returns-then-register-eq0 c = none_used c.requires c.if-register-eq0.true

pub returns : goal.returns
unfolding number_at
returns c =
    let same = always_returns_same _ (λ a r. r ≡ in_use a.0.now) _ (λ a r f' k. search rules) in
    some_used c.requires c.if-register-eq0.false (c.point.ensures.said in_use same (fronts_used c.requires))

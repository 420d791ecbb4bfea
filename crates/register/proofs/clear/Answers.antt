-- `register::clear` meets its contract: a register filled with zeros is the empty one.
use Rattle.std.proofs.Common.{ℕ, ap, ◌∙◌, replicate}
use Rattle.register.proofs.clear.Goals as goal

pub returns : goal.returns
returns c = c.fill.ensures.after (λ y e. e) ∙ ap (λ (k : ℕ). replicate {A = ℕ} k 0) c.requires

-- Bytes written at the place of a page: they stand there, the place is behind them, and the page is on the same bytes.
use Rattle.std.specs.Prelude.{◌≡◌, List, ◌++◌, ℕ, length}
use Rattle.std.proofs.Common.{◌∙◌}
use Rattle.answers.specs.declared.Page.{Page}
use Rattle.answers.specs.Wrote.{Wrote}
use Rattle.answers.specs.Writes.{then}

pub record Puts (bytes : List ℕ) (before after : Page) : Type 0 where
  pub wrote : Wrote before.out.now before.at bytes after.out.now after.at
  pub same : after.out.ghost_name ≡ before.out.ghost_name
  pub long : length after.out.now ≡ length before.out.now

-- what is put after something else stands after it
pub also : {a b c : Page} {xs ys : List ℕ} → Puts xs a b → Puts ys b c → Puts (xs ++ ys) a c
also p q = record { wrote = then p.wrote q.wrote; same = q.same ∙ p.same; long = q.long ∙ p.long }

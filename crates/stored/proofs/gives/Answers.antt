-- `stored::gives` says whether the rules give the output for the trace.
use Rattle.std.proofs.Common.{sym, ap, ◌∙◌, length, arith}
use Rattle.std.proofs.lemmas.Bool.{eqb-true}
use Rattle.std.proofs.lemmas.Bool.Decides.{Decides-eqb}
use Rattle.std.proofs.lemmas.Slice.Eq.{slice_eq-Decides}
use Rattle.stored.specs.Fitting.{fits_just, just_fits}
use Rattle.stored.proofs.gives.Goals as goal

pub returns-then-size-output : goal.returns-then-size-output
returns-then-size-output c =
    let lent = c.lent_trace-size.ensures in
    let same = slice_eq-Decides Decides-eqb _ _ _ c.eq.ensures in (
      λ x. fits_just _ _ lent (omega arith) (c.if-size-output.true ∙ sym c.requires) ∙ same.0 x,
      λ h t. same.1 ((just_fits _ _ lent h (ap length t ∙ sym c.requires)).1 ∙ t),
    )

pub returns-else-size-output : goal.returns-else-size-output
returns-else-size-output c =
    let lent = c.lent_trace-size.ensures in (
      λ x. absurd (c.if-size-output.false (eqb-true _ _ x)),
      λ h t. absurd (c.if-size-output.false ((just_fits _ _ lent h (ap length t ∙ sym c.requires)).0 ∙ c.requires)),
    )

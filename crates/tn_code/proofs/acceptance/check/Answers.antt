use Rattle.std.proofs.Common.{sym, ap, ◌∙◌}
use Rattle.def_machine.specs.Acceptance.{is_checked}
use Rattle.def_machine.proofs.CheckedCode.{checked_code_is_valid}
use Rattle.tn_code.specs.Views.{instructions_of}
use Rattle.tn_code.proofs.acceptance.check.Goals as goal

pub of-requires : goal.of-requires
of-requires g c =
    checked_code_is_valid (instructions_of c.args.items.items)
    (ap (λ v. is_checked (instructions_of v)) (sym c.as_slice.ensures.value) ∙ sym c.if-is_checked.ensures)

use Rattle.std.proofs.Common.{◌∙◌, sym, ap, Some}
use Rattle.def_explain.specs.Heads.{of_mismatch}
use Rattle.tn_guard.specs.Views.{parts_list}
use Rattle.tn_mismatch.specs.Views.{mismatches_seen}
use Rattle.tn_verdict.proofs.Steps.{head-by-place}
use Rattle.tn_verdict.proofs.heads.head_reason.Goals as goal

pub returns-in-Some : goal.returns-in-Some
returns-in-Some g c =
    ap Some c.reason_by_place.ensures ∙ ap (λ m. of_mismatch (mismatches_seen m)) (sym c.in-Some.is)
    ∙ ap of_mismatch c.in_ok-mismatch.ensures ∙ sym (head-by-place c.args.head.now (parts_list c.args.list))

pub returns-in-None : goal.returns-in-None
returns-in-None g c =
    ap (λ m. of_mismatch (mismatches_seen m)) (sym c.in-None.is)
    ∙ ap of_mismatch c.in_ok-mismatch.ensures ∙ sym (head-by-place c.args.head.now (parts_list c.args.list))

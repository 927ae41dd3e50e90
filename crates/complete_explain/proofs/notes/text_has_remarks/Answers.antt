use Rattle.std.proofs.Common.{◌≡◌}
use Rattle.def_explain.specs.Remarks.{has_remarks}
use Rattle.tn_run.specs.Jobs.{OfScript}
use Rattle.complete_explain.proofs.OneNote.{remarked_of_one_text, if_both}
use Rattle.complete_explain.proofs.notes.text_has_remarks.Goals as goal

pub returns : goal.returns
returns g c =
    let bytes = c.args.text.now in
    let picks = c.args.picks.now in
    if_both c.text_has_remarks.result c.text_has_remarks-2.result (λ b. OfScript bytes (λ p. b ≡ has_remarks p picks)) (λ b. OfScript bytes (λ p. b ≡ has_remarks p picks)) (λ b d. b ≡ d)
    (λ b d h i. remarked_of_one_text bytes picks b d h i) c.text_has_remarks.ensures c.text_has_remarks-2.ensures

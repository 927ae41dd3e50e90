use Rattle.std.proofs.Common.{◌≡◌}
use Rattle.def_explain.specs.Remarks.{remarks}
use Rattle.tn_run.specs.Jobs.{OfScript}
use Rattle.tn_replay.specs.RemarkLines.{AreRemarkLines}
use Rattle.complete_explain.proofs.OneNote.{lines_of_one_text, if_both}
use Rattle.complete_explain.proofs.notes.remark_lines.Goals as goal

pub returns : goal.returns
returns g c = λ l.
    let name = c.args.name.now in
    let bytes = c.args.text.now in
    let picks = c.args.picks.now in
    if_both c.remark_lines.result c.remark_lines-2.result (λ v. OfScript bytes (λ p. AreRemarkLines name bytes (remarks p picks) v.items)) (λ v. OfScript bytes (λ p. AreRemarkLines name bytes (remarks p picks) v.items)) (λ v w. v.items ≡ w.items)
    (λ v w h i. lines_of_one_text name bytes (λ p. remarks p picks) v.items w.items h i l) c.remark_lines.ensures c.remark_lines-2.ensures

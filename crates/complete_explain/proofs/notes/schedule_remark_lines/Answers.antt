use Rattle.std.proofs.Common.{◌≡◌}
use Rattle.def_explain.specs.Remarks.{remarks}
use Rattle.tn_moves.specs.Schedules.{OfPicks, schedule_seen}
use Rattle.tn_run.specs.Jobs.{OfScript}
use Rattle.tn_replay.specs.RemarkLines.{AreRemarkLines}
use Rattle.complete_explain.proofs.OneNote.{lines_of_one_schedule, if_both}
use Rattle.complete_explain.proofs.notes.schedule_remark_lines.Goals as goal

pub returns : goal.returns
returns g c = λ l.
    let name = c.args.name.now in
    let bytes = c.args.text.now in
    let a = schedule_seen c.args.schedule.now in
    if_both c.schedule_remark_lines.result c.schedule_remark_lines-2.result (λ v. OfScript bytes (λ p. OfPicks a p (λ picks. AreRemarkLines name bytes (remarks p picks) v.items)))
    (λ v. OfScript bytes (λ p. OfPicks a p (λ picks. AreRemarkLines name bytes (remarks p picks) v.items))) (λ v w. v.items ≡ w.items)
    (λ v w h i. lines_of_one_schedule name bytes a v.items w.items h i l) c.schedule_remark_lines.ensures c.schedule_remark_lines-2.ensures

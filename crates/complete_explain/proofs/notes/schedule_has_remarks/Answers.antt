use Rattle.std.proofs.Common.{◌≡◌}
use Rattle.def_explain.specs.Remarks.{has_remarks}
use Rattle.tn_moves.specs.Schedules.{OfPicks, schedule_seen}
use Rattle.tn_run.specs.Jobs.{OfScript}
use Rattle.complete_explain.proofs.OneNote.{remarked_of_one_schedule, if_both}
use Rattle.complete_explain.proofs.notes.schedule_has_remarks.Goals as goal

pub returns : goal.returns
returns g c =
    let bytes = c.args.text.now in
    let a = schedule_seen c.args.schedule.now in
    if_both c.schedule_has_remarks.result c.schedule_has_remarks-2.result (λ b. OfScript bytes (λ p. OfPicks a p (λ picks. b ≡ has_remarks p picks))) (λ b. OfScript bytes (λ p. OfPicks a p (λ picks. b ≡ has_remarks p picks))) (λ b d. b ≡ d)
    (λ b d h i. remarked_of_one_schedule bytes a b d h i) c.schedule_has_remarks.ensures c.schedule_has_remarks-2.ensures

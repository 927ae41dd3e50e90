use Rattle.std.proofs.Common.{◌≡◌}
use Rattle.tn_moves.specs.Schedules.{IsSpelledBy, schedule_seen}
use Rattle.complete_explain.proofs.OneNote.{if_both}
use Rattle.complete_command.proofs.SameMoves.{one_spelled}
use Rattle.complete_command.proofs.moves.picks_of_text.Goals as goal

pub returns : goal.returns
returns g c =
    let a = schedule_seen c.args.schedule.now in
    if_both c.picks_of_text.result c.picks_of_text-2.result (λ v. IsSpelledBy a v.items) (λ v. IsSpelledBy a v.items) (λ v w. v.items ≡ w.items) (λ v w h i. one_spelled a v.items w.items h i) c.picks_of_text.ensures.picks c.picks_of_text-2.ensures.picks

use Rattle.std.proofs.Common.{◌∙◌, ◌<◌, ◌≤◌, ap, subst}
use Rattle.def_run.specs.Run.{moves}
use Rattle.tn_program.specs.Views.{program_of}
use Rattle.tn_trace.specs.Bounds.{HasMoreBytes}
use Rattle.tn_trace.specs.Items.{AreTexts}
use Rattle.tn_trace.specs.Recorders.{HasRecorded, HandsOutAnswer}
use Rattle.tn_trace.specs.Transcripts.{transcript_of}
use Rattle.tn_trace.specs.declared.bound.MostBytes.{MostBytes}
use Rattle.tn_trace.proofs.Bounds.{few_at_start}
use Rattle.tn_trace.proofs.ListingBytes.{bytes_again}
use Rattle.tn_trace.proofs.TranscriptLemmas.{transcript_again}
use Rattle.tn_moves.specs.Plans.{plan_picks}
use Rattle.tn_moves.specs.Drives.{IsDriven}
use Rattle.tn_moves.proofs.Drives.{lines_fit, lines_too_long}
use Rattle.tn_moves.proofs.transcript.transcript_of_plan.Goals as goal

pub drive_within-requires-clause-few : goal.drive_within-requires-clause-few
drive_within-requires-clause-few g c = few_at_start (program_of c.args.program.now) (record { bytes = c.args.most }) c.in-Ok.recorder c.in-Ok.ensures

pub returns-in-Ok-default-All-clause-run : goal.returns-in-Ok-default-All-clause-run
returns-in-Ok-default-All-clause-run g c =
    let p = program_of c.args.program.now in
    let picks = plan_picks p c.args.plan.now in
    let made = moves p picks in
    let adds = HandsOutAnswer (λ _ _. Unit {0}) in
    let exceeds = HasMoreBytes (record { bytes = c.args.most }) in
    let of = IsDriven (HasRecorded AreTexts) adds exceeds p made c.in-Ok.recorder c.in-Ok-default-All.run' c.new-given.result c.drive_within.new.out in
    let d = subst of c.in-Ok-default-All.field-0-1-is c.in-Ok-default-All.ensures.driven in
    c.of_run.ensures p d.limit d.front d.run ∙ ap (transcript_of p) d.taken ∙ transcript_again p picks

pub returns-in-Ok-default-All-clause-within : goal.returns-in-Ok-default-All-clause-within
returns-in-Ok-default-All-clause-within g c =
    let p = program_of c.args.program.now in
    let picks = plan_picks p c.args.plan.now in
    let made = moves p picks in
    let adds = HandsOutAnswer (λ _ _. Unit {0}) in
    let bound : MostBytes = record { bytes = c.args.most } in
    let run = c.in-Ok-default-All.run' in
    let of = IsDriven (HasRecorded AreTexts) adds (HasMoreBytes bound) p made c.in-Ok.recorder run c.new-given.result c.drive_within.new.out in
    subst (λ n. n ≤ c.args.most) (bytes_again p picks) (lines_fit adds p made bound c.in-Ok.recorder run c.new-given.result c.drive_within.new.out (subst of c.in-Ok-default-All.field-0-1-is c.in-Ok-default-All.ensures.driven))

pub returns-in-Ok-default-TooMuch-clause-long : goal.returns-in-Ok-default-TooMuch-clause-long
returns-in-Ok-default-TooMuch-clause-long g c = λ is.
    let p = program_of c.args.program.now in
    let picks = plan_picks p c.args.plan.now in
    let made = moves p picks in
    let adds = HandsOutAnswer (λ _ _. Unit {0}) in
    let bound : MostBytes = record { bytes = c.args.most } in
    let run = c.in-Ok-default-TooMuch.field-0-0 in
    let of = IsDriven (HasRecorded AreTexts) adds (HasMoreBytes bound) p made c.in-Ok.recorder run c.new-given.result c.drive_within.new.out in
    subst (λ n. c.args.most < n) (bytes_again p picks) (lines_too_long adds p made bound c.in-Ok.recorder run c.new-given.result c.drive_within.new.out (subst of c.in-Ok-default-TooMuch.field-0-1-is c.in-Ok-default-TooMuch.ensures.driven))

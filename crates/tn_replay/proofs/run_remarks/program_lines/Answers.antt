use Rattle.std.proofs.Common.{◌∙◌, ◌++◌, ap, subst}
use Rattle.tn_program.specs.Views.{program_of}
use Rattle.tn_remark.specs.TextLines.{lines_of_texts, texts_seen}
use Rattle.tn_replay.specs.CommandStarts.{AreCommandStarts}
use Rattle.tn_replay.proofs.Remarks.{lines_are}
use Rattle.tn_replay.proofs.run_remarks.program_lines.Goals as goal

pub returns : goal.returns
returns g c =
    let name = c.args.name.now in
    let text = c.args.text.now in
    let starts = c.in-Some.starts.items in
    let first = c.new-out.result.items in
    let ts = texts_seen c.in_ok-texts.texts.items in
    lines_are name text starts first c.put_lines.new.out.items ts (program_of c.args.program.now) c.args.picks.now c.front_of_picks.result.now c.front_of_picks.ensures c.new-out.ensures.items
    (c.in_ok-put_lines.ensures ∙ ap (λ b. first ++ lines_of_texts name text b 0 ts) c.deref.ensures.value) c.in_ok-texts.ensures
    (subst (AreCommandStarts text) c.in-Some.is c.in_ok-starts.ensures)

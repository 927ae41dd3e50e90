use Rattle.std.proofs.Common.{◌∙◌, ap}
use Rattle.def_explain.specs.Remarks.{is_some_remark}
use Rattle.tn_program.specs.Views.{program_of}
use Rattle.tn_replay.proofs.Remarks.{front_has}
use Rattle.tn_replay.proofs.run_remarks.text_has_remarks.Goals as goal

pub returns-in-Ok : goal.returns-in-Ok
returns-in-Ok g c =
    let p = program_of c.in_ok-program.program in
    record {
      program = p;
      accepted = c.in_ok-program.ensures;
      output = c.in-Ok.ensures ∙ ap is_some_remark (front_has p c.args.picks.now c.front_of_picks.result.now c.front_of_picks.ensures);
    }

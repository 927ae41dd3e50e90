use Rattle.std.proofs.Common.{◌∙◌, ap}
use Rattle.def_explain.specs.Remarks.{is_some_remark, remarks}
use Rattle.def_explain.proofs.Remarks.{moves_have_the_remarks}
use Rattle.tn_program.specs.Views.{program_of}
use Rattle.tn_replay.proofs.Remarks.{front_has}
use Rattle.tn_replay.proofs.run_remarks.schedule_has_remarks.Goals as goal

pub returns-in-Ok : goal.returns-in-Ok
returns-in-Ok g c =
    let p = program_of c.in_ok-program.program in
    let m = c.in_ok-picks.ensures in
    record {
      program = p;
      accepted = c.in_ok-program.ensures;
      output = record {
        picks = m.picks;
        given = m.given;
        so =
            c.in-Ok.ensures ∙ ap is_some_remark (front_has p c.deref.result.now c.front_of_picks.result.now c.front_of_picks.ensures)
            ∙ ap is_some_remark (ap (remarks p) (c.deref.ensures.value ∙ m.moved) ∙ moves_have_the_remarks p m.picks);
      };
    }

use Rattle.std.proofs.Common.{◌∙◌, ap, subst}
use Rattle.def_explain.specs.Remarks.{remarks}
use Rattle.def_explain.proofs.Remarks.{moves_have_the_remarks}
use Rattle.tn_program.specs.Views.{program_of}
use Rattle.tn_replay.specs.RemarkLines.{AreRemarkLines}
use Rattle.tn_replay.proofs.run_remarks.schedule_remark_lines.Goals as goal

pub returns-in-Ok : goal.returns-in-Ok
returns-in-Ok g c =
    let p = program_of c.in_ok-program.program in
    let m = c.in_ok-picks.ensures in
    record {
      program = p;
      accepted = c.in_ok-program.ensures;
      output = record {
        picks = m.picks;
        given = m.given;
        so = subst (λ rs. AreRemarkLines c.args.name.now c.args.text.now rs c.in-Ok.lines.items) (ap (remarks p) (c.deref.ensures.value ∙ m.moved) ∙ moves_have_the_remarks p m.picks) c.in-Ok.ensures;
      };
    }

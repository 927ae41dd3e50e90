use Rattle.std.proofs.Common.{◌≡◌, ◌∙◌, ◌≤◌, length, ap, arith}
use Rattle.def_run.specs.Run.{moves}
use Rattle.tn_moves.specs.Plans.{plan_picks}
use Rattle.tn_program.specs.Views.{program_of}
use Rattle.tn_state.specs.Requests.{asked_name}
use Rattle.tn_state.proofs.Fronts.{front_state}
use Rattle.tn_state.proofs.answers.state_of.Goals as goal

pub returns : goal.returns
returns g c =
    let p = program_of c.args.program.now in
    let q = c.args.question.now in
    let picks = plan_picks p c.args.plan.now in
    let journal : c.deref.result.now ≡ moves p picks = c.deref.ensures.value ∙ c.in_ok-journal.ensures in
    let many = ap length journal in
    let there : q.move_number ≤ length (moves p picks) = omega (arith, c.if-question-len.false, many, c.len.ensures, c.deref.ensures.len) in
    (c.lacks_session.ensures.has c.if-lacks_session.false, there, front_state (asked_name q) p picks c.deref.result.now q.move_number c.new-out.result.items c.put_state.new.out.items journal c.new-out.ensures.items c.in_ok-put_state.ensures)

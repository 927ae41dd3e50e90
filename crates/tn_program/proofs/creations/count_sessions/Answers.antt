use Rattle.std.proofs.Common.{◌+◌, ◌≤◌, length, map, drop, ap, ◌∙◌, arith}
use Rattle.std.proofs.lemmas.List.{drop_all}
use Rattle.def_script.specs.Rules.{is_creation}
use Rattle.def_script.specs.Script.{creations}
use Rattle.tn_flags.specs.Views.{command_of}
use Rattle.tn_program.proofs.CreatedSessions.{creations_at, one_counted, weighs_little}
use Rattle.tn_program.proofs.creations.count_sessions.Goals as goal

pub overflow_add-count : goal.overflow_add-count
overflow_add-count g c =
    let little : c.weight-count.result ≤ 1 = weighs_little (is_creation ((command_of {A = g.row.A.Denot}) c.command-item.result)) c.weight-count.result c.weight-count.ensures in
    omega arith

pub loop-command-preserved : goal.loop-command-preserved
loop-command-preserved g c =
    let little : c.weight-count.result ≤ 1 = weighs_little (is_creation ((command_of {A = g.row.A.Denot}) c.command-item.result)) c.weight-count.result c.weight-count.ensures in
    let here = ap length (creations_at (command_of {A = g.row.A.Denot}) c.args.commands.now c.loop-command.command-index c.command-item.result c.loop-command-test.true c.command-item.is) ∙ one_counted ((command_of {A = g.row.A.Denot}) c.command-item.result) (map (command_of {A = g.row.A.Denot}) (drop (c.loop-command.command-index + 1) c.args.commands.now)) in
    record { few = omega (arith, little); counted = omega (arith, here, c.weight-count.ensures, c.loop-command.invariant.counted) }

pub returns : goal.returns
returns g c =
    let none = ap (λ ys. length (creations (map (command_of {A = g.row.A.Denot}) ys))) (drop_all c.loop-command.command-index c.args.commands.now c.loop-command-test.false) in
    omega (arith, none, c.loop-command.invariant.counted)

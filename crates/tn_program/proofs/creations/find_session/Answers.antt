use Rattle.std.proofs.Common.{◌+◌, map, drop, slice_get, sym, ap, ◌∙◌, arith}
use Rattle.std.proofs.lemmas.List.{drop_all}
use Rattle.def_script.specs.Script.{creations}
use Rattle.tn_flags.specs.Views.{command_of}
use Rattle.tn_program.proofs.CreatedSessions.{creations_at, found_here, passed_over}
use Rattle.tn_program.proofs.creations.find_session.Goals as goal

pub returns-then-is_found : goal.returns-then-is_found
returns-then-is_found g c =
    c.creation.ensures ∙ found_here ((command_of {A = g.row.A.Denot}) c.command-item.result) (map (command_of {A = g.row.A.Denot}) (drop (c.loop-command.command-index + 1) c.args.commands.now)) c.loop-command.left (sym c.is_found.ensures ∙ c.if-is_found.true)
    ∙ ap (λ cs. slice_get cs c.loop-command.left) (sym (creations_at (command_of {A = g.row.A.Denot}) c.args.commands.now c.loop-command.command-index c.command-item.result c.loop-command-test.true c.command-item.is)) ∙ sym c.loop-command.invariant

pub overflow_sub-left : goal.overflow_sub-left
overflow_sub-left g c = let over = passed_over ((command_of {A = g.row.A.Denot}) c.command-item.result) (map (command_of {A = g.row.A.Denot}) (drop (c.loop-command.command-index + 1) c.args.commands.now)) c.loop-command.left c.weight-left.result c.weight-left.ensures (sym c.is_found.ensures ∙ c.if-is_found.false) in omega (arith, over.0)

pub loop-command-preserved : goal.loop-command-preserved
loop-command-preserved g c = let over = passed_over ((command_of {A = g.row.A.Denot}) c.command-item.result) (map (command_of {A = g.row.A.Denot}) (drop (c.loop-command.command-index + 1) c.args.commands.now)) c.loop-command.left c.weight-left.result c.weight-left.ensures (sym c.is_found.ensures ∙ c.if-is_found.false) in c.loop-command.invariant ∙ ap (λ cs. slice_get cs c.loop-command.left) (creations_at (command_of {A = g.row.A.Denot}) c.args.commands.now c.loop-command.command-index c.command-item.result c.loop-command-test.true c.command-item.is) ∙ over.1

pub returns : goal.returns
returns g c = sym (c.loop-command.invariant ∙ ap (λ ys. slice_get (creations (map (command_of {A = g.row.A.Denot}) ys)) c.loop-command.left) (drop_all c.loop-command.command-index c.args.commands.now c.loop-command-test.false))

use Rattle.std.proofs.Common.{◌≡◌, map, drop}
use Rattle.tn_flags.specs.Views.{command_of}
use Rattle.def_script.specs.Rules.{is_created}
use Rattle.tn_state.proofs.answers.has_session.Given as goal

abbrev pub invariant-loop-command : goal.invariant-loop-command
invariant-loop-command g l = is_created (map (command_of {A = g.row.A.Denot}) l.fn.commands) l.fn.name ≡ is_created (map (command_of {A = g.row.A.Denot}) (drop l.command-index l.fn.commands)) l.fn.name

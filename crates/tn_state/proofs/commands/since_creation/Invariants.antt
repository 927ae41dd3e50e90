use Rattle.std.proofs.Common.{◌≡◌, drop}
use Rattle.def_state.specs.SettingTerms.{after_creation}
use Rattle.tn_state.specs.Commands.{own_commands}
use Rattle.tn_state.proofs.commands.since_creation.Given as goal

abbrev pub invariant-loop-place : goal.invariant-loop-place
invariant-loop-place g l = after_creation (own_commands l.name (drop l.place l.commands)) ≡ after_creation (own_commands l.name l.commands)

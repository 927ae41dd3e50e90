use Rattle.std.proofs.Common.{◌≡◌, drop}
use Rattle.std.specs.Option.{option_map}
use Rattle.def_state.specs.SettingTerms.{newest_from, newest}
use Rattle.tn_state.specs.Commands.{own_commands}
use Rattle.tn_state.specs.NewSettings.{new_setting_seen, new_subject_setting}
use Rattle.tn_state.proofs.settings.newest.Given as goal

abbrev pub invariant-loop-command : goal.invariant-loop-command
invariant-loop-command g l =
    newest_from (new_subject_setting l.subject) (option_map new_setting_seen l.newest) (own_commands l.name (drop l.command-index l.commands)) ≡ newest (new_subject_setting l.subject) (own_commands l.name l.commands)

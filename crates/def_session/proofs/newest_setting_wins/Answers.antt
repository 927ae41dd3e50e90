use Rattle.def_session.proofs.Settings.{newest_wins, false_removes, no_setting, newest_command}
use Rattle.def_session.proofs.Invariance.{refused_changes_nothing, other_commands_keep_settings, events_keep_settings}
use Rattle.def_session.proofs.newest_setting_wins.Goals as goal

pub returns : goal.returns
returns c = record { wins = newest_wins; removes = false_removes; none = no_setting; newest = newest_command; unchanged = refused_changes_nothing; others = other_commands_keep_settings; events = events_keep_settings }

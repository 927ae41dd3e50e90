use Rattle.std.proofs.Common.{◌≡◌, map, take, reverse}
use Rattle.tn_session.specs.Views.{function_setting_seen, settings_seen}
use Rattle.tn_session.proofs.copies.share_settings.Given as goal

abbrev pub invariant-loop-command : goal.invariant-loop-command
invariant-loop-command g l = settings_seen l.copy ≡ reverse (map function_setting_seen (take l.command-index l.command-items))

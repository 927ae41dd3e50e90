use Rattle.std.proofs.Common.{◌∙◌, sym, ap, length}
use Rattle.std.proofs.lemmas.List.{length-map, length-reverse}
use Rattle.tn_session.specs.Views.{function_setting_seen}
use Rattle.tn_session.proofs.look.Look.setting_count.Goals as goal

pub returns : goal.returns
returns g c = sym (length-reverse c.commands.result.now) ∙ ap length c.commands.ensures ∙ sym (length-map _ function_setting_seen)

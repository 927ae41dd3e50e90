use Rattle.std.proofs.Common.{◌∙◌, sym, ap}
use Rattle.def_term.specs.Names.{word}
use Rattle.tn_text.proofs.Growth.{written_as}
use Rattle.tn_state.specs.Commands.{own_commands}
use Rattle.tn_state.specs.NewSettings.{text_of_setting}
use Rattle.tn_state.proofs.NewSettingLemmas.{sends_written}
use Rattle.tn_state.proofs.settings.put_sends.Goals as goal

pub returns : goal.returns
returns g c =
    written_as c.put_setting.result c.args.out.now.items c.put_setting.new.out.items
    (sym (ap (text_of_setting (word "send")) c.in_ok-setting.ensures ∙ sends_written (word "send") (own_commands c.args.name.now c.args.commands.now)))
    c.put_setting.ensures

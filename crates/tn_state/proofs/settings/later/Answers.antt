use Rattle.std.proofs.Common.{◌∙◌, sym, ap}
use Rattle.std.specs.Option.{option_map}
use Rattle.tn_flags.specs.Views.{command_of}
use Rattle.tn_state.specs.NewSettings.{new_setting_seen}
use Rattle.tn_state.proofs.NewSettingLemmas.{leaves, passed, sets}
use Rattle.tn_state.proofs.settings.later.Goals as goal

pub returns-then-not-is_to : goal.returns-then-not-is_to
returns-then-not-is_to g c = passed c.args.subject.now c.args.name.now (command_of c.args.command.now) (option_map new_setting_seen c.args.before) (sym c.is_to.ensures ∙ c.if-not-is_to.true)

pub returns-in-Some : goal.returns-in-Some
returns-in-Some g c =
    sets c.args.subject.now c.args.name.now (command_of c.args.command.now) (option_map new_setting_seen c.args.before) (new_setting_seen c.in-Some.setting) (sym c.is_to.ensures ∙ c.if-not-is_to.false)
    (sym (ap (option_map new_setting_seen) c.in-Some.is) ∙ c.in_ok-setting.ensures)

pub returns-in-None : goal.returns-in-None
returns-in-None g c =
    leaves c.args.subject.now c.args.name.now (command_of c.args.command.now) (option_map new_setting_seen c.args.before) (sym c.is_to.ensures ∙ c.if-not-is_to.false)
    (sym (ap (option_map new_setting_seen) c.in-None.is) ∙ c.in_ok-setting.ensures)

use Rattle.std.proofs.Common.{refl}
use Rattle.std.specs.Option.{option_map}
use Rattle.tn_state.specs.NewSettings.{new_setting_seen}
use Rattle.tn_state.proofs.NewSettingLemmas.{newest_more, newest_all}
use Rattle.tn_state.proofs.settings.newest.Goals as goal

pub loop-command-init : goal.loop-command-init
loop-command-init g c = refl

pub loop-command-preserved : goal.loop-command-preserved
loop-command-preserved g c =
    let l = c.loop-command in
    newest_more c.args.subject.now c.args.name.now c.args.commands.now l.command-index c.command-item.result (option_map new_setting_seen l.newest) _ c.loop-command-test.true c.command-item.is c.in_ok-newest.ensures l.invariant

pub returns : goal.returns
returns g c =
    let l = c.loop-command in
    newest_all c.args.subject.now c.args.name.now c.args.commands.now l.command-index (option_map new_setting_seen l.newest) c.loop-command-test.false l.invariant

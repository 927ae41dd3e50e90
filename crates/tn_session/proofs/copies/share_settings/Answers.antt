use Rattle.std.proofs.Common.{ap, ◌∙◌, map, reverse, arith}
use Rattle.std.proofs.lemmas.List.{take_all}
use Rattle.tn_session.specs.Views.{function_setting_seen, settings_seen}
use Rattle.tn_session.proofs.Reversals.{first_from_end, map_from_end}
use Rattle.tn_session.proofs.copies.share_settings.Goals as goal

pub loop-command-preserved : goal.loop-command-preserved
loop-command-preserved g c =
    let s = c.loop-command in
    ap settings_seen c.in_ok-set.ensures.ok
    ∙ first_from_end (function_setting_seen {A = g.row.A.Denot}) c.commands-command-items.result.now s.command-index c.command-item.result
    (function_setting_seen c.in_ok-shared.shared) (settings_seen s.copy) (omega arith) c.command-item.is c.in_ok-shared.ensures s.invariant

pub returns : goal.returns
returns g c =
    let s = c.loop-command in
    let xs = c.commands-command-items.result.now in
    s.invariant ∙ ap (λ ys. reverse (map (function_setting_seen {A = g.row.A.Denot}) ys)) (take_all s.command-index xs (omega arith))
    ∙ map_from_end (function_setting_seen {A = g.row.A.Denot}) xs ∙ ap (settings_seen {A = g.row.A.Denot}) c.commands-command-items.ensures

use Rattle.std.proofs.Common.{◌≡◌, ◌∙◌, rules, codes, []}
use Rattle.std.proofs.lemmas.Result.{IfOk-weaker}
use Rattle.clap.specs.Facts.{groups_of}
use Rattle.tn_line.specs.Line.{BY_PICKS, IsCommand}
use Rattle.tn_line.proofs.Names.{one_more, one_group, wants_it}
use Rattle.tn_line.proofs.commands.by_picks.Goals as goal

pub returns-clause-arguments : goal.returns-clause-arguments
returns-clause-arguments c =
    let name = c.args.name.now in
    let bare : IsCommand name [] c.about.result = record { called = search rules; takes = search rules } in
    let first = one_more name [] (codes "script") c.about.result c.in_ok-arg.field-0 c.script.result bare c.script.ensures.0 c.in_ok-arg.ensures in
    let second = one_more name _ (codes "picks") c.in_ok-arg.field-0 c.in_ok-arg-2.field-0 c.picks.result first c.picks.ensures.0 c.in_ok-arg-2.ensures in
    let third = one_more name _ (codes "picks-file") c.in_ok-arg-2.field-0 c.in_ok-arg-3.field-0 c.picks_file.result second c.picks_file.ensures.0
    c.in_ok-arg-3.ensures in
    let fourth = one_more name _ (codes "moves") c.in_ok-arg-3.field-0 c.in_ok-arg-4.field-0 c.moves.result third c.moves.ensures.0 c.in_ok-arg-4.ensures in
    let fifth = one_more name _ (codes "moves-file") c.in_ok-arg-4.field-0 c.in_ok-arg-5.field-0 c.moves_file.result fourth c.moves_file.ensures.0
    c.in_ok-arg-5.ensures in
    IfOk-weaker c.group.result _ _ (λ new added. one_group name BY_PICKS c.in_ok-arg-5.field-0 new c.args.sources fifth added) c.group.ensures

pub returns-clause-picks : goal.returns-clause-picks
returns-clause-picks c =
    let bare : groups_of c.about.result ≡ [] = search rules in
    let none = c.in_ok-arg-5.ensures.groups ∙ c.in_ok-arg-4.ensures.groups ∙ c.in_ok-arg-3.ensures.groups ∙ c.in_ok-arg-2.ensures.groups ∙ c.in_ok-arg.ensures.groups ∙ bare in
    IfOk-weaker c.group.result _ _ (λ new added. wants_it c.in_ok-arg-5.field-0 new c.args.sources none added) c.group.ensures

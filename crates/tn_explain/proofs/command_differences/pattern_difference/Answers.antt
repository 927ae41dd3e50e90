use Rattle.std.proofs.Common.{◌∙◌, sym, ap}
use Rattle.def_explain.specs.CommandDifferences.{taken_difference}
use Rattle.def_explain.specs.Differences.{difference_where, leaves_other_setting, takes_local_setting}
use Rattle.tn_index.specs.Views.{function_pattern_seen}
use Rattle.tn_session.specs.Looks.{look_seen}
use Rattle.tn_explain.specs.CommandDifferences.{difference_by}
use Rattle.tn_explain.proofs.command_differences.pattern_difference.Goals as goal

pub returns-then-not-on : goal.returns-then-not-on
returns-then-not-on g c = λ o fs.
    let covered = function_pattern_seen c.args.covered.now in
    c.difference_where.ensures ∙ ap (λ b. difference_where b leaves_other_setting) (c.in_ok-leaves.ensures o fs)
    ∙ ap (difference_by o (look_seen c.args.look.now) covered c.args.local) (sym c.if-not-on.true)

pub returns : goal.returns
returns g c = λ o fs.
    let s = look_seen c.args.look.now in
    let covered = function_pattern_seen c.args.covered.now in
    c.difference_where-2.ensures ∙ ap (λ b. difference_where b takes_local_setting) (c.in_ok-takes.ensures o fs)
    ∙ ap (taken_difference o s covered) (sym c.if-local.false) ∙ ap (difference_by o s covered c.args.local) (sym c.if-not-on.false)

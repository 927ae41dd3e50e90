use Rattle.std.proofs.Common.{◌∙◌, sym, ap, if◌then◌else◌}
use Rattle.def_spec.specs.Expressions as ex
use Rattle.def_spec.specs.Flags.{no_flags}
use Rattle.tn_flags.specs.Views.{flags_of}
use Rattle.tn_action.proofs.actions.change_of.Goals as goal

pub returns-then-on : goal.returns-then-on
returns-then-on g c =
    let flag = flags_of c.args.flag in
    ap (λ f. ex.changes c.args.pid f flag) c.none.ensures ∙ sym (ap (λ q. ex.changes c.args.pid (if q then no_flags else flag) (if q then flag else no_flags)) c.if-on.true)

pub returns-else-on : goal.returns-else-on
returns-else-on g c =
    let flag = flags_of c.args.flag in
    ap (λ f. ex.changes c.args.pid flag f) c.none-else-on.ensures ∙ sym (ap (λ q. ex.changes c.args.pid (if q then no_flags else flag) (if q then flag else no_flags)) c.if-on.false)

use Rattle.std.proofs.Common.{◌∙◌, ◌∷◌, [], ap, not}
use Rattle.def_spec.specs.Flags.{union, without, same_flags, flags_in}
use Rattle.def_spec.specs.Functions.{truth}
use Rattle.def_spec.specs.Expressions.{changes}
use Rattle.tn_flags.specs.Views.{flags_of}
use Rattle.tn_action.proofs.trace.flag_change.Goals as goal

pub returns : goal.returns
returns g c =
    let off = flags_of c.args.off in
    let on = flags_of c.args.on in
    let now = c.of-flags.ensures ∙ ap (λ t. flags_in t c.args.pid) c.flags_after.ensures in
    let after = c.join.ensures ∙ ap (λ f. union f on) c.without.ensures in
    ap (λ t. (t, changes c.args.pid off on ∷ []))
    (c.truth.ensures ∙ ap (λ b. truth (not b)) (c.same-change.ensures ∙ ap (same_flags (flags_of c.of-flags.result)) after ∙ ap (λ f. same_flags f (union (without f off) on)) now))

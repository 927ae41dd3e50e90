use Rattle.std.proofs.Common.{◌∙◌, sym, ap, Some, ◌∷◌, []}
use Rattle.std.specs.Option.{option_map}
use Rattle.def_spec.specs.Expressions as ex
use Rattle.def_spec.specs.Flags.{flag_named}
use Rattle.tn_flags.specs.Views.{flags_of}
use Rattle.tn_guard.specs.Views.{value_seen}
use Rattle.tn_action.proofs.Steps.{changed_flag}
use Rattle.tn_action.proofs.actions.change_flag.Goals as goal

pub returns-in-Some-Some : goal.returns-in-Some-Some
returns-in-Some-Some g c =
    let named = flag_named (value_seen c.args.flag) in
    ap (λ e. Some (e ∷ [])) c.change_of.ensures
    ∙ changed_flag c.args.on c.in-Some-Some.pid (flags_of c.in-Some-Some.flag) named (sym (ap (option_map flags_of) c.in-Some-Some.is-1) ∙ c.flag_in.ensures)
    ∙ ap (λ p. ex.change c.args.on p named) (sym c.in-Some-Some.is-0)

use Rattle.std.proofs.Common.{◌∙◌, Some, ap}
use Rattle.std.specs.Option.{option_map}
use Rattle.def_explain.specs.Differences.{has_none}
use Rattle.def_spec.specs.Flags.{has_all}
use Rattle.tn_flags.specs.Views.{flags_of}
use Rattle.tn_running_node.proofs.replies.none_listed.Goals as goal

pub returns-in-Some : goal.returns-in-Some
returns-in-Some g c =
    ap Some c.has.ensures ∙ ap (λ f. Some (has_all f (flags_of c.in-Some.flags))) c.none.ensures ∙ ap (option_map has_none) c.in-Some.ensures

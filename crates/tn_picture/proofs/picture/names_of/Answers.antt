use Rattle.std.proofs.Common.{◌∙◌, [], ◌∷◌, ◌++◌, sym, ap, ap₂}
use Rattle.std.specs.Option.{option_map}
use Rattle.def_script.specs.Script.{creations}
use Rattle.tn_program.specs.Variables.{name_pair}
use Rattle.tn_program.specs.Views.{program_of}
use Rattle.tn_picture.proofs.SessionNames.{one_name}
use Rattle.tn_picture.proofs.picture.names_of.Goals as goal

pub loop-number-preserved : goal.loop-number-preserved
loop-number-preserved g c =
    c.in_ok-push.ensures.items
    ∙ ap₂ (λ l x. l ++ x ∷ []) c.loop-number.invariant c.in_ok-copy_into.ensures
    ∙ sym (one_name (creations (program_of c.args.program.now).commands) c.loop-number.number _ (sym c.session_at.ensures ∙ ap (option_map name_pair) c.in-Some.is))

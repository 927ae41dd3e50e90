use Rattle.std.proofs.Common.{◌∙◌, ap, arith, refl, sym}
use Rattle.std.specs.Option.{option_map}
use Rattle.def_script.specs.Script.{creations}
use Rattle.tn_program.specs.Variables.{name_pair}
use Rattle.tn_program.specs.Views.{program_of}
use Rattle.tn_command.proofs.SessionTexts.{next_name, last_name}
use Rattle.tn_command.proofs.run_outline.session_names.Goals as goal

pub loop-number-preserved : goal.loop-number-preserved
loop-number-preserved c =
    next_name (creations (program_of c.args.program.now).commands) c.loop-number.number _ c.loop-number.names.items c.loop-number.between.now _ _ _ _
    (sym c.session_at.ensures ∙ ap (option_map name_pair) c.in-Some.is)
    c.in_ok-extend_from_slice.ensures.items c.in_ok-write_atom.ensures.ok refl c.loop-number.invariant

pub returns : goal.returns
returns c = last_name (creations (program_of c.args.program.now).commands) c.loop-number.number c.loop-number.names.items c.loop-number.between.now _ (omega arith) c.loop-number.invariant

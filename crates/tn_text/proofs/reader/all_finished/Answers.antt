use Rattle.std.proofs.Common.{map, refl, ap, sym, ◌∙◌, arith, vec_len}
use Rattle.std.proofs.lemmas.Bool.{eqb-false}
use Rattle.tn_term.specs.Views.{tree_of}
use Rattle.def_text.specs.ScriptReading.{reading, script_end}
use Rattle.tn_text.specs.declared.stack.Progress.TheVariants.{Inside}
use Rattle.tn_text.specs.Stack.{frames_of, read_state_of}
use Rattle.tn_text.proofs.Frames.{frames_length}
use Rattle.tn_text.proofs.Scripts.{within_none}
use Rattle.tn_text.proofs.reader.all_finished.Goals as goal

pub returns-else-is_empty : goal.returns-else-is_empty
returns-else-is_empty g c =
    let ts = map tree_of c.args.terms.items in
    let frames = c.in-Inside-Next-default.frames in
    let size = frames.ok.0 in
    let some = eqb-false (vec_len frames) 0 (sym c.if-is_empty.ensures) in
    let inside = c.in-Inside-Next-default.is ∙ ap (λ p. Inside p frames) c.in-Inside-Next-default.field-0-is in
    (refl, ap (λ p. script_end (reading ts (read_state_of p))) inside ∙ within_none ts (frames_of frames.items) (omega (arith, size, some, frames_length frames.items)))

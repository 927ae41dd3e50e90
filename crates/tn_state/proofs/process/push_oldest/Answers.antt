use Rattle.std.proofs.Common.{◌∙◌, ◌<◌, ◌++◌, length, map, sym, ap, arith}
use Rattle.std.proofs.lemmas.Bool.{eqb-false}
use Rattle.def_state.specs.ProcessTexts.{function_terms}
use Rattle.tn_process.specs.Views.{frame_of}
use Rattle.tn_script.specs.Views.{functions_of}
use Rattle.tn_term.specs.Views.{tree_of}
use Rattle.tn_text.proofs.Growth.{on_done}
use Rattle.tn_state.proofs.ProcessLemmas.{first_of_frames}
use Rattle.tn_state.proofs.process.push_oldest.Goals as goal

pub returns : goal.returns
returns g c =
    let ks = functions_of c.args.functions.now in
    let frames = c.args.frames.now in
    let old = map tree_of c.args.terms.now.items in
    let filled = eqb-false (length frames) 0 (sym c.is_empty.ensures ∙ c.if-is_empty.false) in
    let some : 0 < length frames = omega (arith, filled) in
    on_done c.push_function.result
    (λ pushed. pushed ∙ ap (λ i. old ++ function_terms ks i) c.function.ensures ∙ ap (λ ts. old ++ ts) (sym (first_of_frames ks frame_of frames c.index-frames-0.result some c.index-frames-0.is)))
    c.push_function.ensures

use Rattle.std.proofs.Common.{◌≡◌, ◌∙◌, ◌++◌, map, ap}
use Rattle.def_state.specs.ProcessTexts.{living_text, process_header}
use Rattle.tn_process.specs.Views.{process_seen}
use Rattle.tn_script.specs.Views.{functions_of}
use Rattle.tn_term.specs.Views.{tree_of}
use Rattle.tn_text.proofs.Growth.{on_done}
use Rattle.tn_state.specs.Processes.{first_terms}
use Rattle.tn_state.proofs.Texts.{text_then}
use Rattle.tn_state.proofs.process.put_living_process.Goals as goal

pub returns : goal.returns
returns g c =
    let n = c.args.pid in
    let q = c.args.process.now in
    let o0 = c.args.out.now.items in
    let o1 = c.put_header.new.out.items in
    let begun = first_terms c.args.functions.now q in
    let header : o1 ≡ o0 ++ process_header n begun = c.in_ok-put_header.ensures ∙ ap (λ ts. o0 ++ process_header n ts) (ap (map tree_of) c.deref.ensures.value ∙ c.in_ok-terms.ensures) in
    on_done c.put_living.result
    (λ last. text_then o0 o1 c.put_living.new.out.items (process_header n begun) (living_text (functions_of c.args.functions.now) (process_seen q)) header last)
    c.put_living.ensures

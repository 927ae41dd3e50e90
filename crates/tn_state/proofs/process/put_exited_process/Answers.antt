use Rattle.std.proofs.Common.{◌≡◌, ◌∙◌, ◌∷◌, [], ◌++◌, map, ap}
use Rattle.def_state.specs.Lines.{terms_line}
use Rattle.def_state.specs.ProcessTexts.{process_header}
use Rattle.def_term.specs.Names.{word}
use Rattle.tn_term.specs.Views.{tree_of}
use Rattle.tn_text.proofs.Growth.{on_done}
use Rattle.tn_state.proofs.Texts.{text_then}
use Rattle.tn_state.proofs.process.put_exited_process.Goals as goal

pub returns : goal.returns
returns g c =
    let n = c.args.pid in
    let o0 = c.args.out.now.items in
    let o1 = c.put_header.new.out.items in
    let header : o1 ≡ o0 ++ process_header n [] = c.in_ok-put_header.ensures ∙ ap (λ ts. o0 ++ process_header n (map tree_of ts)) (c.deref.ensures.value ∙ c.new-none.ensures.items) in
    on_done c.put_exited.result (λ last. text_then o0 o1 c.put_exited.new.out.items (process_header n []) (terms_line (word "exited" ∷ [])) header last) c.put_exited.ensures

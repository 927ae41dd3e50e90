use Rattle.std.proofs.Common.{◌∙◌, ◌∷◌, map, sym, ap}
use Rattle.def_state.specs.Lines.{terms_line}
use Rattle.tn_term.specs.Views.{tree_of}
use Rattle.tn_text.proofs.Growth.{written_as}
use Rattle.tn_state.specs.Processes.{frame_terms}
use Rattle.tn_state.proofs.process.put_frame.Goals as goal

pub returns : goal.returns
returns g c =
    let others = frame_terms c.args.functions.now c.args.frame.now in
    written_as c.put_line.result c.args.out.now.items c.put_line.new.out.items
    (sym (ap (λ t. terms_line (t ∷ others)) c.in_ok-first.ensures)
    ∙ sym (ap (λ ts. terms_line (tree_of c.in_ok-first.first ∷ ts)) (ap (map tree_of) c.deref.ensures.value ∙ c.in_ok-others.ensures)))
    c.put_line.ensures

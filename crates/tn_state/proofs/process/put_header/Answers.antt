use Rattle.std.proofs.Common.{◌∙◌, ◌∷◌, ◌++◌, codes, map, sym, ap, append_assoc}
use Rattle.def_state.specs.Lines.{terms_line}
use Rattle.def_term.specs.Tree.{pid}
use Rattle.tn_term.specs.Views.{tree_of}
use Rattle.tn_text.proofs.Growth.{on_done}
use Rattle.tn_state.proofs.LineLemmas.{pid_line}
use Rattle.tn_state.proofs.process.put_header.Goals as goal

pub returns : goal.returns
returns g c =
    let others = map tree_of c.args.others.now in
    let line = terms_line (pid c.args.pid ∷ others) in
    on_done c.put_line.result
    (λ text. text
    ∙ ap (λ l. c.extend_from_slice.new.self.items ++ l) (sym (pid_line g.row.A.Denot c.args.pid others))
    ∙ ap (λ x. x ++ line) c.in_ok-extend_from_slice.ensures.items
    ∙ append_assoc c.args.out.now.items (codes "== process ") line)
    c.put_line.ensures

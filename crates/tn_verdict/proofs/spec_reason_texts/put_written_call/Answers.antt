use Rattle.std.proofs.Common.{◌∙◌, ◌++◌, codes, drop, ap}
use Rattle.def_term.specs.Text.{each_after_comma, atom_text}
use Rattle.tn_term.specs.Views.{trees_of}
use Rattle.tn_verdict.proofs.Pieces.{behind}
use Rattle.tn_verdict.proofs.SpecReasonTexts.{written_call}
use Rattle.tn_verdict.proofs.spec_reason_texts.put_written_call.Goals as goal

pub returns-clause-ok : goal.returns-clause-ok
returns-clause-ok g c =
    let o = c.args.out.now.items in
    let ts = trees_of (drop 1 c.args.terms.now.items) in
    let named = atom_text c.args.name.now in
    let first = c.extend_from_slice.new.self.items in
    let next = c.write_atom.new.out.items in
    let last = c.extend_from_slice-2.new.self.items in
    behind o (codes "; a tuple is written {{") (named ++ (each_after_comma ts ++ codes "}}")) first last c.in_ok-extend_from_slice.ensures.items
    (behind first named (each_after_comma ts ++ codes "}}") next last c.in_ok-write_atom.ensures.ok
    (behind next (each_after_comma ts) (codes "}}") c.put_further.new.out.items last c.in_ok-put_further.ensures.ok c.in_ok-extend_from_slice-2.ensures.items))
    ∙ ap (λ l. o ++ l) (written_call c.args.name.now ts)

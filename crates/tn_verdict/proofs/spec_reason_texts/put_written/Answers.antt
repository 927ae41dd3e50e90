use Rattle.std.proofs.Common.{◌∙◌, ◌++◌, codes, ap}
use Rattle.def_term.specs.Text.{comma_list}
use Rattle.tn_term.specs.Views.{trees_of}
use Rattle.tn_verdict.proofs.Pieces.{behind}
use Rattle.tn_verdict.proofs.SpecReasonTexts.{written_text}
use Rattle.tn_verdict.proofs.spec_reason_texts.put_written.Goals as goal

pub returns-clause-ok : goal.returns-clause-ok
returns-clause-ok g c =
    let o = c.args.out.now.items in
    let ts = trees_of c.args.terms.now.items in
    let first = c.extend_from_slice.new.self.items in
    let last = c.extend_from_slice-2.new.self.items in
    behind o (codes "; a tuple is written {{") (comma_list ts ++ codes "}}") first last c.in_ok-extend_from_slice.ensures.items
    (behind first (comma_list ts) (codes "}}") c.put_terms.new.out.items last c.in_ok-put_terms.ensures.ok c.in_ok-extend_from_slice-2.ensures.items)
    ∙ ap (λ l. o ++ l) (written_text ts)

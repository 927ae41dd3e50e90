use Rattle.std.proofs.Common.{codes}
use Rattle.def_explain.specs.ReasonTexts.{found_text}
use Rattle.tn_term.specs.Views.{tree_of}
use Rattle.tn_verdict.proofs.Pieces.{after_ok}
use Rattle.tn_verdict.proofs.spec_reason_texts.put_spec_reason.Goals as goal

pub returns-in_ok-extend_from_slice-in-NoClauses-clause-ok : goal.returns-in_ok-extend_from_slice-in-NoClauses-clause-ok
returns-in_ok-extend_from_slice-in-NoClauses-clause-ok g c =
    rw c.in-NoClauses.is
    (after_ok c.put_found.result c.args.out.now.items (codes "a match specification is a list of one clause or more") (found_text (tree_of c.in-NoClauses.term.now)) c.extend_from_slice.new.self.items c.put_found.new.out.items
    c.in_ok-extend_from_slice-in-NoClauses.ensures.items c.put_found.ensures.ok)

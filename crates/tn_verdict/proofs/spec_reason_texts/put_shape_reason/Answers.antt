use Rattle.std.proofs.Common.{codes}
use Rattle.def_explain.specs.ReasonTexts.{found_text, count_text}
use Rattle.tn_term.specs.Views.{tree_of}
use Rattle.tn_verdict.proofs.Pieces.{after_ok}
use Rattle.tn_verdict.proofs.spec_reason_texts.put_shape_reason.Goals as goal

pub returns-in_ok-extend_from_slice-in-NoTuple-clause-ok : goal.returns-in_ok-extend_from_slice-in-NoTuple-clause-ok
returns-in_ok-extend_from_slice-in-NoTuple-clause-ok g c =
    rw c.in-NoTuple.is
    (after_ok c.put_found.result c.args.out.now.items (codes "a clause is {Head,Conditions,Body}") (found_text (tree_of c.in-NoTuple.term.now)) c.extend_from_slice.new.self.items c.put_found.new.out.items
    c.in_ok-extend_from_slice-in-NoTuple.ensures.items c.put_found.ensures.ok)

pub returns-in_ok-extend_from_slice-in-ElementCount-clause-ok : goal.returns-in_ok-extend_from_slice-in-ElementCount-clause-ok
returns-in_ok-extend_from_slice-in-ElementCount-clause-ok g c =
    rw c.in-ElementCount.is
    (after_ok c.put_count.result c.args.out.now.items (codes "a clause is {Head,Conditions,Body}, found ") (count_text c.in-ElementCount.count (codes "element")) c.extend_from_slice-in-ElementCount.new.self.items c.put_count.new.out.items
    c.in_ok-extend_from_slice-in-ElementCount.ensures.items c.put_count.ensures.ok)

pub returns-in_ok-extend_from_slice-in-NoConditions-clause-ok : goal.returns-in_ok-extend_from_slice-in-NoConditions-clause-ok
returns-in_ok-extend_from_slice-in-NoConditions-clause-ok g c =
    rw c.in-NoConditions.is
    (after_ok c.put_found-in-NoConditions.result c.args.out.now.items (codes "the conditions are a list") (found_text (tree_of c.in-NoConditions.term.now)) c.extend_from_slice-in-NoConditions.new.self.items
    c.put_found-in-NoConditions.new.out.items c.in_ok-extend_from_slice-in-NoConditions.ensures.items c.put_found-in-NoConditions.ensures.ok)

pub returns-in_ok-extend_from_slice-in-NoBody-clause-ok : goal.returns-in_ok-extend_from_slice-in-NoBody-clause-ok
returns-in_ok-extend_from_slice-in-NoBody-clause-ok g c =
    rw c.in-NoBody.is
    (after_ok c.put_found-in-NoBody.result c.args.out.now.items (codes "the body is a list") (found_text (tree_of c.in-NoBody.term.now)) c.extend_from_slice-in-NoBody.new.self.items c.put_found-in-NoBody.new.out.items
    c.in_ok-extend_from_slice-in-NoBody.ensures.items c.put_found-in-NoBody.ensures.ok)

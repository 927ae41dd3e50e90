use Rattle.std.proofs.Common.{◌∙◌, ◌++◌, codes, drop, ap}
use Rattle.std.specs.Option.{option_map}
use Rattle.def_term.specs.Text.{atom_text}
use Rattle.def_explain.specs.ReasonTexts.{common_slips, meant_in}
use Rattle.tn_term.specs.Views.{trees_of}
use Rattle.tn_verdict.specs.SpecReasonTexts.{suggestion_text, with_count_of, call_tuple_text}
use Rattle.tn_verdict.proofs.Pieces.{after_ok, read_as}
use Rattle.tn_verdict.proofs.SpecReasonTexts.{none_meant, some_meant}
use Rattle.tn_verdict.proofs.spec_reason_texts.put_no_function.Goals as goal

pub returns-clause-ok : goal.returns-clause-ok
returns-clause-ok g c =
    let o = c.args.out.now.items in
    let s = c.args.name.now in
    let v = c.args.terms.now in
    let first = c.extend_from_slice.new.self.items in
    let last = c.put_written_call.new.out.items in
    let done = c.put_written_call.result in
    read_as done o (codes "no function " ++ (with_count_of s v ++ call_tuple_text s v)) _ last
    (none_meant s (trees_of (drop 1 v.items)) (meant_in common_slips s) (c.in_default.ensures ∙ ap (λ u. option_map atom_text (meant_in common_slips u)) c.text.ensures.text))
    (after_ok done o (codes "no function ") (with_count_of s v ++ call_tuple_text s v) first last c.in_ok-extend_from_slice.ensures.items
    (after_ok done first (with_count_of s v) (call_tuple_text s v) c.put_name_count.new.out.items last c.in_ok-put_name_count.ensures.ok c.put_written_call.ensures.ok))

pub returns-in-Some-clause-ok : goal.returns-in-Some-clause-ok
returns-in-Some-clause-ok g c =
    let o = c.args.out.now.items in
    let s = c.args.name.now in
    let meant = c.in-Some.meant.now in
    let last = c.put_meant.new.out.items in
    let done = c.put_meant.result in
    read_as done o (codes "no function " ++ suggestion_text s meant) _ last
    (some_meant s (trees_of (drop 1 c.args.terms.now.items)) (meant_in common_slips s) meant (c.in-Some.ensures ∙ ap (λ u. option_map atom_text (meant_in common_slips u)) c.text.ensures.text))
    (after_ok done o (codes "no function ") (suggestion_text s meant) c.extend_from_slice.new.self.items last c.in_ok-extend_from_slice.ensures.items c.put_meant.ensures.ok)

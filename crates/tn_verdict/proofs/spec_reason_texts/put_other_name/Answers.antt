use Rattle.std.proofs.Common.{◌∙◌, ◌++◌, codes, decimal, drop, ap}
use Rattle.std.specs.Str.{bytes_eq}
use Rattle.def_term.specs.Tree.{count}
use Rattle.tn_term.specs.Views.{trees_of}
use Rattle.tn_verdict.proofs.Pieces.{after_ok, read_as, put_ok}
use Rattle.tn_verdict.proofs.SpecReasonTexts.{const_text, tracer_text}
use Rattle.tn_verdict.proofs.spec_reason_texts.put_other_name.Goals as goal

pub returns-then-eq-clause-ok : goal.returns-then-eq-clause-ok
returns-then-eq-clause-ok g c =
    let o = c.args.out.now.items in
    let ts = trees_of (drop 1 c.args.terms.now.items) in
    let first = c.extend_from_slice.new.self.items in
    let last = c.write_decimal.new.out.items in
    let done = c.write_decimal.result in
    read_as done o (codes "const takes 1 argument, found " ++ decimal (count ts)) _ last
    (const_text c.args.name.now ts c.eq.result (c.eq.ensures ∙ ap (λ u. bytes_eq u (codes "const")) c.text.ensures.text) c.if-eq.true)
    (after_ok done o (codes "const takes 1 argument, found ") (decimal (count ts)) first last c.in_ok-extend_from_slice.ensures.items
    (read_as done first (decimal c.further_count.result) (decimal (count ts)) last (ap decimal c.further_count.ensures) c.write_decimal.ensures.ok))

pub returns-then-eq-2-clause-ok : goal.returns-then-eq-2-clause-ok
returns-then-eq-2-clause-ok g c =
    let o = c.args.out.now.items in
    let last = c.extend_from_slice-then-eq-2.new.self.items in
    let done = c.extend_from_slice-then-eq-2.result in
    let no_const = c.eq.ensures ∙ ap (λ u. bytes_eq u (codes "const")) c.text.ensures.text in
    let is_tracer = c.eq-2.ensures ∙ ap (λ u. bytes_eq u (codes "tracer")) c.text-2.ensures.text in
    read_as done o (codes "tracer of OTP 27 isn't modelled") _ last
    (tracer_text c.args.name.now (trees_of (drop 1 c.args.terms.now.items)) c.eq.result c.eq-2.result no_const c.if-eq.false is_tracer c.if-eq-2.true)
    (put_ok done o (codes "tracer of OTP 27 isn't modelled") last c.extend_from_slice-then-eq-2.ensures.items)

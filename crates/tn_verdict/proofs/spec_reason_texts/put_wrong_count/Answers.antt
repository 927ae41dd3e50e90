use Rattle.std.proofs.Common.{◌≡◌, ◌∙◌, ◌++◌, codes, decimal, ap}
use Rattle.std.specs.Option.{option_map}
use Rattle.def_term.specs.Text.{atom_text}
use Rattle.def_spec.specs.Reading.{table, found_in}
use Rattle.def_explain.specs.ReasonTexts.{row_counts}
use Rattle.tn_spec.specs.Names.{row_of}
use Rattle.tn_verdict.proofs.Pieces.{behind, after_ok}
use Rattle.tn_verdict.proofs.SpecReasonTexts.{same_counts}
use Rattle.tn_verdict.proofs.spec_reason_texts.put_wrong_count.Goals as goal

pub returns-clause-ok : goal.returns-clause-ok
returns-clause-ok g c =
    let s = c.args.name.now in
    let o = c.args.out.now.items in
    let named = atom_text s in
    let counts = row_counts (found_in table s) in
    let first = c.write_atom.new.out.items in
    let next = c.extend_from_slice.new.self.items in
    let third = c.put_allowed.new.out.items in
    let fourth = c.extend_from_slice-2.new.self.items in
    let rows = c.row_named.ensures ∙ ap (λ u. option_map row_of (found_in table u)) c.text.ensures.text in
    let allowed : third ≡ next ++ counts = c.in_ok-put_allowed.ensures.ok ∙ ap (λ l. next ++ l) (same_counts c.row_named.result (found_in table s) rows) in
    after_ok c.write_decimal.result o (named ++ codes " takes " ++ counts ++ codes ", found ") (decimal c.args.count) fourth c.write_decimal.new.out.items
    (behind o (named ++ codes " takes " ++ counts) (codes ", found ") third fourth
    (behind o (named ++ codes " takes ") counts next third (behind o named (codes " takes ") first next c.in_ok-write_atom.ensures.ok c.in_ok-extend_from_slice.ensures.items) allowed)
    c.in_ok-extend_from_slice-2.ensures.items)
    c.write_decimal.ensures.ok

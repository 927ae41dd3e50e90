use Rattle.std.proofs.Common.{◌∙◌, ◌-◌, sym, ap, drop, arith}
use Rattle.std.specs.Option.{option_map}
use Rattle.def_term.specs.Text.{is_among}
use Rattle.def_spec.specs.Reading.{table, unsupported_names, found_in}
use Rattle.tn_term.specs.Views.{trees_of}
use Rattle.tn_spec.specs.Names.{position_seen, row_seen, row_of}
use Rattle.tn_spec.specs.Views.{dialect_of}
use Rattle.tn_spec.proofs.Tuples.{further_counted}
use Rattle.tn_reason.proofs.SpecReasons.{call_by_row, row_takes_so, row_takes_otherwise}
use Rattle.tn_reason.proofs.expression_reasons.call_reason.Goals as goal

pub returns-in_default : goal.returns-in_default
returns-in_default g c =
    sym
    (call_by_row (dialect_of c.args.dialect) (position_seen c.args.part) c.args.name.now (trees_of (drop 1 c.args.terms.now.items)) c.is_unsupported.result _
    (c.is_unsupported.ensures ∙ ap (is_among unsupported_names) c.text-text.ensures.text) c.if-is_unsupported.false
    (c.in_default.ensures ∙ ap (λ s. option_map row_of (found_in table s)) c.text-text.ensures.text))

pub returns-then-not-takes : goal.returns-then-not-takes
returns-then-not-takes g c =
    let xs = c.args.terms.now.items in
    let stored = c.args.terms.now.ok.0 in
    sym
    (call_by_row (dialect_of c.args.dialect) (position_seen c.args.part) c.args.name.now (trees_of (drop 1 xs)) c.is_unsupported.result _
    (c.is_unsupported.ensures ∙ ap (is_among unsupported_names) c.text-text.ensures.text) c.if-is_unsupported.false
    (c.in-Some.ensures ∙ ap (λ s. option_map row_of (found_in table s)) c.text-text.ensures.text)
    ∙ row_takes_otherwise (dialect_of c.args.dialect) (position_seen c.args.part) c.args.name.now (trees_of (drop 1 xs)) (row_seen c.in-Some.row) (c.len-args.result - 1) c.takes.result
    (further_counted xs (c.len-args.result - 1) (omega arith)) c.takes.ensures c.if-not-takes.true)

pub returns : goal.returns
returns g c =
    let xs = c.args.terms.now.items in
    let stored = c.args.terms.now.ok.0 in
    c.place_reason.ensures
    ∙ sym
    (call_by_row (dialect_of c.args.dialect) (position_seen c.args.part) c.args.name.now (trees_of (drop 1 xs)) c.is_unsupported.result _
    (c.is_unsupported.ensures ∙ ap (is_among unsupported_names) c.text-text.ensures.text) c.if-is_unsupported.false
    (c.in-Some.ensures ∙ ap (λ s. option_map row_of (found_in table s)) c.text-text.ensures.text)
    ∙ row_takes_so (dialect_of c.args.dialect) (position_seen c.args.part) c.args.name.now (trees_of (drop 1 xs)) (row_seen c.in-Some.row) (c.len-args.result - 1) c.takes.result
    (further_counted xs (c.len-args.result - 1) (omega arith)) c.takes.ensures c.if-not-takes.false)

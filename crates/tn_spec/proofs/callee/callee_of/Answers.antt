use Rattle.std.proofs.Common.{◌∙◌, ap}
use Rattle.std.specs.Option.{option_map}
use Rattle.def_term.specs.Text.{is_among}
use Rattle.def_spec.specs.Reading.{table, unsupported_names, found_in}
use Rattle.tn_spec.specs.Names.{position_seen, row_seen, row_of}
use Rattle.tn_spec.specs.Views.{dialect_of}
use Rattle.tn_spec.proofs.Calls.{named_by_row, row_fits, row_fits_not}
use Rattle.tn_spec.proofs.callee.callee_of.Goals as goal

pub returns-in_default : goal.returns-in_default
returns-in_default g c =
    named_by_row (dialect_of c.args.dialect) (position_seen c.args.part) c.args.args c.args.name.now c.is_unsupported.result _
    (c.is_unsupported.ensures ∙ ap (is_among unsupported_names) c.text-text.ensures.text) c.if-is_unsupported.false (c.in_default.ensures ∙ ap (λ s. option_map row_of (found_in table s)) c.text-text.ensures.text)

pub returns-then-fits : goal.returns-then-fits
returns-then-fits g c =
    named_by_row (dialect_of c.args.dialect) (position_seen c.args.part) c.args.args c.args.name.now c.is_unsupported.result _
    (c.is_unsupported.ensures ∙ ap (is_among unsupported_names) c.text-text.ensures.text) c.if-is_unsupported.false (c.in-Some.ensures ∙ ap (λ s. option_map row_of (found_in table s)) c.text-text.ensures.text)
    ∙ row_fits (dialect_of c.args.dialect) (position_seen c.args.part) c.args.args (row_seen c.in-Some.row) c.fits.result c.fits.ensures c.if-fits.true

pub returns : goal.returns
returns g c =
    named_by_row (dialect_of c.args.dialect) (position_seen c.args.part) c.args.args c.args.name.now c.is_unsupported.result _
    (c.is_unsupported.ensures ∙ ap (is_among unsupported_names) c.text-text.ensures.text) c.if-is_unsupported.false (c.in-Some.ensures ∙ ap (λ s. option_map row_of (found_in table s)) c.text-text.ensures.text)
    ∙ row_fits_not (dialect_of c.args.dialect) (position_seen c.args.part) c.args.args (row_seen c.in-Some.row) c.fits.result c.fits.ensures c.if-fits.false

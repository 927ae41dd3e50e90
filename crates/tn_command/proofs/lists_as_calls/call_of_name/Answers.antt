use Rattle.std.proofs.Common.{◌∙◌, ap}
use Rattle.std.specs.Option.{option_map}
use Rattle.def_spec.specs.Reading.{table, found_in}
use Rattle.tn_spec.specs.Names.{row_seen, row_of}
use Rattle.tn_command.proofs.SpecNoteTerms.{no_row, row_refuses, row_takes}
use Rattle.tn_command.proofs.lists_as_calls.call_of_name.Goals as goal

pub returns-in_default : goal.returns-in_default
returns-in_default g c = no_row c.args.name.now c.args.arguments (found_in table c.args.name.now) (c.in_default.ensures ∙ ap (λ s. option_map row_of (found_in table s)) c.text.ensures.text)

pub returns-then-not-takes : goal.returns-then-not-takes
returns-then-not-takes g c =
    row_refuses c.args.name.now c.args.arguments (found_in table c.args.name.now) (row_seen c.in-Some.row) c.takes.result
    (c.in-Some.ensures ∙ ap (λ s. option_map row_of (found_in table s)) c.text.ensures.text) c.takes.ensures c.if-not-takes.true

pub returns : goal.returns
returns g c =
    row_takes c.args.name.now c.args.arguments (found_in table c.args.name.now) (row_seen c.in-Some.row) c.takes.result
    (c.in-Some.ensures ∙ ap (λ s. option_map row_of (found_in table s)) c.text.ensures.text) c.takes.ensures c.if-not-takes.false

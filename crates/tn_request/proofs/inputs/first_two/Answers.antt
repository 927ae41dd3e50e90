use Rattle.std.proofs.Common.{◌∙◌, ap}
use Rattle.std.specs.Option.{option_map, option_or}
use Rattle.tn_notice.specs.NoticeViews.{input_text_seen}
use Rattle.tn_request.specs.InputsAsked.{both_inputs, input_pair_seen}
use Rattle.tn_request.proofs.SharedInputs.{first_of_four}
use Rattle.tn_request.proofs.inputs.first_two.Goals as goal

pub returns : goal.returns
returns c =
    ap (option_map input_pair_seen) (c.or-2.ensures ∙ ap (λ x. option_or x c.both_inputs-3.result) c.or.ensures)
    ∙ first_of_four c.args.script c.args.text c.args.output c.args.listing c.both_inputs.result c.both_inputs-2.result c.both_inputs-3.result
    c.both_inputs.ensures
    (c.both_inputs-2.ensures ∙ ap (λ x. both_inputs (option_map input_text_seen x) (option_map input_text_seen c.args.output)) c.or-first.ensures)
    (c.both_inputs-3.ensures ∙ ap (λ x. both_inputs (option_map input_text_seen x) (option_map input_text_seen c.args.listing)) (c.or-second.ensures ∙ ap (λ x. option_or x c.args.output) c.or-first.ensures))

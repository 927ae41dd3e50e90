use Rattle.std.proofs.Common.{◌∙◌}
use Rattle.tn_request.proofs.SharedInputs.{texts_seen}
use Rattle.tn_request.proofs.request.Request.shared_input.Goals as goal

pub returns : goal.returns
returns c =
    c.first_two.ensures
    ∙ texts_seen c.args.self.now c.expectation-words.result c.script.result c.text_source.result c.listing_source.result c.of_source.result c.text_input.result c.of_source-2.result
    c.of_source-3.result c.expectation-words.ensures c.script.ensures c.text_source.ensures c.listing_source.ensures c.of_source.ensures c.text_input.ensures c.of_source-2.ensures c.of_source-3.ensures

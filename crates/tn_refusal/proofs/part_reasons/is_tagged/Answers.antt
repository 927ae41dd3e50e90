use Rattle.std.proofs.Common.{length, ◌∙◌, sym}
use Rattle.tn_script.proofs.OfTerms.{begins_at, some_there}
use Rattle.tn_refusal.proofs.part_reasons.is_tagged.Goals as goal

pub returns-then-not-is_empty : goal.returns-then-not-is_empty
returns-then-not-is_empty g c = begins_at {A = g.row.A.Denot} c.args.word.now c.args.fields.now c.index-fields-0.result c.is_word.result (some_there (length c.args.fields.now) (sym c.is_empty.ensures ∙ c.if-not-is_empty.true)) c.index-fields-0.is c.is_word.ensures

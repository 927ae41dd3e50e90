use Rattle.tn_refusal.proofs.Refusals.{refused_placed}
use Rattle.tn_refusal.proofs.laws.a_refused_text_has_its_place.Goals as goal

pub returns : goal.returns
returns c = refused_placed

use Rattle.std.proofs.Common.{sym, subst}
use Rattle.def_refusal.specs.ItemStarts.{tokens_past_commas}
use Rattle.tn_refusal.specs.Skims.{AreAhead}
use Rattle.tn_refusal.proofs.Skims.{past_commas}
use Rattle.tn_refusal.proofs.skim.past_commas.Goals as goal

pub returns-clause-tokens : goal.returns-clause-tokens
returns-clause-tokens c = λ xs h.
    subst (λ m. AreAhead c.args.text.now m (tokens_past_commas 0 c.args.commas xs)) (sym c.offset_past.ensures.value) (past_commas c.args.text.now c.args.commas c.args.from xs h)

use Rattle.std.proofs.Common.{sym, subst}
use Rattle.def_text.specs.Forms.{after_stops}
use Rattle.tn_refusal.specs.Skims.{AreAhead}
use Rattle.tn_refusal.proofs.Skims.{past_stops}
use Rattle.tn_refusal.proofs.skim.past_stops.Goals as goal

pub returns-clause-tokens : goal.returns-clause-tokens
returns-clause-tokens c = λ xs h.
    subst (λ m. AreAhead c.args.text.now m (after_stops c.args.stops xs)) (sym c.offset_past.ensures.value) (past_stops c.args.text.now c.args.stops 0 xs h)

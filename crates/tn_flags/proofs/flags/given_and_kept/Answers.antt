use Rattle.std.proofs.Common.{◌∙◌, sym}
use Rattle.tn_flags.proofs.FlagLemmas.{given_first, given_always, given_none}
use Rattle.tn_flags.proofs.flags.given_and_kept.Goals as goal

pub returns-then-first : goal.returns-then-first
returns-then-first c = λ a f b h k. given_first a f _ _ _ b (sym k ∙ c.if-first.true) c.without-rest.ensures

pub returns-then-always : goal.returns-then-always
returns-then-always c = λ a f b h k. given_always a f _ (sym k ∙ c.if-first.false) (sym h ∙ c.if-always.true)

pub returns-else-always : goal.returns-else-always
returns-else-always c = λ a f b h k. given_none a f _ _ c.none.ensures (sym k ∙ c.if-first.false) (sym h ∙ c.if-always.false)

use Rattle.std.proofs.Common.{◌++◌, [], ◌∷◌, codes, map}
use Rattle.def_explain.specs.Accounts.{said}
use Rattle.def_explain.specs.Texts.{clause_text, effects_text}
use Rattle.tn_action.specs.Views.{effect_seen}
use Rattle.tn_explain.proofs.LineTexts.{line, clause_line, grew}
use Rattle.tn_explain.proofs.line.Lines.put_firing.Goals as goal
use Rattle.tn_text.proofs.Growth.{grows_on}

pub returns-clause-ok : goal.returns-clause-ok
returns-clause-ok g c =
    line c.args.self.now.name.now (said (clause_text c.args.before (codes " fires" ++ effects_text (map effect_seen c.args.effects.now)))) _ _ _ _ c.in_ok-begin.ensures.ok
    (clause_line c.args.before (codes " fires") _ _ _ _ _ c.in_ok-put_clause.ensures.ok c.in_ok-extend_from_slice.ensures.items c.in_ok-put_effects.ensures.ok) c.in_ok-push.ensures.items

pub returns-clause-grows : goal.returns-clause-grows
returns-clause-grows g c =
    grows_on c.in_ok-begin.ensures.grows (grows_on c.in_ok-put_clause.ensures.grows (grows_on (grew _ c.in_ok-extend_from_slice.ensures.items) (grows_on c.in_ok-put_effects.ensures.grows (grew (10 ∷ []) c.in_ok-push.ensures.items))))

use Rattle.std.proofs.Common.{ap, sym, ◌∙◌}
use Rattle.tn_fun.specs.Clauses.{first_seen}
use Rattle.tn_fun.specs.FunStates.{list_may_be}
use Rattle.tn_fun.proofs.head_step.may_be_list.Goals as goal

pub returns-in-Some : goal.returns-in-Some
returns-in-Some g c = λ text. c.is_variable.ensures text ∙ ap (λ o. list_may_be (first_seen text o)) (sym c.in-Some.is)

use Rattle.tn_program.specs.Variables.{name_pair}
use Rattle.complete_scripts.proofs.SameSessions.{same_next}
use Rattle.complete_scripts.proofs.program.next.Goals as goal

pub returns-clause-session : goal.returns-clause-session
returns-clause-session g c = (same_next name_pair _ _ _ _ _ c.next-first.ensures.steps (rw (← c.requires) at c.next-second.ensures.steps)).0

pub returns-clause-left : goal.returns-clause-left
returns-clause-left g c = (same_next name_pair _ _ _ _ _ c.next-first.ensures.steps (rw (← c.requires) at c.next-second.ensures.steps)).1

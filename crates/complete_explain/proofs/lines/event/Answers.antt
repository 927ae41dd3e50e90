use Rattle.complete_explain.proofs.Both.{when_both, same_lines, same_after}
use Rattle.complete_explain.proofs.lines.event.Goals as goal

pub returns-clause-text : goal.returns-clause-text
returns-clause-text g c =
    when_both c.put_event_lines.result c.put_event_lines-2.result (λ p q. same_lines _ _ _ _ _ _ _ _ _ _ _ c.requires.sessions c.requires.texts p q) c.put_event_lines.ensures.ok c.put_event_lines-2.ensures.ok

pub returns-clause-after : goal.returns-clause-after
returns-clause-after g c =
    when_both c.put_event_lines.result c.put_event_lines-2.result (λ p q. same_after _ _ _ _ _ _ _ _ _ _ _ c.requires.sessions p q) c.put_event_lines.ensures.ok c.put_event_lines-2.ensures.ok

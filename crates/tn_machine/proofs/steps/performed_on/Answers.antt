use Rattle.tn_machine.proofs.steps.performed_on.Goals as goal

pub returns : goal.returns
returns g c = (c.in_ok-values.values.items, c.in_ok-values.ensures, c.in_ok-value.ensures)

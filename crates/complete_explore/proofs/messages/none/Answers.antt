use Rattle.complete_explore.proofs.messages.none.Goals as goal

pub returns : goal.returns
returns g c = record { first = c.none.ensures; second = c.none-2.ensures }

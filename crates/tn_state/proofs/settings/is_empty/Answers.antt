use Rattle.tn_session.proofs.Commands.{empty_list}
use Rattle.tn_state.proofs.settings.is_empty.Goals as goal

pub returns : goal.returns
returns g c = let v = c.args.items.now in empty_list v.items v.len c.is_empty.result v.ok.0 c.is_empty.ensures

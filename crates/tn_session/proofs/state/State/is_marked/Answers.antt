use Rattle.std.proofs.Common.{◌∙◌, ap}
use Rattle.std.specs.Option.{is_some}
use Rattle.tn_session.specs.Views.{mark_kind_seen}
use Rattle.tn_session.proofs.MarkLemmas.{is_some_of_map}
use Rattle.tn_session.proofs.state.State.is_marked.Goals as goal

pub returns : goal.returns
returns g c = c.is_some.ensures ∙ is_some_of_map mark_kind_seen c.mark_of.result ∙ ap is_some c.mark_of.ensures

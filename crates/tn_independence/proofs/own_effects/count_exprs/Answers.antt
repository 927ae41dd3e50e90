use Rattle.std.proofs.Common.{◌∙◌, sym}
use Rattle.tn_independence.proofs.OwnSettings.{count_seen}
use Rattle.tn_independence.proofs.own_effects.count_exprs.Goals as goal

pub returns : goal.returns
returns g c = c.len.ensures ∙ c.args.exprs.now.ok.0 ∙ sym (count_seen c.args.exprs.now.items)

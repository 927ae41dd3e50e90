use Rattle.std.proofs.Common.{subst}
use Rattle.tn_refusal.specs.Details.{TellsDetail}
use Rattle.tn_refusal.specs.Refusals.{refusal_of}
use Rattle.tn_refusal.specs.TextViews.{kind_seen}
use Rattle.tn_refusal.proofs.detail.detail_of.Goals as goal

pub returns : goal.returns
returns g c = subst (λ o. TellsDetail (refusal_of c.args.refusal) c.args.text.now (kind_seen c.args.kind) o c.put_detail.new.out.items) c.new-out.ensures.items c.in_ok-put_detail.ensures

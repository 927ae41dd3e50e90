use Rattle.tn_refusal.proofs.Pieces.{piece_spells}
use Rattle.tn_refusal.proofs.starts.bytes_of_form.Goals as goal

pub returns : goal.returns
returns c = λ ts n s ahead. piece_spells c.args.text.now ts n c.args.before c.past_stop.result s ahead c.past_stop.ensures.value

use Rattle.tn_replay.proofs.EmptyScripts.{gap_is_all}
use Rattle.tn_replay.proofs.empty_scripts.has_no_forms.Goals as goal

pub returns : goal.returns
returns c = gap_is_all c.args.text.now c.gap_len.result c.gap_len.ensures.value c.gap_len.ensures.fits

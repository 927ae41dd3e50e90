use Rattle.tn_verdict.proofs.SpecReasonTexts.{no_setting_text}
use Rattle.tn_verdict.proofs.spec_reason_texts.setting_name.Goals as goal

pub returns-in_default : goal.returns-in_default
returns-in_default c = no_setting_text c.args.text.now c.in_default.not-restart c.in_default.not-pause c.in_default.not-x c.in_default.not-c c.in_default.not-cx

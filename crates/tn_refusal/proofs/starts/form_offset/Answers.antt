use Rattle.tn_refusal.proofs.FormStarts.{no_token, too_long}
use Rattle.tn_refusal.proofs.starts.form_offset.Goals as goal

pub returns-in-Ok : goal.returns-in-Ok
returns-in-Ok g c = c.form_start.ensures (let l = c.in-Ok.ensures in record { short = l.short; tokens = l.tokens; are = l.are; good = l.good })

pub returns-in-Err-TooLong : goal.returns-in-Err-TooLong
returns-in-Err-TooLong g c = too_long c.args.text.now (rw c.in-Err-TooLong.field-0-is at c.in-Err-TooLong.ensures)

pub returns-in-Err-Token : goal.returns-in-Err-Token
returns-in-Err-Token g c = no_token c.args.text.now _ (rw c.in-Err-Token.field-0-is at c.in-Err-Token.ensures)

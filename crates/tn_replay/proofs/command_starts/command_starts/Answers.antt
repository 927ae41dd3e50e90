use Rattle.std.proofs.Common.{◌∙◌, ap}
use Rattle.def_explain.specs.CommandPlaces.{before_form}
use Rattle.tn_refusal.proofs.FormStarts.{no_token}
use Rattle.tn_replay.specs.CommandStarts.{starts_shown}
use Rattle.tn_replay.proofs.CommandStarts.{starts_of_text}
use Rattle.tn_replay.proofs.command_starts.command_starts.Goals as goal

pub returns-in_ok-starts_among-in-Ok : goal.returns-in_ok-starts_among-in-Ok
returns-in_ok-starts_among-in-Ok g c =
    starts_of_text c.args.text.now c.in_ok-starts_among-in-Ok.field-0.items c.in-Ok.tokens.items c.in-Ok.ensures (c.in_ok-starts_among-in-Ok.ensures ∙ ap (starts_shown c.args.text.now before_form) c.deref.ensures.value)

pub returns-in-Err-Token : goal.returns-in-Err-Token
returns-in-Err-Token g c = no_token c.args.text.now _ (rw c.in-Err-Token.field-0-is at c.in-Err-Token.ensures)

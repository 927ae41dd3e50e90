use Rattle.def_text.proofs.Starts.{after_are, offset_is_one}
use Rattle.def_text.proofs.laws.a_form_begins_after_full_stops.Goals as goal

pub returns : goal.returns
returns c = record { stops = after_are; one = offset_is_one }

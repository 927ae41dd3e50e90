-- Of which event a text is.
use Rattle.tn_flags.specs.declared.event.Event.{Event}
use Rattle.tn_session.specs.declared.event_text.EventText.{EventText}

abbrev pub event_in : {A : Type 0} → EventText A → Event A
event_in t = t.event.now

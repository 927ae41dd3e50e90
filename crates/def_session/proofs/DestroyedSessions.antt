-- A destroyed session.
use Rattle.std.proofs.Common.{◌≡◌, refl, ap, ◌∙◌, None}
use Rattle.def_script.specs.Program.{Command, destroy}
use Rattle.def_node.specs.Event.{Event}
use Rattle.def_session.specs.State.{destroyed, Session}
use Rattle.def_script.specs.Exports.{Exports}
use Rattle.def_session.specs.Session.{reported_in, event_reported}
use Rattle.def_session.specs.Commands.{done_destroyed, done_in, command_done}
use Rattle.def_session.specs.Laws.{DestructionTakesAll, EventAfterDestruction, CommandAfterDestruction, DestroyedAgain}

pub destruction : DestructionTakesAll
destruction o s name h = ap (λ p. done_in p o s (destroy name)) h

pub event_after : EventAfterDestruction
event_after s e h = ap (λ p. reported_in p s e) h

done_same : (s : Session) (c : Command) → (done_destroyed s c).0 ≡ s
done_same s (destroy name) = refl
done_same s _ = refl

pub command_after : CommandAfterDestruction
command_after o s c h = ap (λ p. (done_in p o s c).0) h ∙ done_same s c

pub destroyed_again : DestroyedAgain
destroyed_again o s name h = ap (λ p. (done_in p o s (destroy name)).1) h

pub event-silent : (s : Session) (e : Event) → s.phase ≡ destroyed → (event_reported s e).1 ≡ None
event-silent s e h = ap (λ r. r.1) (event_after s e h)

pub event-destroyed : (s : Session) (e : Event) → s.phase ≡ destroyed → (event_reported s e).0.phase ≡ destroyed
event-destroyed s e h = ap (λ r. r.0.phase) (event_after s e h) ∙ h

pub command-destroyed : (o : Exports) (s : Session) (c : Command) → s.phase ≡ destroyed → (command_done o s c).0.phase ≡ destroyed
command-destroyed o s c h = ap (λ t. t.phase) (command_after o s c h) ∙ h

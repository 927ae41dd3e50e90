-- Before a creation; who lives; and the phase.
use Rattle.std.proofs.Common.{◌≡◌, ℕ, List, [], false, refl, ap, ◌∙◌, Option, Some, None}
use Rattle.def_term.specs.Alive.{Alive, with_alive}
use Rattle.def_script.specs.Program.{Command, create}
use Rattle.def_script.specs.Rules.{is_creation}
use Rattle.def_node.specs.Event.{Event, called, returned, raised, spawned, exited, getting_linked}
use Rattle.def_spec.specs.Expressions.{Effect}
use Rattle.def_session.specs.State.{Phase, absent, live, destroyed, MarkKind, Session, alive_after}
use Rattle.def_session.specs.Session.{inherit, effects_of, all_affected, mark_asked, mark_frame, finish, reported_for, reported_in}
use Rattle.def_session.specs.Commands.{refuse, done_absent, done_in}
use Rattle.def_session.specs.Messages.{process_of}
use Rattle.def_session.specs.Laws.{CreationMakesLive, CommandBeforeCreation, EventBeforeCreation, LifeGoesByEvents, EventKeepsThePhase}

pub creation_makes_live : CreationMakesLive
creation_makes_live o s name tracer h = ap (λ p. done_in p o s (create name tracer)) h

refused_absent : (s : Session) (c : Command) → is_creation c ≡ false → done_absent s c ≡ refuse s
refused_absent s (create name tracer) e = cc
refused_absent s _ e = refl

pub command_before_creation : CommandBeforeCreation
command_before_creation o s c h e = ap (λ p. done_in p o s c) h ∙ refused_absent s c e

pub event_before_creation : EventBeforeCreation
event_before_creation s e h = ap (λ p. reported_in p s e) h

-- ---- who lives at the end of an event

abbrev after_end : Alive → Event → Alive
after_end alive (exited p r) = with_alive alive p false
after_end alive _ = alive

marked_alive : (s : Session) (p depth : ℕ) (k : Option MarkKind) → (mark_frame s p depth k).alive ≡ s.alive
marked_alive s p depth None = refl
marked_alive s p depth (Some k) = refl

marked_phase : (s : Session) (p depth : ℕ) (k : Option MarkKind) → (mark_frame s p depth k).phase ≡ s.phase
marked_phase s p depth None = refl
marked_phase s p depth (Some k) = refl

finished_alive : (s : Session) (e : Event) (es : List Effect) → (finish s e es).alive ≡ after_end s.alive e
finished_alive s (called p c) es = marked_alive s p c.depth (mark_asked es)
finished_alive s (returned p f t depth) es = refl
finished_alive s (raised p f c t depth) es = refl
finished_alive s (exited p r) es = refl
finished_alive s _ es = refl

finished_phase : (s : Session) (e : Event) (es : List Effect) → (finish s e es).phase ≡ s.phase
finished_phase s (called p c) es = marked_phase s p c.depth (mark_asked es)
finished_phase s (returned p f t depth) es = refl
finished_phase s (raised p f c t depth) es = refl
finished_phase s (exited p r) es = refl
finished_phase s _ es = refl

told_alive : (s : Session) (e : Event) (r : Option (List Effect)) → (reported_for s e r).0.alive ≡ after_end s.alive e
told_alive s e None = finished_alive s e []
told_alive s e (Some es) = finished_alive (all_affected (process_of e) s es) e es

told_phase : (s : Session) (e : Event) (r : Option (List Effect)) → (reported_for s e r).0.phase ≡ s.phase
told_phase s e None = finished_phase s e []
told_phase s e (Some es) = finished_phase (all_affected (process_of e) s es) e es

-- a process lives from the spawned event on
life_at : (s : Session) (e : Event) → after_end (inherit s e).alive e ≡ alive_after s.alive e
life_at s (spawned p parent f args) = refl
life_at s (getting_linked p q) = refl
life_at s (exited p r) = refl
life_at s _ = refl

phase_at : (s : Session) (e : Event) → (inherit s e).phase ≡ s.phase
phase_at s (spawned p parent f args) = refl
phase_at s (getting_linked p q) = refl
phase_at s _ = refl

alive_in : (p : Phase) (s : Session) (e : Event) → (reported_in p s e).0.alive ≡ alive_after s.alive e
alive_in absent s e = refl
alive_in destroyed s e = refl
alive_in live s e = told_alive (inherit s e) e (effects_of (inherit s e) e) ∙ life_at s e

phase_in : (p : Phase) (s : Session) (e : Event) → (reported_in p s e).0.phase ≡ s.phase
phase_in absent s e = refl
phase_in destroyed s e = refl
phase_in live s e = told_phase (inherit s e) e (effects_of (inherit s e) e) ∙ phase_at s e

pub life_goes_by_events : LifeGoesByEvents
life_goes_by_events s e = alive_in s.phase s e

pub event_keeps_the_phase : EventKeepsThePhase
event_keeps_the_phase s e = phase_in s.phase s e

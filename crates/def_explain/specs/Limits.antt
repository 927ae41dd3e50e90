-- Which limit a step goes past, where it ends a process with the reason `system_limit` (own; Efficiency Guide, "System Limits").
-- Depends on what is known of the step before it is made, and on the flags of a session.
use Rattle.std.specs.Prelude.{◌≡◌, true, if◌then◌else◌, ℕ, List, [], ◌∷◌, Option, Some, codes}
use Rattle.def_term.specs.Names.{word}
use Rattle.def_spec.specs.Flags.{procs_flag}
use Rattle.def_node.specs.Event.{Event, exited}
use Rattle.def_outlook.specs.Outlook.{RuntimeError, builds_past_limit, calls_past_limit, spawns_past_limit, error_reason, Outlook}
use Rattle.def_session.specs.State.{Session, flags_at}

-- by this error a process ends with `system_limit`, of which the session reports the exits
abbrev pub PassesLimit : Session → Outlook → Event → RuntimeError → Type 0
PassesLimit s l (exited p r) x = (flags_at s p procs_flag ≡ true) × (l.error ≡ Some x) × (error_reason x ≡ word "system_limit")
PassesLimit s l e x = ⊥

-- the limit
abbrev pub limit_text : RuntimeError → List ℕ
limit_text builds_past_limit = codes "past a limit: a term is at most 32 deep, and of at most 65536 parts"
limit_text calls_past_limit = codes "past a limit: a process has at most 64 frames"
limit_text spawns_past_limit = codes "past a limit: a run has at most 64 processes"
limit_text x = []

-- what is said of it; nothing of an error that is of no limit
abbrev pub said_of_error : Option RuntimeError → List (List ℕ)
said_of_error (Some builds_past_limit) = limit_text builds_past_limit ∷ []
said_of_error (Some calls_past_limit) = limit_text calls_past_limit ∷ []
said_of_error (Some spawns_past_limit) = limit_text spawns_past_limit ∷ []
said_of_error o = []

-- what is said at an event by a step of which this was known before it
abbrev pub limit_said : Session → Outlook → Event → List (List ℕ)
limit_said s l (exited p r) = if flags_at s p procs_flag then said_of_error l.error else []
limit_said s l e = []

-- What is listed of the messages of sessions.
-- Depends on what is kept of messages.
use Rattle.std.specs.Prelude.{ℕ, Bool, true, false, List, Option, flat_map}
use Rattle.std.specs.declared.vec.Vec.{Vec}
use Rattle.def_term.specs.Names.{Name}
use Rattle.def_term.specs.Tree.{Tree}
use Rattle.def_spec.specs.Matching.{Pattern}
use Rattle.def_run.specs.Listing.{header_line}
use Rattle.def_explore.specs.Answers.{RestEntry}
use Rattle.def_explore.specs.Words.{shown_by, missed_by}
use Rattle.tn_messages.specs.MessageViews.{lists_seen}
use Rattle.tn_messages.specs.declared.shared_message.SharedMessage.{SharedMessage}
use Rattle.tn_answers.specs.declared.entry.SessionName.{SessionName}

-- the messages of each process after those of the ones before it
abbrev pub processes_listed : {A : Type 0} → Vec (Vec (SharedMessage A) A) A → List Tree
processes_listed v = flat_map (λ ms. ms) (lists_seen v)

-- a session's name and tracer
abbrev pub session_name_seen : {A : Type 0} → SessionName A → Name × Name
session_name_seen s = (s.name, s.tracer)

-- the journal of the first entry that shows a match, or of the first that shows none
abbrev pub first_journal : Bool → Pattern → List RestEntry → Option (List ℕ)
first_journal true a es = shown_by a es
first_journal false a es = missed_by a es

-- the line before a session's messages
abbrev pub session_header : {A : Type 0} → SessionName A → List ℕ
session_header s = header_line s.name s.tracer

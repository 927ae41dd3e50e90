-- What is promised of the reasons why commands and match specifications are refused (own).
-- Depends on these reasons, on how specifications are read and on what commands do.
use Rattle.std.specs.Prelude.{◌≡◌, ◌↔◌, Bool, true, ◌||◌, List, Some, Err}
use Rattle.std.specs.Option.{option_map}
use Rattle.def_term.specs.Tree.{Tree}
use Rattle.def_term.specs.Names.{Name, Mfa}
use Rattle.def_script.specs.Program.{Command, set_function}
use Rattle.def_script.specs.Exports.{Exports}
use Rattle.def_spec.specs.Expressions.{Dialect}
use Rattle.def_spec.specs.Reading.{SpecFault, spec_of}
use Rattle.def_session.specs.State.{Session}
use Rattle.def_session.specs.Commands.{number_term, fault_term, command_done}
use Rattle.def_explain.specs.SpecReasons.{SpecReason, reason_fault, IsSpecReason, spec_reason}
use Rattle.def_explain.specs.Lists.{One}
use Rattle.def_explain.specs.NearestFunctions.{has_module, has_name, nearest_to}
use Rattle.def_explain.specs.CommandReasons.{CommandReason, reply_of, refuses, IsTaken, IsCommandReason, command_reason}

-- there is a reason exactly where a term isn't read as a specification, and it is of the fault that is answered
abbrev pub SpecFaultHasReason : Type 0
SpecFaultHasReason = (d : Dialect) (t : Tree) (e : SpecFault) → (spec_of d t ≡ Err e) ↔ (option_map reason_fault (spec_reason d t) ≡ Some e)

-- what is computed is the reason
abbrev pub SpecReasonIsComputed : Type 0
SpecReasonIsComputed = (d : Dialect) (t : Tree) (r : SpecReason) → (spec_reason d t ≡ Some r) ↔ IsSpecReason d t r

-- what is computed is the reason
abbrev pub CommandReasonIsComputed : Type 0
CommandReasonIsComputed =
    (o : Exports) (s : Session) (c : Command) (r : CommandReason) → (command_reason o s c ≡ Some r) ↔ IsCommandReason o s c r

-- a command with a reason has its reply
abbrev pub ReplyIsOfReason : Type 0
ReplyIsOfReason =
    (o : Exports) (s : Session) (c : Command) (r : CommandReason) → command_reason o s c ≡ Some r → (command_done o s c).1 ≡ reply_of r

-- a command that replies a fault has a reason
abbrev pub FaultHasReason : Type 0
FaultHasReason =
    (o : Exports) (s : Session) (c : Command) (e : SpecFault) → (command_done o s c).1 ≡ fault_term e → (r : CommandReason) × (command_reason o s c ≡ Some r)

-- a function command that replies 0 has a reason
abbrev pub ZeroHasReason : Type 0
ZeroHasReason =
    (o : Exports) (s : Session) (name : Name) (mfa spec options : Tree)
    → (command_done o s (set_function name mfa spec options)).1 ≡ number_term 0
    → (r : CommandReason) × (command_reason o s (set_function name mfa spec options) ≡ Some r)

-- a command that is refused changes nothing
abbrev pub RefusalChangesNothing : Type 0
RefusalChangesNothing =
    (o : Exports) (s : Session) (c : Command) (r : CommandReason) → command_reason o s c ≡ Some r → refuses r ≡ true → (command_done o s c).0 ≡ s

-- the function has this module or this name
abbrev pub IsAlike : (module_name function_name : Name) → Mfa → Type 0
IsAlike m g f = (has_module m f || has_name g f) ≡ true

-- one of the functions is f, which is alike
abbrev pub IsNearest : (module_name function_name : Name) → Mfa → Mfa × Bool → Type 0
IsNearest m g f k = (k.0 ≡ f) × IsAlike m g f

-- the function that was probably meant is one of these, with the module or the name that is asked for
abbrev pub NearestIsThere : Type 0
NearestIsThere = (m g : Name) (ks : List (Mfa × Bool)) (f : Mfa) → nearest_to m g ks ≡ Some f → One (IsNearest m g f) ks

-- where a function has one of the two, one was probably meant
abbrev pub SomeNearestWhereAlike : Type 0
SomeNearestWhereAlike = (m g : Name) (ks : List (Mfa × Bool)) → One (λ k. IsAlike m g k.0) ks → IsTaken (nearest_to m g ks)

-- When the reason of a command is asked of a session that there can be.
use Rattle.std.specs.Prelude.{◌≡◌, List, Option}
use Rattle.def_term.specs.Alive.{Alive}
use Rattle.def_script.specs.Exports.{Exports, visible}
use Rattle.def_session.specs.State as definition
use Rattle.tn_script.specs.Views.{functions_of}
use Rattle.tn_script.specs.declared.form.Function.{Function}
use Rattle.tn_session.specs.declared.session.Session.{Session}
use Rattle.tn_trace.specs.Slots.{IsSession}

-- the session is one of a program with these functions
pub record IsSessionOver {A : Type 0} (functions : List (Function A)) (session : Option (Session A)) : Type 0 where
  pub exports : Exports
  pub living : Alive
  pub state : definition.Session
  pub visible_functions : exports.functions ≡ visible (functions_of functions)
  pub is : IsSession exports.functions living state session

-- What one effect does, and the last message of several.
use Rattle.std.specs.Prelude.{◌≡◌, List, ◌∷◌, Option}
use Rattle.std.specs.Option.{option_map}
use Rattle.def_term.specs.Tree.{Tree}
use Rattle.def_spec.specs.Expressions.{Effect}
use Rattle.def_session.specs.Messages.{last_message, later}
use Rattle.tn_guard.specs.Views.{value_seen}
use Rattle.tn_guard.specs.declared.value.Value.{Value}

-- the term of a message, where there is one
abbrev pub message_term : {A : Type 0} → Option (Value A) → Option Tree
message_term v = option_map value_seen v

-- the last message of these effects, else the one before them
abbrev pub later_message : Option Tree → List Effect → Option Tree
later_message before es = later before (last_message es)

-- one effect makes the new state of the old one: whichever effects are after it, they end the same
abbrev pub FoldsTo : {S : Type 0} → (S → List Effect → S) → S → Effect → S → Type 0
FoldsTo behind old e new = (es : List Effect) → behind old (e ∷ es) ≡ behind new es

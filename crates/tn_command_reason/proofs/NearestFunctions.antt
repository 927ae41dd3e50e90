-- That no function matches, and which was probably meant.
use Rattle.std.proofs.Common.{◌≡◌, ◌∙◌, ◌==◌, Bool, true, if◌then◌else◌, List, Option, Some, None, sym, ap}
use Rattle.def_term.specs.Names.{Mfa}
use Rattle.def_script.specs.Exports.{Exports}
use Rattle.def_session.specs.Settings.{FunctionPattern}
use Rattle.def_session.specs.Commands.{matching_count}
use Rattle.def_explain.specs.CommandReasons.{no_match, no_exported_match, any_setting, no_match_reason, match_reason}
use Rattle.def_explain.specs.NearestFunctions.{nearest_function}

-- the reason of a command about these functions, of which none is there
pub no_match_is : (o : Exports) (p : FunctionPattern) (local : Bool) (fs : List (Mfa × Bool)) (f : Option Mfa) → o.functions ≡ fs
    → true ≡ (matching_count o (any_setting p local) == 0) → true ≡ (matching_count o (any_setting p true) == 0) → f ≡ nearest_function p fs
    → Some (no_match f) ≡ match_reason o (Some p) (Some local)
no_match_is o p local fs f same none all near =
    ap (λ g. Some (no_match g)) (near ∙ ap (nearest_function p) (sym same))
    ∙ ap (λ b. Some (if b then no_match (nearest_function p o.functions) else no_exported_match)) all
    ∙ ap (λ b. if b then Some (no_match_reason o p) else None) none

-- What a session stands for, by its parts.
use Rattle.std.proofs.Common.{◌≡◌, List, Bool, ap, ◌∙◌}
use Rattle.def_term.specs.Names as names
use Rattle.def_term.specs.Alive.{Alive}
use Rattle.def_spec.specs.Flags.{Flags, FlagTable}
use Rattle.def_session.specs.Settings.{FunctionSetting, Setting}
use Rattle.def_session.specs.State.{Phase, Mark}
use Rattle.tn_session.specs.Sessions.{SessionValue}

abbrev value_from : List (names.Mfa × Bool) → Phase → Alive → FlagTable → Flags → List FunctionSetting → Setting → Setting → List (List Mark) → SessionValue
value_from fs p a t f ks s r ms = record {
  functions = fs;
  state = record { phase = p; alive = a; flags = t; new_process_flags = f; functions = ks; sending = s; receiving = r; marks = ms };
}

pub value_same : (fs gs : List (names.Mfa × Bool)) (p : Phase) (a : Alive) (t : FlagTable) (f : Flags) (ks ls : List FunctionSetting) (s u r v : Setting) (ms ns : List (List Mark))
    → fs ≡ gs → ks ≡ ls → s ≡ u → r ≡ v → ms ≡ ns → value_from fs p a t f ks s r ms ≡ value_from gs p a t f ls u v ns
value_same fs gs p a t f ks ls s u r v ms ns functions commands sending receiving marks =
    ap (λ x. value_from x p a t f ks s r ms) functions ∙ ap (λ x. value_from gs p a t f x s r ms) commands ∙ ap (λ x. value_from gs p a t f ls x r ms) sending
    ∙ ap (λ x. value_from gs p a t f ls u x ms) receiving ∙ ap (λ x. value_from gs p a t f ls u v x) marks

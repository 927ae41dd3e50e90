-- Lists of effects, from their first and from their last.
use Rattle.std.proofs.Common.{◌≡◌, ◌∙◌, Bool, if◌then◌else◌, List, [], ◌∷◌, ◌++◌, map, Option, Some, None, refl, sym, ap}
use Rattle.std.proofs.lemmas.List.{map-append}
use Rattle.def_term.specs.Tree.{Tree}
use Rattle.def_spec.specs.Expressions.{Effect, gives_message, traces_return, traces_exception, silences, changes}
use Rattle.def_session.specs.State.{MarkKind}
use Rattle.def_session.specs.Messages.{later, last_message, followed_by}
use Rattle.def_session.specs.Session.{or_for_returns}
use Rattle.tn_guard.specs.declared.value.Value.{Value}
use Rattle.tn_machine.specs.Types.{effect_seen}
use Rattle.tn_machine.specs.Types as code
use Rattle.tn_machine.specs.Types.{Message, ReturnTrace, ExceptionTrace, Silent, Change}

later_none : (o : Option Tree) → later None o ≡ o
later_none None = refl
later_none (Some t) = refl

later_twice : (a b c : Option Tree) → later a (later b c) ≡ later (later a b) c
later_twice a b None = refl
later_twice a b (Some t) = refl

-- one more effect at the end
pub last_after : (es : List Effect) (e : Effect) → last_message (es ++ e ∷ []) ≡ later (last_message es) (last_message (e ∷ []))
last_after [] e = sym (later_none (last_message (e ∷ [])))
last_after (gives_message t ∷ es) e = ap (later (Some t)) (last_after es e) ∙ later_twice (Some t) (last_message es) (last_message (e ∷ []))
last_after (traces_return ∷ es) e = last_after es e
last_after (traces_exception ∷ es) e = last_after es e
last_after (silences b ∷ es) e = last_after es e
last_after (changes n off on ∷ es) e = last_after es e

pub at_the_end : (ts : List Tree) (t : Tree) → followed_by ts t ≡ ts ++ t ∷ []
at_the_end [] t = refl
at_the_end (u ∷ us) t = ap (λ vs. u ∷ vs) (at_the_end us t)

-- the mark that effects ask for, where those before them have return_trace or not
abbrev pub mark_so_far : Bool → Option MarkKind → Option MarkKind
mark_so_far returns o = if returns then or_for_returns o else o

-- the same of the code's effects
pub popped : {A : Type 0} (xs ys : List (code.Effect A)) (e : code.Effect A) → xs ≡ ys ++ e ∷ [] → last_message (map effect_seen xs) ≡ later (last_message (map effect_seen ys)) (last_message (effect_seen e ∷ []))
popped xs ys e is =
    ap (λ zs. last_message (map effect_seen zs)) is ∙ ap last_message (map-append effect_seen ys (e ∷ [])) ∙ last_after (map effect_seen ys) (effect_seen e)

pub no_message : {A : Type 0} (e : code.Effect A) → ((v : Value A) → e ≡ Message v → ⊥) → last_message (effect_seen e ∷ []) ≡ None
no_message (Message v) h = absurd (h v refl)
no_message ReturnTrace h = refl
no_message ExceptionTrace h = refl
no_message (Silent b) h = refl
no_message (Change n off on) h = refl

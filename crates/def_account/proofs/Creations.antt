-- Each session of an accepted script is created once.
use Rattle.std.proofs.Common.{◌≡◌, ℕ, suc, Bool, true, false, ◌||◌, List, [], ◌∷◌, ◌++◌, All, length, refl, sym, ap, subst, ◌∙◌, append_assoc, inl, inr}
use Rattle.std.proofs.lemmas.List.{append-nil}
use Rattle.std.proofs.lemmas.List.Elements.{All-nil, All-cons, All-head, All-tail}
use Rattle.std.proofs.lemmas.Grind.{flat_map-append}
use Rattle.std.proofs.lemmas.Slice.Eq.{bytes_eq-Decides}
use Rattle.def_term.specs.Names.{Name}
use Rattle.def_script.specs.Program.{Program, Form, declares, starts, controls, Command, create, destroy, set_processes, set_function, set_send, set_receive}
use Rattle.def_script.specs.Rules.{Rule, duplicate, Breaks, any_with_earlier, creates_again, is_created, creates_session, commands_of, commands_of_form, breaks_duplicate}
use Rattle.def_script.specs.Script.{IsScript, creations}
use Rattle.def_explain.specs.RunLaws.{IsNone, IsOnce}

-- ---- conditions

false_true : (P : Type 0) → false ≡ true → P
false_true P e = cc

left_false : (a b : Bool) → (a || b) ≡ false → a ≡ false
left_false true b e = false_true (true ≡ false) (sym e)
left_false false b e = refl

right_false : (a b : Bool) → (a || b) ≡ false → b ≡ false
right_false true b e = false_true (b ≡ false) (sym e)
right_false false b e = e

both_false : (a b : Bool) → a ≡ false → b ≡ false → (a || b) ≡ false
both_false true b e f = e
both_false false b e f = f

-- ---- the commands of a control list

still_created : (n : Name) (xs ys : List Command) → is_created xs n ≡ true → is_created (xs ++ ys) n ≡ true
still_created n [] ys e = false_true (is_created ys n ≡ true) e
still_created n (x ∷ xs) ys e =
    elim (creates_session n x) as (λ b. (b || is_created xs n) ≡ true → (b || is_created (xs ++ ys) n) ≡ true) [
      | true ↦ λ f. refl
      | false ↦ λ f. still_created n xs ys f
    ] e

last_created : (n t : Name) (xs : List Command) → is_created (xs ++ create n t ∷ []) n ≡ true
last_created n t [] = ap (λ b. b || false) ((bytes_eq-Decides n n).1 refl)
last_created n t (x ∷ xs) =
    elim (creates_session n x) as (λ b. (b || is_created (xs ++ create n t ∷ []) n) ≡ true) [
      | true ↦ refl
      | false ↦ last_created n t xs
    ]

-- no two of the sessions have one name
abbrev AreOnce : List (Name × Name) → Type 0
AreOnce [] = Unit {0}
AreOnce (s ∷ ss) = IsNone s.0 ss × AreOnce ss

-- none of the sessions has the name of one that an earlier command creates
abbrev AreNew : List Command → List (Name × Name) → Type 0
AreNew earlier ss = (n : Name) → is_created earlier n ≡ true → IsNone n ss

-- the sessions of commands that create none again
record AreFresh (earlier : List Command) (ss : List (Name × Name)) : Type 0 where
  once : AreOnce ss
  others : AreNew earlier ss

skip : (earlier : List Command) (c : Command) (ss : List (Name × Name)) → AreFresh (earlier ++ c ∷ []) ss → AreFresh earlier ss
skip earlier c ss f = record { once = f.once; others = λ n e. f.others n (still_created n earlier (c ∷ []) e) }

fresh_creations : (earlier cs : List Command) → any_with_earlier creates_again earlier cs ≡ false → AreFresh earlier (creations cs)
fresh_creations earlier [] h = record { once = tt; others = λ n e. tt }
fresh_creations earlier (create s t ∷ cs) h =
    let rest = fresh_creations (earlier ++ create s t ∷ []) cs (right_false (is_created earlier s) _ h) in
    let new : is_created earlier s ≡ false = left_false (is_created earlier s) _ h in
    record {
      once = (rest.others s (last_created s t earlier), rest.once);
      others = λ n e. ((λ same. false_true ⊥ (sym new ∙ ap (is_created earlier) (sym same) ∙ e)), rest.others n (still_created n earlier (create s t ∷ []) e));
    }
fresh_creations earlier (destroy s ∷ cs) h = skip earlier (destroy s) _ (fresh_creations (earlier ++ destroy s ∷ []) cs h)
fresh_creations earlier (set_processes s p w f ∷ cs) h = skip earlier (set_processes s p w f) _ (fresh_creations (earlier ++ set_processes s p w f ∷ []) cs h)
fresh_creations earlier (set_function s m p o ∷ cs) h = skip earlier (set_function s m p o) _ (fresh_creations (earlier ++ set_function s m p o ∷ []) cs h)
fresh_creations earlier (set_send s p ∷ cs) h = skip earlier (set_send s p) _ (fresh_creations (earlier ++ set_send s p ∷ []) cs h)
fresh_creations earlier (set_receive s p ∷ cs) h = skip earlier (set_receive s p) _ (fresh_creations (earlier ++ set_receive s p ∷ []) cs h)

-- ---- the forms of a script

any_append : (earlier xs ys : List Command) → any_with_earlier creates_again earlier xs ≡ false → any_with_earlier creates_again (earlier ++ xs) ys ≡ false → any_with_earlier creates_again earlier (xs ++ ys) ≡ false
any_append earlier [] ys h k = subst (λ e. any_with_earlier creates_again e ys ≡ false) (append-nil earlier) k
any_append earlier (x ∷ xs) ys h k =
    both_false (creates_again earlier x) _ (left_false (creates_again earlier x) _ h) (
    any_append (earlier ++ x ∷ []) xs ys (right_false (creates_again earlier x) _ h) (subst (λ e. any_with_earlier creates_again e ys ≡ false) (sym (append_assoc earlier (x ∷ []) xs)) k)
    )

-- a form creates no session again where it breaks no rule
form_creates_none_again : (fs earlier : List Form) (f : Form) (later : List Form) → fs ≡ earlier ++ f ∷ later → ((n : ℕ) (r : Rule) → Breaks fs n r → ⊥) → any_with_earlier creates_again (commands_of earlier) (commands_of_form f) ≡ false
form_creates_none_again fs earlier (declares k) later whole none = refl
form_creates_none_again fs earlier (starts e) later whole none = refl
form_creates_none_again fs earlier (controls cs) later whole none =
    elim (any_with_earlier creates_again (commands_of earlier) cs) as (λ b. breaks_duplicate earlier (controls cs) ≡ b → b ≡ false) [
      | true ↦ λ h. absurd (none (suc (length earlier)) duplicate (record { earlier = earlier; breaker = controls cs; later = later; whole = whole; number = refl; broken = h }))
      | false ↦ λ h. refl
    ] refl

forms_create_none_again : (fs earlier later : List Form) → fs ≡ earlier ++ later → ((n : ℕ) (r : Rule) → Breaks fs n r → ⊥) → any_with_earlier creates_again (commands_of earlier) (commands_of later) ≡ false
forms_create_none_again fs earlier [] whole none = refl
forms_create_none_again fs earlier (f ∷ later) whole none =
    let next : commands_of (earlier ++ f ∷ []) ≡ commands_of earlier ++ commands_of_form f = flat_map-append commands_of_form earlier (f ∷ []) ∙ ap (λ z. commands_of earlier ++ z) (append-nil (commands_of_form f)) in
    let rest = forms_create_none_again fs (earlier ++ f ∷ []) later (whole ∙ sym (append_assoc earlier (f ∷ []) later)) none in
    any_append (commands_of earlier) (commands_of_form f) (commands_of later) (form_creates_none_again fs earlier f later whole none) (subst (λ e. any_with_earlier creates_again e (commands_of later) ≡ false) next rest)

-- ---- each is there once

once_after : (s : Name × Name) (all some : List (Name × Name)) → IsNone s.0 some → All (λ t. IsOnce t.0 all) some → All (λ t. IsOnce t.0 (s ∷ all)) some
once_after s all [] none each = All-nil _
once_after s all (t ∷ some) none each =
    All-cons (λ t. IsOnce t.0 (s ∷ all)) t some (inr ((λ same. none.0 (sym same)), All-head (λ t. IsOnce t.0 all) t some each)) (once_after s all some none.1 (All-tail (λ t. IsOnce t.0 all) t some each))

each_once : (ss : List (Name × Name)) → AreOnce ss → All (λ s. IsOnce s.0 ss) ss
each_once [] once = All-nil _
each_once (s ∷ ss) once = All-cons (λ t. IsOnce t.0 (s ∷ ss)) s ss (inl (refl, once.0)) (once_after s ss ss once.0 (each_once ss once.1))

pub created_once : (bytes : List ℕ) (p : Program) → IsScript bytes p → All (λ s. IsOnce s.0 (creations p.commands)) (creations p.commands)
created_once bytes p script =
    let none = forms_create_none_again script.forms [] script.forms refl script.kept in
    let fresh = fresh_creations [] (commands_of script.forms) none in
    subst (λ q. All (λ s. IsOnce s.0 (creations q.commands)) (creations q.commands)) (sym script.made) (each_once _ fresh.once)

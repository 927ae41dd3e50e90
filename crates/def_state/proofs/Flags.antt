-- The flags that are written are read back.
use Rattle.std.proofs.Common.{◌≡◌, ◌∙◌, Bool, true, false, ◌&&◌, ◌||◌, if◌then◌else◌, List, [], ◌∷◌, ◌++◌, Some, refl, ap}
use Rattle.def_term.specs.Tree.{atom, of_elements}
use Rattle.def_term.specs.Names.{Name}
use Rattle.def_spec.specs.Flags.{Flag, Flags, no_flags, only, union, flag_named, and_flag, flags_named, flags_by_name, send_flag, receive_flag, call_flag, procs_flag, silent_flag, arity_flag, set_on_spawn, set_on_first_spawn, set_on_link, set_on_first_link}
use Rattle.def_state.specs.SessionTexts.{flag_where, flags_among}
use Rattle.def_state.specs.Laws.{FlagsAreReadBack}

-- the flags of a set that are among these
abbrev rest_of : Flags → List (Name × Flag) → Flags
rest_of f [] = no_flags
rest_of f (e ∷ es) = if f e.1 then union (only e.1) (rest_of f es) else rest_of f es

-- each of these names is that of its flag
abbrev AreNames : List (Name × Flag) → Type 0
AreNames [] = Unit {0}
AreNames (e ∷ es) = (flag_named (atom e.0) ≡ Some e.1) × AreNames es

named : (f : Flags) (es : List (Name × Flag)) → AreNames es → flags_named (of_elements (flags_among f es)) ≡ Some (rest_of f es)
named f [] h = refl
named f (e ∷ es) h = go (f e.1) (named f es h.1)
  where
    go : (b : Bool) → flags_named (of_elements (flags_among f es)) ≡ Some (rest_of f es)
        → flags_named (of_elements (flag_where b e.0 ++ flags_among f es)) ≡ Some (if b then union (only e.1) (rest_of f es) else rest_of f es)
    go true k = ap (λ x. and_flag x (flags_named (of_elements (flags_among f es)))) h.0 ∙ ap (and_flag (Some e.1)) k
    go false k = k

-- a flag is in the set where it is the first, or among the others
first_or : (f : Flags) (e : Name × Flag) (es : List (Name × Flag)) (x : Flag) → rest_of f (e ∷ es) x ≡ (f e.1 && only e.1 x || rest_of f es x)
first_or f e es x = go (f e.1)
  where
    go : (b : Bool) → (if b then union (only e.1) (rest_of f es) else rest_of f es) x ≡ (b && only e.1 x || rest_of f es x)
    go true = refl
    go false = refl

other : (f : Flags) (e : Name × Flag) (es : List (Name × Flag)) (x : Flag) → only e.1 x ≡ false → rest_of f (e ∷ es) x ≡ rest_of f es x
other f e es x h = first_or f e es x ∙ ap (λ b. f e.1 && b || rest_of f es x) h ∙ go (f e.1)
  where
    go : (b : Bool) → (b && false || rest_of f es x) ≡ rest_of f es x
    go true = refl
    go false = refl

same_flag : (f : Flags) (e : Name × Flag) (es : List (Name × Flag)) → only e.1 e.1 ≡ true → rest_of f es e.1 ≡ false → rest_of f (e ∷ es) e.1 ≡ f e.1
same_flag f e es h none = first_or f e es e.1 ∙ ap (λ b. f e.1 && b || rest_of f es e.1) h ∙ ap (λ b. f e.1 && true || b) none ∙ go (f e.1)
  where
    go : (b : Bool) → (b && true || false) ≡ b
    go true = refl
    go false = refl

-- the flag is none of these
abbrev AreOthers : Flag → List (Name × Flag) → Type 0
AreOthers x [] = Unit {0}
AreOthers x (e ∷ es) = (only e.1 x ≡ false) × AreOthers x es

none_among : (f : Flags) (es : List (Name × Flag)) (x : Flag) → AreOthers x es → rest_of f es x ≡ false
none_among f [] x h = refl
none_among f (e ∷ es) x h = other f e es x h.0 ∙ none_among f es x h.1

-- the flag is one of these, and only once
data IsOnce (x : Flag) : List (Name × Flag) → Type 0 where
  here : {n : Name} {es : List (Name × Flag)} → only x x ≡ true → AreOthers x es → IsOnce x ((n, x) ∷ es)
  later : {e : Name × Flag} {es : List (Name × Flag)} → only e.1 x ≡ false → IsOnce x es → IsOnce x (e ∷ es)

once : (f : Flags) (x : Flag) {es : List (Name × Flag)} → IsOnce x es → rest_of f es x ≡ f x
once f x (here {n} {es} h others) = same_flag f (n, x) es h (none_among f es x others)
once f x (later {e} {es} h rest) = other f e es x h ∙ once f x rest

ten_names : AreNames flags_by_name
ten_names = (refl, (refl, (refl, (refl, (refl, (refl, (refl, (refl, (refl, (refl, tt))))))))))

each_once : (x : Flag) → IsOnce x flags_by_name
each_once send_flag = here refl (refl, (refl, (refl, (refl, (refl, (refl, (refl, (refl, (refl, tt)))))))))
each_once receive_flag = later refl (here refl (refl, (refl, (refl, (refl, (refl, (refl, (refl, (refl, tt)))))))))
each_once call_flag = later refl (later refl (here refl (refl, (refl, (refl, (refl, (refl, (refl, (refl, tt)))))))))
each_once procs_flag = later refl (later refl (later refl (here refl (refl, (refl, (refl, (refl, (refl, (refl, tt)))))))))
each_once silent_flag = later refl (later refl (later refl (later refl (here refl (refl, (refl, (refl, (refl, (refl, tt)))))))))
each_once arity_flag = later refl (later refl (later refl (later refl (later refl (here refl (refl, (refl, (refl, (refl, tt)))))))))
each_once set_on_spawn = later refl (later refl (later refl (later refl (later refl (later refl (here refl (refl, (refl, (refl, tt)))))))))
each_once set_on_first_spawn = later refl (later refl (later refl (later refl (later refl (later refl (later refl (here refl (refl, (refl, tt)))))))))
each_once set_on_link = later refl (later refl (later refl (later refl (later refl (later refl (later refl (later refl (here refl (refl, tt)))))))))
each_once set_on_first_link = later refl (later refl (later refl (later refl (later refl (later refl (later refl (later refl (later refl (here refl tt)))))))))

pub read_back : FlagsAreReadBack
read_back f = (rest_of f flags_by_name, named f flags_by_name ten_names, λ x. once f x (each_once x))

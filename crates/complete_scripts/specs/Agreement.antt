-- When two answers are the same.
use Rattle.std.specs.Prelude.{◌≡◌, Option, Some, None, Result, Ok, Err}
use Rattle.std.specs.Option.{option_map}

-- what an answer says: what it is seen as, or its fault; nothing where memory was refused
abbrev pub answer_of : {T E V F : Type 0} → (T → V) → (E → Option F) → Result T E → Option (Result V F)
answer_of view fault (Ok x) = Some (Ok (view x))
answer_of view fault (Err e) = option_map Err (fault e)

-- two answers are the same, where each says something
abbrev pub Agree : {T : Type 0} → Option T → Option T → Type 0
Agree None other = Unit {0}
Agree (Some x) None = Unit {0}
Agree (Some x) (Some y) = x ≡ y

-- this holds, where each says something
abbrev pub WhereBoth : {T : Type 0} → Option T → Option T → Type 0 → Type 0
WhereBoth None other holds = Unit {0}
WhereBoth (Some x) None holds = Unit {0}
WhereBoth (Some x) (Some y) holds = holds

-- The parts of the texts of effects.
use Rattle.std.specs.Prelude.{◌≡◌, ℕ, Bool, if◌then◌else◌, List, [], ◌∷◌, ◌++◌, codes}
use Rattle.std.specs.Borrow.{Bor}
use Rattle.def_spec.specs.Expressions.{Effect}
use Rattle.def_explain.specs.Texts.{effect_text}

-- a name after a verb, where it is said
abbrev pub text_where : Bool → List ℕ → List ℕ → List ℕ
text_where holds verb name = if holds then verb ++ name else []

-- those names that are said, each after a verb
abbrev pub said_of : List ℕ → List (Bor (List ℕ) × Bool) → List ℕ
said_of verb [] = []
said_of verb (e ∷ es) = text_where e.1 verb e.0.now ++ said_of verb es

-- an effect after a comma
abbrev pub next_effect_text : Effect → List ℕ
next_effect_text e = codes ", " ++ effect_text e

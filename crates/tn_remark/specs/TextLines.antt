-- The lines of what is said of a script's commands, each with the place where its command begins (own).
-- Depends on places in a text, and on what a line says of a command.
use Rattle.std.specs.Prelude.{ℕ, suc, List, [], ◌∷◌, ◌++◌, map, slice_get, Option, Some, None}
use Rattle.std.specs.Option.{option_map}
use Rattle.std.specs.declared.vec.Vec.{Vec}
use Rattle.def_explain.specs.Remarks.{command_text}
use Rattle.tn_refusal.specs.Locations.{mark_text, spot_at}
use Rattle.tn_refusal.specs.declared.location.Location.{Location}
use Rattle.tn_refusal.specs.declared.location.Location.TheVariants.{Whole}

-- where a command begins: the line and the column, where the offset is known
abbrev pub command_mark : List ℕ → Option ℕ → Location
command_mark bytes None = Whole
command_mark bytes (Some at) = spot_at bytes at

-- the name and where the command begins, and then what is said of the command of this number
abbrev pub text_line : (name bytes : List ℕ) → Option ℕ → ℕ → List ℕ → List ℕ
text_line name bytes start n said = mark_text name (command_mark bytes start) ++ command_text n said ++ 10 ∷ []

-- the line, where something is said
abbrev pub line_of_text : (name bytes : List ℕ) → Option ℕ → ℕ → Option (List ℕ) → List ℕ
line_of_text name bytes start n None = []
line_of_text name bytes start n (Some said) = text_line name bytes start n said

-- the lines of what is said of the commands after so many
abbrev pub lines_of_texts : (name bytes starts : List ℕ) → ℕ → List (Option (List ℕ)) → List ℕ
lines_of_texts name bytes starts n [] = []
lines_of_texts name bytes starts n (t ∷ ts) = line_of_text name bytes (slice_get starts n) (suc n) t ++ lines_of_texts name bytes starts (suc n) ts

-- the text, where there is one
abbrev pub text_seen : {A : Type 0} → Option (Vec ℕ A) → Option (List ℕ)
text_seen t = option_map (λ v. v.items) t

-- of each
abbrev pub texts_seen : {A : Type 0} → List (Option (Vec ℕ A)) → List (Option (List ℕ))
texts_seen ts = map text_seen ts

-- The names of a head get more at their end alone.
use Rattle.std.proofs.Common.{◌≡◌, List, [], ◌∷◌, ◌++◌, Bool, true, false, ◌||◌, cond, Option, refl, ap, sym, ◌∙◌}
use Rattle.std.specs.Str.{bytes_eq}
use Rattle.std.proofs.lemmas.List.{append_assoc, append-nil}
use Rattle.def_term.specs.Names.{Name}
use Rattle.def_term.specs.Text.{is_among}
use Rattle.def_fun.specs.Variables.{ANY, is_of_whole, with_name, with_names}

-- names after others
pub names_after : (w : Option Name) (ns ss us : List Name) → with_names w ns (ss ++ us) ≡ with_names w (with_names w ns ss) us
names_after w ns [] us = refl
names_after w ns (s ∷ ss) us = names_after w (with_name w ns s) ss us

grown_by : (b : Bool) (ns : List Name) (s : Name) → (more : List Name) × (cond b ns (ns ++ s ∷ []) ≡ ns ++ more)
grown_by true ns s = ([], sym (append-nil ns))
grown_by false ns s = (s ∷ [], refl)

-- what there was stays in front
pub names_grow : (w : Option Name) (ns ss : List Name) → (more : List Name) × (with_names w ns ss ≡ ns ++ more)
names_grow w ns [] = ([], sym (append-nil ns))
names_grow w ns (s ∷ ss) =
    let one = grown_by (is_of_whole w s || (bytes_eq s ANY || is_among ns s)) ns s in
    let rest = names_grow w (with_name w ns s) ss in
    (one.0 ++ rest.0, rest.1 ∙ ap (λ l. l ++ rest.0) one.1 ∙ append_assoc ns one.0 rest.0)

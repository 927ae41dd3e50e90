-- A tuple of a session, a term and the empty list, read as the creation of a session.
use Rattle.std.proofs.Common.{◌≡◌, Bool, true, false, List, [], ◌∷◌, Option, Some, None, refl, ap, ◌∙◌, if◌then◌else◌}
use Rattle.std.specs.Option.{option_map}
use Rattle.def_term.specs.Tree.{Tree}
use Rattle.def_term.specs.Names.{Name}
use Rattle.def_script.specs.Program.{create, set_send}
use Rattle.def_script.specs.Shapes.{both, name_in, is_empty_list, create_in, specified_in}

both_some : (n : Name) (o : Option Name) → option_map (create n) o ≡ both create (Some n) o
both_some n None = refl
both_some n (Some t) = refl

both_none : (o : Option Name) → None ≡ both create None o
both_none o = refl

created_if : (b : Bool) (o : Option Name) (u t : Tree) (n : Name) → Some (set_send n t) ≡ (if b then option_map (λ m. set_send m u) o else None)
    → option_map (create n) (name_in t) ≡ (if b then both create o (name_in u) else None)
created_if false o u t n e = cc
created_if true None u t n e = cc
created_if true (Some m) u t n e =
    let names : n ≡ m = cc in
    let terms : t ≡ u = cc in
    ap (λ k. option_map (create k) (name_in t)) names ∙ ap (λ v. option_map (create m) (name_in v)) terms ∙ both_some m (name_in u)

not_created_if : (b : Bool) (o : Option Name) (u : Tree) → None ≡ (if b then option_map (λ m. set_send m u) o else None) → None ≡ (if b then both create o (name_in u) else None)
not_created_if false o u e = refl
not_created_if true None u e = refl
not_created_if true (Some m) u e = cc

pub created : (ts : List Tree) (n : Name) (t : Tree) → Some (set_send n t) ≡ specified_in set_send ts → option_map (create n) (name_in t) ≡ create_in ts
created [] n t e = cc
created (a ∷ []) n t e = cc
created (a ∷ b ∷ []) n t e = cc
created (a ∷ b ∷ c ∷ []) n t e = cc
created (a ∷ s ∷ u ∷ d ∷ []) n t e = created_if (is_empty_list d) (name_in s) u t n e
created (a ∷ b ∷ c ∷ d ∷ f ∷ ts) n t e = cc

pub not_created : (ts : List Tree) → None ≡ specified_in set_send ts → None ≡ create_in ts
not_created [] e = refl
not_created (a ∷ []) e = refl
not_created (a ∷ b ∷ []) e = refl
not_created (a ∷ b ∷ c ∷ []) e = refl
not_created (a ∷ s ∷ u ∷ d ∷ []) e = not_created_if (is_empty_list d) (name_in s) u e
not_created (a ∷ b ∷ c ∷ d ∷ f ∷ ts) e = refl

-- The names of flags, and the line of what has some and of what has none.
use Rattle.std.proofs.Common.{◌≡◌, ◌<◌, List, [], ◌∷◌, ◌++◌, length, map, refl, arith}
use Rattle.def_term.specs.Tree.{Tree}
use Rattle.def_state.specs.Lines.{terms_line}
use Rattle.def_spec.specs.Flags.{Flag, Flags}
use Rattle.def_term.specs.Names.{Name}
use Rattle.def_state.specs.SessionTexts.{flag_where, flags_among, flags_term, owner_flags_text}
use Rattle.tn_state.proofs.Texts.{joined_more}

pub some_flags : {X : Type 0} (t : Tree) (of : X → Tree) (xs : List X) → 0 < length xs → owner_flags_text t (map of xs) ≡ terms_line (t ∷ flags_term (map of xs) ∷ [])
some_flags t of [] some = absurd (omega (arith, some))
some_flags t of (x ∷ xs) some = refl

-- the name of one flag more, before those of the others
pub one_flag : (f : Flags) (e : Name × Flag) (es : List (Name × Flag)) (old new : List Tree) → new ≡ old ++ flag_where (f e.1) e.0 → new ++ flags_among f es ≡ old ++ flags_among f (e ∷ es)
one_flag f e es old new added = joined_more old new (flag_where (f e.1) e.0) (flags_among f es) added

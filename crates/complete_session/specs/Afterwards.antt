-- What two calls answer.
use Rattle.std.specs.Prelude.{Option}
use Rattle.std.specs.Option.{option_map}
use Rattle.def_term.specs.Tree.{Tree}
use Rattle.tn_term.specs.Views.{tree_of}
use Rattle.tn_term.specs.declared.term.Term.{Term}

-- a message as a term, where there is one
abbrev pub term_seen : {A : Type 0} → Option (Term A) → Option Tree
term_seen m = option_map tree_of m

-- Stack traces in trace messages (the type `stacktrace()` of the module `erlang`; "Stacktrace" in "Errors and Error Handling" of the Erlang Reference Manual). A model of a node has none: each is the empty list (own).
-- Depends on terms.
use Rattle.std.specs.Prelude.{Bool, true, false, ◌&&◌, ◌||◌, if◌then◌else◌}
use Rattle.def_term.specs.Tree.{Tree, int, atom, pid, tuple, list, Trees, none, more}

-- the term is an atom
abbrev pub is_atom : Tree → Bool
is_atom (atom s) = true
is_atom t = false

-- the term is an integer
abbrev pub is_int : Tree → Bool
is_int (int n) = true
is_int t = false

-- the term is a list
abbrev pub is_list : Tree → Bool
is_list (list ts) = true
is_list t = false

-- {Module,Function,Arity,ExtraInfo}, or with the arguments in the place of the arity; the information is a list
abbrev pub is_stack_entry : Tree → Bool
is_stack_entry (tuple (more m (more f (more a (more l none))))) = is_atom m && (is_atom f && ((is_int a || is_list a) && is_list l))
is_stack_entry t = false

-- each is one
abbrev pub are_stack_entries : Trees → Bool
are_stack_entries none = true
are_stack_entries (more t ts) = is_stack_entry t && are_stack_entries ts

-- the elements of a list are those of a stack trace: there is one, and each is an entry
abbrev pub is_stack : Trees → Bool
is_stack none = false
is_stack (more t ts) = are_stack_entries (more t ts)

abbrev mutual
  -- the term with the empty list for each stack trace in it
  pub without_stacks : Tree → Tree
  without_stacks (int n) = int n
  without_stacks (atom s) = atom s
  without_stacks (pid n) = pid n
  without_stacks (tuple ts) = tuple (each_without_stacks ts)
  without_stacks (list ts) = if is_stack ts then list none else list (each_without_stacks ts)

  -- each element so
  pub each_without_stacks : Trees → Trees
  each_without_stacks none = none
  each_without_stacks (more t ts) = more (without_stacks t) (each_without_stacks ts)

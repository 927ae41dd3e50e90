-- Names: atoms that name a module, a function, a variable or a session, and the functions that they name.
-- Depends on terms. {M,F,Arity} is that of trace:process/4.
use Rattle.std.specs.Prelude.{ℕ, ◌==◌, Bool, ◌&&◌, List, codes, pos}
use Prim.Native.String.{String}
use Rattle.std.specs.Str.{bytes_eq}
use Rattle.def_term.specs.Tree.{Tree, int, atom, tuple, none, more}

-- an atom's characters
abbrev pub Name : Type 0
Name = List ℕ

-- a function: its module, its name and its number of parameters
pub record Mfa : Type 0 where
  pub module_name : Name
  pub function_name : Name
  pub arity : ℕ

-- the function of this module, name and number of arguments
abbrev pub mfa_from : Name → Name → ℕ → Mfa
mfa_from m f n = record { module_name = m; function_name = f; arity = n }

-- the same module, name and number of parameters
abbrev pub same_mfa : Mfa → Mfa → Bool
same_mfa a b = bytes_eq a.module_name b.module_name && (bytes_eq a.function_name b.function_name && a.arity == b.arity)

-- the atom of these characters
abbrev pub word : String → Tree
word s = atom (codes s)

-- {M,F,Arity}
abbrev pub mfa_term : Mfa → Tree
mfa_term f = tuple (more (atom f.module_name) (more (atom f.function_name) (more (int (pos f.arity)) none)))

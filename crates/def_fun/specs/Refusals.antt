-- How a text that is no fun, or that has no specification, is refused: the line on standard output (own). The refusals 1 to 4 are those of scripts.
-- Depends on names and on written atoms.
use Rattle.std.specs.Prelude.{ℕ, List, ◌++◌, codes, decimal, Result, Ok, Err}
use Rattle.def_term.specs.Names.{Name}
use Rattle.def_term.specs.Text.{atom_text}

-- each with what it names, and the offset of what is refused
pub data FunRefusal : Type 0 where
  too_long : FunRefusal
  misplaced_token : ℕ → FunRefusal
  no_such : Name → ℕ → FunRefusal
  too_deep_at : ℕ → FunRefusal
  too_large_at : ℕ → FunRefusal
  unbound : Name → ℕ → FunRefusal
  -- by its name and its number of arguments
  no_function : Name → ℕ → ℕ → FunRefusal
  unsupported : Name → ℕ → FunRefusal
  head_atom : Name → ℕ → FunRefusal
  list_with_tail : ℕ → FunRefusal
  minus_alone : ℕ → FunRefusal
  whole_head : Name → ℕ → FunRefusal

-- the offset at the end of a line
abbrev pub at_offset_text : ℕ → List ℕ
at_offset_text at = codes " at " ++ decimal at

-- the line, without its line feed
abbrev pub fun_refusal_line : FunRefusal → List ℕ
fun_refusal_line too_long = codes "refused 1 too long"
fun_refusal_line (misplaced_token at) = codes "refused 2 token" ++ at_offset_text at
fun_refusal_line (no_such s at) = codes "refused 21 no " ++ s ++ at_offset_text at
fun_refusal_line (too_deep_at at) = codes "refused 3 too deep" ++ at_offset_text at
fun_refusal_line (too_large_at at) = codes "refused 4 too large" ++ at_offset_text at
fun_refusal_line (unbound s at) = codes "refused 22 unbound " ++ s ++ at_offset_text at
fun_refusal_line (no_function f n at) = codes "refused 23 no function " ++ atom_text f ++ codes "/" ++ decimal n ++ at_offset_text at
fun_refusal_line (unsupported f at) = codes "refused 24 unsupported " ++ atom_text f ++ at_offset_text at
fun_refusal_line (head_atom a at) = codes "refused 25 head atom " ++ atom_text a ++ at_offset_text at
fun_refusal_line (list_with_tail at) = codes "refused 26 list with a tail" ++ at_offset_text at
fun_refusal_line (minus_alone at) = codes "refused 27 minus" ++ at_offset_text at
fun_refusal_line (whole_head s at) = codes "refused 28 whole head " ++ s ++ at_offset_text at

-- a value, or the refusal
abbrev pub OrRefusal : Type 0 → Type 0
OrRefusal X = Result X FunRefusal

-- goes on with the value; the first refusal is that of the whole
abbrev pub then_fun : {X Y : Type 0} → OrRefusal X → (X → OrRefusal Y) → OrRefusal Y
then_fun (Ok x) f = f x
then_fun (Err r) f = Err r

-- What is said on standard error of a fun that is refused (own).
-- Depends on refusals and on places in a text.
use Rattle.std.specs.Prelude.{ℕ, List, [], ◌++◌, Option, Some, None, codes, decimal}
use Rattle.def_text.specs.Places.{place_at}
use Rattle.def_fun.specs.Refusals.{FunRefusal, too_long, misplaced_token, no_such, too_deep_at, too_large_at, unbound, no_function, unsupported, head_atom, list_with_tail, minus_alone, whole_head}

-- what is wrong, and what to write instead
abbrev pub refusal_words : FunRefusal → List ℕ
refusal_words too_long = codes "the text has more than 1048576 bytes"
refusal_words (misplaced_token at) = codes "no fun has this here, or the text ends too soon"
refusal_words (no_such s at) = codes "a match specification has nothing for this"
refusal_words (too_deep_at at) = codes "this nests too deep"
refusal_words (too_large_at at) = codes "this is past a limit"
refusal_words (unbound s at) = codes "the head doesn't bind this variable; write a value in its place"
refusal_words (no_function f n at) = codes "no such function may be called here; actions are in bodies"
refusal_words (unsupported f at) = codes "this function isn't modelled"
refusal_words (head_atom a at) = codes "an atom of $ and a number is a variable in a head"
refusal_words (list_with_tail at) = codes "a tail is a list or a string here"
refusal_words (minus_alone at) = codes "write 0 - X"
refusal_words (whole_head s at) = codes "both parts of the head are this variable"

-- the offset of what is refused; a text that is too long has none
abbrev pub fun_refusal_offset : FunRefusal → Option ℕ
fun_refusal_offset too_long = None
fun_refusal_offset (misplaced_token at) = Some at
fun_refusal_offset (no_such s at) = Some at
fun_refusal_offset (too_deep_at at) = Some at
fun_refusal_offset (too_large_at at) = Some at
fun_refusal_offset (unbound s at) = Some at
fun_refusal_offset (no_function f n at) = Some at
fun_refusal_offset (unsupported f at) = Some at
fun_refusal_offset (head_atom a at) = Some at
fun_refusal_offset (list_with_tail at) = Some at
fun_refusal_offset (minus_alone at) = Some at
fun_refusal_offset (whole_head s at) = Some at

-- `LINE:COLUMN:` of an offset
abbrev pub fun_place_text : List ℕ → Option ℕ → List ℕ
fun_place_text text None = []
fun_place_text text (Some at) = decimal (place_at text at).line ++ codes ":" ++ decimal (place_at text at).column ++ codes ":"

-- the line on standard error, without its line feed: `fun:LINE:COLUMN: ` and the words, or `fun: ` where there is no place
abbrev pub refusal_notice : List ℕ → FunRefusal → List ℕ
refusal_notice text r = codes "fun:" ++ fun_place_text text (fun_refusal_offset r) ++ codes " " ++ refusal_words r

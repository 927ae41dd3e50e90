-- The tails of lists.
use Rattle.std.specs.Prelude.{ℕ, if◌then◌else◌, Ok, Err}
use Rattle.def_fun.specs.Trees.{FunExpr, first_byte}
use Rattle.def_fun.specs.Refusals.{OrRefusal, list_with_tail}
use Rattle.def_fun.specs.Translation.{is_proper_tail}

-- the offset of a tail that is a list or strings
abbrev pub tail_offset : FunExpr → OrRefusal ℕ
tail_offset e = if is_proper_tail e then Ok (first_byte e) else Err (list_with_tail (first_byte e))

use Rattle.std.proofs.Common.{[], ap, sym, ◌∙◌}
use Rattle.def_fun.specs.Trees.{first_byte}
use Rattle.complete_funs.proofs.offset.first_byte.Goals as goal

pub returns : goal.returns
returns g c = c.first_byte.ensures [] ∙ ap first_byte (c.requires []) ∙ sym (c.first_byte-2.ensures [])

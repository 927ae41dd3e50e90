use Rattle.std.proofs.Common.{◌≡◌, drop, map}
use Rattle.def_fun.specs.Trees.{joined_codes}
use Rattle.tn_fun.specs.Trees.{string_codes, strings_codes}
use Rattle.tn_translation.proofs.atoms.joined_codes.Given as goal

abbrev pub invariant-loop-other : goal.invariant-loop-other
invariant-loop-other g l = joined_codes l.codes.items (map (string_codes l.bytes) (drop l.other-index l.other-items)) ≡ strings_codes l.bytes l.fn.first l.others.items

use Rattle.std.proofs.Common.{◌≡◌, drop}
use Rattle.def_fun.specs.FunTexts.{are_character_codes}
use Rattle.tn_term.specs.Views.{trees_of}
use Rattle.tn_fun_text.proofs.lists.are_characters.Given as goal

abbrev pub invariant-loop-i : goal.invariant-loop-i
invariant-loop-i g l = are_character_codes (trees_of (drop l.i l.terms.items)) ≡ are_character_codes (trees_of l.terms.items)

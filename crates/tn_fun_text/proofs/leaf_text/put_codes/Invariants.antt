use Rattle.std.proofs.Common.{◌≡◌, ◌++◌, true}
use Rattle.def_fun.specs.FunTexts.{are_character_codes}
use Rattle.tn_term.specs.Views.{trees_of}
use Rattle.tn_fun_text.specs.Terms.{terms_from}
use Rattle.tn_fun_text.specs.Texts.{each_character}
use Rattle.tn_fun_text.proofs.leaf_text.put_codes.Given as goal

abbrev pub invariant-loop-i : goal.invariant-loop-i
invariant-loop-i g l = record {
  characters : are_character_codes (terms_from l.i l.terms) ≡ true;
  written : l.out.items ++ each_character (terms_from l.i l.terms) ≡ l.fn.out.items ++ each_character (trees_of l.terms.items);
}

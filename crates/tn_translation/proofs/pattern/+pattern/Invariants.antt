use Rattle.std.proofs.Common.{◌≡◌, ◌++◌, drop, Ok}
use Rattle.def_fun.specs.Variables.{ClauseNames}
use Rattle.def_fun.specs.Refusals.{then_fun}
use Rattle.def_fun.specs.Translation.{pattern_terms}
use Rattle.tn_fun.specs.Trees.{fun_exprs_seen}
use Rattle.tn_translation.specs.Names.{clause_names_seen, more_names, variables_of_each, Extends}
use Rattle.tn_translation.specs.Values.{term_row_seen}
use Rattle.tn_translation.proofs.pattern.+pattern.Given as goal

abbrev pub invariant-pattern_terms-loop-item : goal.invariant-pattern_terms-loop-item
invariant-pattern_terms-loop-item g l = record {
  whole : more_names (clause_names_seen l.names) (variables_of_each l.bytes (drop l.item-index l.item-items)) ≡ more_names (clause_names_seen l.initial.names) (variables_of_each l.bytes l.items.items);
  so_far : (ns : ClauseNames) → Extends (clause_names_seen l.initial.names) (variables_of_each l.bytes l.items.items) ns
      → pattern_terms ns (fun_exprs_seen l.bytes l.items.items) ≡ then_fun (pattern_terms ns (fun_exprs_seen l.bytes (drop l.item-index l.item-items))) (λ ts. Ok (term_row_seen l.terms ++ ts));
}

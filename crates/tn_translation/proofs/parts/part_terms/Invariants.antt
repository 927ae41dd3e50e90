use Rattle.std.proofs.Common.{◌≡◌, ◌++◌, drop, Ok}
use Rattle.def_fun.specs.Refusals.{then_fun}
use Rattle.tn_fun.specs.Trees.{fun_row_seen}
use Rattle.tn_translation.specs.Scopes.{part_terms_in, text_of}
use Rattle.tn_translation.specs.Values.{term_row_seen}
use Rattle.tn_translation.proofs.parts.part_terms.Given as goal

abbrev pub invariant-loop-expr : goal.invariant-loop-expr
invariant-loop-expr g l =
    part_terms_in l.scope (fun_row_seen (text_of l.scope) l.exprs.items) ≡ then_fun (part_terms_in l.scope (fun_row_seen (text_of l.scope) (drop l.expr-index l.expr-items))) (λ ts. Ok (term_row_seen l.terms ++ ts))

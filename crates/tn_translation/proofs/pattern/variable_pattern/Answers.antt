use Rattle.std.proofs.Common.{subst}
use Rattle.def_fun.specs.Translation as spec
use Rattle.tn_fun.specs.Trees.{token_name}
use Rattle.tn_term.specs.Views.{tree_of}
use Rattle.tn_translation.specs.Faults.{GivesFun}
use Rattle.tn_translation.specs.Names.{clause_names_seen}
use Rattle.tn_translation.proofs.NamesGrow.{names_added, added_kind}
use Rattle.tn_translation.proofs.pattern.variable_pattern.Goals as goal

pub returns-clause-term : goal.returns-clause-term
returns-clause-term g c = λ ns e.
    let text = c.args.bytes.now in
    let s = token_name text c.args.token in
    let old = clause_names_seen c.args.names.now in
    let now = clause_names_seen c.add.new.self in
    let grown = names_added old now c.in_ok-name_of.field-0.items s c.in_ok-name_of.ensures c.in_ok-add.ensures.whole c.in_ok-add.ensures.numbers in
    subst (λ k. GivesFun tree_of text c.variable_term.result (spec.variable_term s c.args.token.from k)) (added_kind old now ns s grown e) c.variable_term.ensures

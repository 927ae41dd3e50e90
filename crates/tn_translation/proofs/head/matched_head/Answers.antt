use Rattle.std.proofs.Common.{ap, sym, ◌∙◌}
use Rattle.std.proofs.lemmas.Result.{err_from_is_err_and}
use Rattle.def_fun.specs.Translation.{pattern_term}
use Rattle.tn_fun.specs.Trees.{fun_expr_seen}
use Rattle.tn_term.specs.Views.{tree_of}
use Rattle.tn_translation.specs.Names.{clause_names_seen, more_names, variables_of}
use Rattle.tn_translation.specs.Specifications.{matched_names}
use Rattle.tn_translation.proofs.NamesGrow.{extends_all}
use Rattle.tn_translation.proofs.Steps.{refused_then, refused_same, then_value}
use Rattle.tn_translation.proofs.head.matched_head.Goals as goal

pub returns-in_err-whole_term : goal.returns-in_err-whole_term
returns-in_err-whole_term g c =
    let text = c.args.bytes.now in
    let vars = variables_of text c.args.part.now in
    let ns = matched_names text c.args.whole vars in
    let ext = extends_all (clause_names_seen c.in_ok-names.names) ns vars (ap (λ n. more_names n vars) (sym c.in_ok-names.ensures)) in
    let p = err_from_is_err_and c.from_residual-in_err-whole_term.result c.from_residual-in_err-whole_term.ensures.1 in
    rw (p.1, p.2) (refused_then _ (pattern_term ns (fun_expr_seen text c.args.part.now)) _ (c.in_err-whole_term.ensures.term ns ext))

pub returns-in_err-term : goal.returns-in_err-term
returns-in_err-term g c =
    let text = c.args.bytes.now in
    let vars = variables_of text c.args.part.now in
    let ns = matched_names text c.args.whole vars in
    let ext = extends_all (clause_names_seen c.in_ok-names.names) ns vars (ap (λ n. more_names n vars) (sym c.in_ok-names.ensures)) in
    let p = err_from_is_err_and c.from_residual-in_err-term.result c.from_residual-in_err-term.ensures.1 in
    rw (p.1, p.2) (refused_same _ _ _ (then_value (pattern_term ns (fun_expr_seen text c.args.part.now)) _ (tree_of c.in_ok-whole_term.whole_term) (c.in_ok-whole_term.ensures.term ns ext)) (c.in_err-term.ensures text))

pub returns : goal.returns
returns g c =
    let text = c.args.bytes.now in
    let vars = variables_of text c.args.part.now in
    let ns = matched_names text c.args.whole vars in
    let ext = extends_all (clause_names_seen c.in_ok-names.names) ns vars (ap (λ n. more_names n vars) (sym c.in_ok-names.ensures)) in (
      then_value (pattern_term ns (fun_expr_seen text c.args.part.now)) _ (tree_of c.in_ok-whole_term.whole_term) (c.in_ok-whole_term.ensures.term ns ext) ∙ c.in_ok-term.ensures text,
      c.in_ok-whole_term.ensures.names ∙ ap (λ n. more_names n vars) c.in_ok-names.ensures,
    )

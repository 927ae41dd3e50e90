use Rattle.std.proofs.Common.{◌≡◌, true, Some, None, Err, refl, ap, sym, ◌∙◌, subst, IfSome}
use Rattle.std.specs.Option.{option_map}
use Rattle.std.specs.Str.{bytes_eq}
use Rattle.def_fun.specs.Refusals.{whole_head}
use Rattle.def_fun.specs.Trees.{first_byte as first_byte_of}
use Rattle.def_fun.specs.Variables.{name_of_variable}
use Rattle.tn_fun.specs.Trees.{token_name, fun_expr_seen}
use Rattle.tn_translation.proofs.Heads.{same_names, two_parts}
use Rattle.tn_translation.proofs.head.head_of_two.Goals as goal

pub returns-then-branch : goal.returns-then-branch
returns-then-branch g c =
    let text = c.args.bytes.now in
    let a = fun_expr_seen text c.args.first.now in
    let b = fun_expr_seen text c.args.second.now in
    let m = c.in-Some-Some in
    let s = token_name text m.one in
    let u = token_name text m.other in
    let one : Some s ≡ name_of_variable a = ap (option_map (token_name text)) (sym m.is-0) ∙ c.variable_of.ensures.name text in
    let other : Some u ≡ name_of_variable b = ap (option_map (token_name text)) (sym m.is-1) ∙ c.variable_of-2.ensures.name text in
    let place : m.other.from ≡ first_byte_of b = subst (λ o. IfSome o (λ v. v.from ≡ first_byte_of b)) m.is-1 (c.variable_of-2.ensures.place text) in
    let same : bytes_eq s u ≡ true = sym c.in_ok-is_same_name-in-Some-Some.ensures ∙ c.if-branch.true in
    same_names a b (Some s) (Some u) one other same ∙ ap (λ n. Err (whole_head u n)) (sym place)

pub returns-in-Some-None : goal.returns-in-Some-None
returns-in-Some-None g c =
    let text = c.args.bytes.now in
    let a = fun_expr_seen text c.args.first.now in
    let b = fun_expr_seen text c.args.second.now in
    let m = c.in-Some-None in
    let s = token_name text m.one in
    let one : Some s ≡ name_of_variable a = ap (option_map (token_name text)) (sym m.is-0) ∙ c.variable_of.ensures.name text in
    let other : None ≡ name_of_variable b = ap (option_map (token_name text)) (sym m.is-1) ∙ c.variable_of-2.ensures.name text in
    two_parts a b (Some s) None one other text c.matched_head-in-Some-None.result c.first_byte-at.result refl (c.first_byte-at.ensures text) c.matched_head-in-Some-None.ensures

pub returns-in-None-default : goal.returns-in-None-default
returns-in-None-default g c =
    let text = c.args.bytes.now in
    let a = fun_expr_seen text c.args.first.now in
    let b = fun_expr_seen text c.args.second.now in
    let m = c.in-None-default in
    let one : None ≡ name_of_variable a = ap (option_map (token_name text)) (sym m.is-0) ∙ c.variable_of.ensures.name text in
    two_parts a b None (option_map (token_name text) c.variable_of-2.result) one (c.variable_of-2.ensures.name text) text c.matched_head-in-None-default.result c.first_byte-at.result refl (c.first_byte-at.ensures text) c.matched_head-in-None-default.ensures

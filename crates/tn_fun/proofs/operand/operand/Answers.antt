use Rattle.std.proofs.Common.{◌≡◌, ◌-◌, [], ◌∷◌, length, take, drop, true, nat_le, nat_lt, refl, ap, sym, ◌∙◌, subst}
use Rattle.std.proofs.lemmas.List.{take_rest}
use Rattle.def_text.specs.Tokens.{number}
use Rattle.def_fun.specs.Limits.{FUN_DEPTH}
use Rattle.def_fun.specs.Trees as tree
use Rattle.def_fun.specs.Reading.{in_open_list, in_open_tuple, after_prefix, wants, has, if_placed, may_stand, greatest_there, operand_at}
use Rattle.tn_fun.specs.declared.tree.Expr as node
use Rattle.tn_fun.specs.Sizes.{if_at_most}
use Rattle.tn_fun.specs.Tokens.{operator_seen, quoted_codes, fun_token_seen}
use Rattle.tn_fun.specs.Trees.{name_of_kind, string_codes, fun_expr_seen, fun_row_seen}
use Rattle.tn_fun.specs.States.{open_parts_seen, precedes, StepsExpr}
use Rattle.tn_fun.proofs.TreeViews.{seen_variable, seen_atom}
use Rattle.tn_fun.proofs.PartViews.{operator_there}
use Rattle.tn_fun.proofs.TokenKinds.{name_there, token_length, no_operand}
use Rattle.tn_fun.proofs.operand.operand.Goals as goal

pub returns-in-Variable : goal.returns-in-Variable
returns-in-Variable g c =
    let bytes = c.args.bytes.now in
    let v = c.args.token in
    let fs = open_parts_seen bytes c.args.parts.items in
    let u = take (v.to - v.from) (drop v.from bytes) in
    let placed : c.may_stand-placed.result ≡ may_stand c.args.pattern fs = c.may_stand-placed.ensures bytes ∙ ap (λ vs. may_stand c.args.pattern (open_parts_seen bytes vs)) c.deref.ensures.value in
    let made : fun_expr_seen {A = g.row.A.Denot} bytes (node.Variable v) ≡ tree.variable v.from u = seen_variable g.row.A.Denot bytes v ∙ ap (λ k. tree.variable v.from (name_of_kind k u (drop v.from bytes))) c.in-Variable.is in
    subst (λ k. StepsExpr bytes c.put.result (operand_at c.args.pattern FUN_DEPTH true fs v.from (fun_token_seen k u (drop v.from bytes)))) (sym c.in-Variable.is)
    (name_there bytes c.put.result (node.Variable v) (tree.variable v.from u) _ _ (v.to - v.from) (length u) 255 fs (c.put.ensures bytes) made refl placed (token_length bytes v.from v.to c.requires.start c.requires.end))

pub returns-in-Bare : goal.returns-in-Bare
returns-in-Bare g c =
    let bytes = c.args.bytes.now in
    let v = c.args.token in
    let fs = open_parts_seen bytes c.args.parts.items in
    let u = take (v.to - v.from) (drop v.from bytes) in
    let placed : c.may_stand-placed.result ≡ may_stand c.args.pattern fs = c.may_stand-placed.ensures bytes ∙ ap (λ vs. may_stand c.args.pattern (open_parts_seen bytes vs)) c.deref.ensures.value in
    let made : fun_expr_seen {A = g.row.A.Denot} bytes (node.Atom v) ≡ tree.atom v.from u = seen_atom g.row.A.Denot bytes v ∙ ap (λ k. tree.atom v.from (name_of_kind k u (drop v.from bytes))) c.in-Bare.is in
    subst (λ k. StepsExpr bytes c.put-in-Bare.result (operand_at c.args.pattern FUN_DEPTH true fs v.from (fun_token_seen k u (drop v.from bytes)))) (sym c.in-Bare.is)
    (name_there bytes c.put-in-Bare.result (node.Atom v) (tree.atom v.from u) _ _ (v.to - v.from) (length u) 255 fs (c.put-in-Bare.ensures bytes) made refl placed (token_length bytes v.from v.to c.requires.start c.requires.end))

pub returns-in-Quoted : goal.returns-in-Quoted
returns-in-Quoted g c =
    let bytes = c.args.bytes.now in
    let v = c.args.token in
    let fs = open_parts_seen bytes c.args.parts.items in
    let u = take (v.to - v.from) (drop v.from bytes) in
    let placed : c.may_stand-placed.result ≡ may_stand c.args.pattern fs = c.may_stand-placed.ensures bytes ∙ ap (λ vs. may_stand c.args.pattern (open_parts_seen bytes vs)) c.deref.ensures.value in
    let s = quoted_codes 39 (drop v.from bytes) in
    let count = rw (take_rest bytes v.from) at c.codes_len-codes.ensures.value in
    let made : fun_expr_seen {A = g.row.A.Denot} bytes (node.Atom v) ≡ tree.atom v.from s = seen_atom g.row.A.Denot bytes v ∙ ap (λ k. tree.atom v.from (name_of_kind k u (drop v.from bytes))) c.in-Quoted.is in
    subst (λ k. StepsExpr bytes c.put-in-Quoted.result (operand_at c.args.pattern FUN_DEPTH true fs v.from (fun_token_seen k u (drop v.from bytes)))) (sym c.in-Quoted.is)
    (name_there bytes c.put-in-Quoted.result (node.Atom v) (tree.atom v.from s) _ _ c.codes_len-codes.result (length s) 255 fs (c.put-in-Quoted.ensures bytes) made refl placed count)

pub returns-in-Characters : goal.returns-in-Characters
returns-in-Characters g c =
    let bytes = c.args.bytes.now in
    let v = c.args.token in
    let fs = open_parts_seen bytes c.args.parts.items in
    let u = take (v.to - v.from) (drop v.from bytes) in
    let placed : c.may_stand-placed.result ≡ may_stand c.args.pattern fs = c.may_stand-placed.ensures bytes ∙ ap (λ vs. may_stand c.args.pattern (open_parts_seen bytes vs)) c.deref.ensures.value in
    let s = string_codes bytes v in
    subst (λ k. StepsExpr bytes c.put_string.result (operand_at c.args.pattern FUN_DEPTH true fs v.from (fun_token_seen k u (drop v.from bytes)))) (sym c.in-Characters.is)
    (subst (λ b. StepsExpr bytes c.put_string.result (if_placed b true (nat_le (length s) 4096) (has (tree.strings v.from s []) fs))) placed c.put_string.ensures)

pub returns-in-Digits : goal.returns-in-Digits
returns-in-Digits g c =
    let bytes = c.args.bytes.now in
    let v = c.args.token in
    let fs = open_parts_seen bytes c.args.parts.items in
    let u = take (v.to - v.from) (drop v.from bytes) in
    let most : c.greatest_of-most.result ≡ greatest_there fs = c.greatest_of-most.ensures bytes ∙ ap (λ vs. greatest_there (open_parts_seen bytes vs)) c.deref-in-Digits.ensures.value in
    subst (λ k. StepsExpr bytes c.put_integer.result (operand_at c.args.pattern FUN_DEPTH true fs v.from (fun_token_seen k u (drop v.from bytes)))) (sym c.in-Digits.is)
    (c.put_integer.ensures bytes (number u) (greatest_there fs) (c.number_within.ensures ∙ ap (λ k. if_at_most k (number u)) most))

pub returns-in-Character : goal.returns-in-Character
returns-in-Character g c =
    let bytes = c.args.bytes.now in
    let v = c.args.token in
    let fs = open_parts_seen bytes c.args.parts.items in
    let u = take (v.to - v.from) (drop v.from bytes) in
    subst (λ k. StepsExpr bytes c.put_character.result (operand_at c.args.pattern FUN_DEPTH true fs v.from (fun_token_seen k u (drop v.from bytes)))) (sym c.in-Character.is)
    (c.put_character.ensures bytes)

pub returns-in-Operator : goal.returns-in-Operator
returns-in-Operator g c =
    let bytes = c.args.bytes.now in
    let v = c.args.token in
    let fs = open_parts_seen bytes c.args.parts.items in
    let u = take (v.to - v.from) (drop v.from bytes) in
    let o = operator_seen c.in-Operator.operator in
    let placed : c.may_precede-placed.result ≡ precedes c.args.pattern o fs = c.may_precede-placed.ensures bytes ∙ ap (λ vs. precedes c.args.pattern o (open_parts_seen bytes vs)) c.deref-in-Operator.ensures.value in
    subst (λ k. StepsExpr bytes c.open.result (operand_at c.args.pattern FUN_DEPTH true fs v.from (fun_token_seen k u (drop v.from bytes)))) (sym c.in-Operator.is)
    (subst (StepsExpr bytes c.open.result) (sym (operator_there c.args.pattern FUN_DEPTH true fs v.from o)) (subst (λ b. StepsExpr bytes c.open.result (if_placed b (nat_lt (length fs) FUN_DEPTH) true (wants (after_prefix v.from o ∷ fs)))) placed (c.open.ensures bytes)))

pub returns-in-OpenParen : goal.returns-in-OpenParen
returns-in-OpenParen g c =
    let bytes = c.args.bytes.now in
    let v = c.args.token in
    let fs = open_parts_seen bytes c.args.parts.items in
    let u = take (v.to - v.from) (drop v.from bytes) in
    subst (λ k. StepsExpr bytes c.open-in-OpenParen.result (operand_at c.args.pattern FUN_DEPTH true fs v.from (fun_token_seen k u (drop v.from bytes)))) (sym c.in-OpenParen.is)
    (c.open-in-OpenParen.ensures bytes)

pub returns-in-OpenBracket : goal.returns-in-OpenBracket
returns-in-OpenBracket g c =
    let bytes = c.args.bytes.now in
    let v = c.args.token in
    let fs = open_parts_seen bytes c.args.parts.items in
    let u = take (v.to - v.from) (drop v.from bytes) in
    let placed : c.may_stand-placed.result ≡ may_stand c.args.pattern fs = c.may_stand-placed.ensures bytes ∙ ap (λ vs. may_stand c.args.pattern (open_parts_seen bytes vs)) c.deref.ensures.value in
    subst (λ k. StepsExpr bytes c.open-in-OpenBracket.result (operand_at c.args.pattern FUN_DEPTH true fs v.from (fun_token_seen k u (drop v.from bytes)))) (sym c.in-OpenBracket.is)
    (subst (λ xs. StepsExpr bytes c.open-in-OpenBracket.result (if_placed (may_stand c.args.pattern fs) (nat_lt (length fs) FUN_DEPTH) true (wants (in_open_list v.from (fun_row_seen bytes xs) ∷ fs)))) c.new.ensures.items
    (subst (λ b. StepsExpr bytes c.open-in-OpenBracket.result (if_placed b (nat_lt (length fs) FUN_DEPTH) true (wants (in_open_list v.from (fun_row_seen bytes c.new.result.items) ∷ fs)))) placed (c.open-in-OpenBracket.ensures bytes)))

pub returns-in-OpenBrace : goal.returns-in-OpenBrace
returns-in-OpenBrace g c =
    let bytes = c.args.bytes.now in
    let v = c.args.token in
    let fs = open_parts_seen bytes c.args.parts.items in
    let u = take (v.to - v.from) (drop v.from bytes) in
    let placed : c.may_stand-placed.result ≡ may_stand c.args.pattern fs = c.may_stand-placed.ensures bytes ∙ ap (λ vs. may_stand c.args.pattern (open_parts_seen bytes vs)) c.deref.ensures.value in
    subst (λ k. StepsExpr bytes c.open-in-OpenBrace.result (operand_at c.args.pattern FUN_DEPTH true fs v.from (fun_token_seen k u (drop v.from bytes)))) (sym c.in-OpenBrace.is)
    (subst (λ xs. StepsExpr bytes c.open-in-OpenBrace.result (if_placed (may_stand c.args.pattern fs) (nat_lt (length fs) FUN_DEPTH) true (wants (in_open_tuple v.from (fun_row_seen bytes xs) ∷ fs)))) c.new-in-OpenBrace.ensures.items
    (subst (λ b. StepsExpr bytes c.open-in-OpenBrace.result (if_placed b (nat_lt (length fs) FUN_DEPTH) true (wants (in_open_tuple v.from (fun_row_seen bytes c.new-in-OpenBrace.result.items) ∷ fs)))) placed (c.open-in-OpenBrace.ensures bytes)))

pub returns-in-CloseBracket : goal.returns-in-CloseBracket
returns-in-CloseBracket g c =
    let bytes = c.args.bytes.now in
    let v = c.args.token in
    let fs = open_parts_seen bytes c.args.parts.items in
    let u = take (v.to - v.from) (drop v.from bytes) in
    subst (λ k. StepsExpr bytes c.end_list.result (operand_at c.args.pattern FUN_DEPTH true fs v.from (fun_token_seen k u (drop v.from bytes)))) (sym c.in-CloseBracket.is)
    (c.end_list.ensures bytes c.args.pattern v.from)

pub returns-in-CloseBrace : goal.returns-in-CloseBrace
returns-in-CloseBrace g c =
    let bytes = c.args.bytes.now in
    let v = c.args.token in
    let fs = open_parts_seen bytes c.args.parts.items in
    let u = take (v.to - v.from) (drop v.from bytes) in
    subst (λ k. StepsExpr bytes c.end_tuple.result (operand_at c.args.pattern FUN_DEPTH true fs v.from (fun_token_seen k u (drop v.from bytes)))) (sym c.in-CloseBrace.is)
    (c.end_tuple.ensures bytes c.args.pattern v.from)

pub returns-in-CloseParen : goal.returns-in-CloseParen
returns-in-CloseParen g c =
    let bytes = c.args.bytes.now in
    let v = c.args.token in
    let fs = open_parts_seen bytes c.args.parts.items in
    let u = take (v.to - v.from) (drop v.from bytes) in
    subst (λ k. StepsExpr bytes c.end_call.result (operand_at c.args.pattern FUN_DEPTH true fs v.from (fun_token_seen k u (drop v.from bytes)))) (sym c.in-CloseParen.is)
    (c.end_call.ensures bytes c.args.pattern v.from)

pub returns-in_default : goal.returns-in_default
returns-in_default g c =
    let bytes = c.args.bytes.now in
    let v = c.args.token in
    let fs = open_parts_seen bytes c.args.parts.items in
    let u = take (v.to - v.from) (drop v.from bytes) in
    let d = c.in_default in
    no_operand c.args.pattern fs v.from u (drop v.from bytes) v.kind (λ e. d.not-Variable e) (λ e. d.not-Bare e) (λ e. d.not-Quoted e) (λ e. d.not-Characters e) (λ e. d.not-Digits e) (λ x e. d.not-Character x e) (λ x e. d.not-Operator x e) (λ e. d.not-OpenParen e) (λ e. d.not-OpenBracket e) (λ e. d.not-OpenBrace e) (λ e. d.not-CloseBracket e) (λ e. d.not-CloseBrace e) (λ e. d.not-CloseParen e)

-- Brackets that close where an operand must come, and the innermost part.
use Rattle.std.proofs.Common.{◌≡◌, ℕ, suc, ◌-◌, ◌<◌, List, [], ◌∷◌, ◌++◌, length, refl, ap, sym, ◌∙◌, arith, Bool, true, false, Some, None, Result, Ok, Err}
use Rattle.std.specs.declared.vec.Vec.{Vec}
use Rattle.std.specs.List.{slice_get}
use Rattle.std.proofs.lemmas.Option.{slice_get_within}
use Rattle.def_text.specs.Faults.{FaultKind, misplaced}
use Rattle.def_fun.specs.Limits.{FUN_DEPTH}
use Rattle.def_fun.specs.Tokens as token
use Rattle.def_fun.specs.Tokens.{FunToken}
use Rattle.def_fun.specs.Trees as tree
use Rattle.def_fun.specs.Trees.{FunExpr}
use Rattle.def_fun.specs.Reading.{OpenPart, in_open_call, in_open_list, in_open_tuple, ExprState, has, operand_at}
use Rattle.tn_fun.specs.declared.operator.Operator.{Operator}
use Rattle.tn_fun.specs.declared.token.Token.{Token}
use Rattle.tn_fun.specs.declared.part.Part.{Part}
use Rattle.tn_fun.specs.declared.part.Part.TheVariants as parts
use Rattle.tn_fun.specs.declared.tree.Expr as node
use Rattle.tn_fun.specs.declared.tree.Expr.{Expr}
use Rattle.tn_fun.specs.Tokens.{operator_seen}
use Rattle.tn_fun.specs.Trees.{token_name, fun_expr_seen, fun_exprs_seen, fun_row_seen}
use Rattle.tn_fun.specs.States.{open_part_seen, open_parts_seen, prefix_in_front, left_in_front, are_strings}
use Rattle.tn_fun.proofs.TreeViews.{seen_list, seen_tuple, seen_call}
use Rattle.tn_fun.proofs.PartViews.{parts_push}

-- the innermost, as it is
pub parts_top : {A : Type 0} (text : List ℕ) (all rest : List (Part A)) (p q : Part A) → all ≡ rest ++ p ∷ [] → p ≡ q → open_parts_seen text all ≡ open_part_seen text q ∷ open_parts_seen text rest
parts_top text all rest p q taken is = parts_push text all rest p taken ∙ ap (λ x. open_part_seen text x ∷ open_parts_seen text rest) is

pub parts_none : {A : Type 0} (text : List ℕ) (all : List (Part A)) → all ≡ [] → open_parts_seen text all ≡ []
parts_none text all e = ap (open_parts_seen text) e

pub no_items : {X : Type 0} (xs : List X) → length xs ≡ 0 → xs ≡ []
no_items [] e = refl
no_items (x ∷ xs) e = absurd (omega (arith, e))

-- ---- the last of the vector

last_push : {X : Type 0} (vs : List X) (v : X) → slice_get vs (length vs - 1) ≡ Some v → (front : List X) × (vs ≡ front ++ v ∷ [])
last_push [] v e = absurd (omega (arith, slice_get_within [] 0 v e))
last_push (x ∷ []) v e = let same : x ≡ v = cc in ([], ap (λ z. z ∷ []) same)
last_push (x ∷ y ∷ vs) v e =
    let k : length (x ∷ y ∷ vs) - 1 ≡ suc (length vs) = omega arith in
    let there = ap (slice_get (x ∷ y ∷ vs)) (sym k) ∙ e in
    let less : length (y ∷ vs) - 1 ≡ length vs = omega arith in
    let r = last_push (y ∷ vs) v (ap (slice_get (y ∷ vs)) less ∙ there) in
    (x ∷ r.0, ap (λ zs. x ∷ zs) r.1)

no_last : {X : Type 0} (vs : List X) → slice_get vs (length vs - 1) ≡ None → vs ≡ []
no_last [] e = refl
no_last (x ∷ []) e = absurd (let bad : Some x ≡ None = e in cc)
no_last (x ∷ y ∷ vs) e =
    let k : length (x ∷ y ∷ vs) - 1 ≡ suc (length vs) = omega arith in
    let there = ap (slice_get (x ∷ y ∷ vs)) (sym k) ∙ e in
    let less : length (y ∷ vs) - 1 ≡ length vs = omega arith in
    let none = no_last (y ∷ vs) (ap (slice_get (y ∷ vs)) less ∙ there) in
    absurd (let bad : y ∷ vs ≡ [] = none in cc)

module _ {A : Type 0} (text : List ℕ) (vs : List (Part A)) where
  pub none_in_front : None ≡ slice_get vs (length vs - 1) → open_parts_seen text vs ≡ []
  none_in_front e = parts_none text vs (no_last vs (sym e))

  pub some_in_front : (v : Part A) → Some v ≡ slice_get vs (length vs - 1) → (fs : List OpenPart) × (open_parts_seen text vs ≡ open_part_seen text v ∷ fs)
  some_in_front v e = let r = last_push vs v (sym e) in (open_parts_seen text r.0, parts_push text vs r.0 v r.1)

  pub prefix_is : (v : Part A) (at : ℕ) (o : Operator) → Some v ≡ slice_get vs (length vs - 1) → v ≡ parts.Prefix at o → Some (operator_seen o) ≡ prefix_in_front (open_parts_seen text vs)
  prefix_is v at o e is = let r = some_in_front v e in sym (ap prefix_in_front (r.1 ∙ ap (λ x. open_part_seen text x ∷ r.0) is))

  pub left_is : (v : Part A) (at : ℕ) (o : Operator) (l : Expr A) → Some v ≡ slice_get vs (length vs - 1) → v ≡ parts.Left at o l → Some (operator_seen o) ≡ left_in_front (open_parts_seen text vs)
  left_is v at o l e is = let r = some_in_front v e in sym (ap left_in_front (r.1 ∙ ap (λ x. open_part_seen text x ∷ r.0) is))

no_prefix_by : {A : Type 0} (text : List ℕ) (v : Part A) (fs : List OpenPart) → ((at : ℕ) (o : Operator) → v ≡ parts.Prefix at o → ⊥) → None ≡ prefix_in_front (open_part_seen text v ∷ fs)
no_prefix_by text (parts.Parens at) fs other = refl
no_prefix_by text (parts.Call n es) fs other = refl
no_prefix_by text (parts.List at es) fs other = refl
no_prefix_by text (parts.Tail at es) fs other = refl
no_prefix_by text (parts.Tuple at es) fs other = refl
no_prefix_by text (parts.Left at o l) fs other = refl
no_prefix_by text (parts.Prefix at o) fs other = absurd (other at o refl)

no_left_by : {A : Type 0} (text : List ℕ) (v : Part A) (fs : List OpenPart) → ((at : ℕ) (o : Operator) (l : Expr A) → v ≡ parts.Left at o l → ⊥) → None ≡ left_in_front (open_part_seen text v ∷ fs)
no_left_by text (parts.Parens at) fs other = refl
no_left_by text (parts.Call n es) fs other = refl
no_left_by text (parts.List at es) fs other = refl
no_left_by text (parts.Tail at es) fs other = refl
no_left_by text (parts.Tuple at es) fs other = refl
no_left_by text (parts.Left at o l) fs other = absurd (other at o l refl)
no_left_by text (parts.Prefix at o) fs other = refl

module _ {A : Type 0} (text : List ℕ) (vs : List (Part A)) (v : Part A) where
  pub no_prefix_is : Some v ≡ slice_get vs (length vs - 1) → ((at : ℕ) (o : Operator) → v ≡ parts.Prefix at o → ⊥) → None ≡ prefix_in_front (open_parts_seen text vs)
  no_prefix_is e other = let r = some_in_front text vs v e in no_prefix_by text v r.0 other ∙ sym (ap prefix_in_front r.1)

  pub no_left_is : Some v ≡ slice_get vs (length vs - 1) → ((at : ℕ) (o : Operator) (l : Expr A) → v ≡ parts.Left at o l → ⊥) → None ≡ left_in_front (open_parts_seen text vs)
  no_left_is e other = let r = some_in_front text vs v e in no_left_by text v r.0 other ∙ sym (ap left_in_front r.1)

-- ---- brackets that close after nothing

module _ (pattern : Bool) (at : ℕ) where
  -- the step of the definition with that token
  abbrev closing : FunToken → List OpenPart → Result ExprState FaultKind
  closing t fs = operand_at pattern FUN_DEPTH true fs at t

  list_later : {A : Type 0} (text : List ℕ) (fs : List OpenPart) (here : ℕ) (xs : List (Expr A)) → 0 < length xs → closing token.close_bracket (in_open_list here (fun_row_seen text xs) ∷ fs) ≡ Err misplaced
  list_later text fs here [] some = absurd (omega (arith, some))
  list_later text fs here (x ∷ xs) some = refl

  no_list_by : {A : Type 0} (text : List ℕ) (v : Part A) (fs : List OpenPart) → ((here : ℕ) (es : Vec (Expr A) A) → v ≡ parts.List here es → ⊥) → closing token.close_bracket (open_part_seen text v ∷ fs) ≡ Err misplaced
  no_list_by text (parts.Parens at) fs other = refl
  no_list_by text (parts.Call n es) fs other = refl
  no_list_by text (parts.List at es) fs other = absurd (other at es refl)
  no_list_by text (parts.Tail at es) fs other = refl
  no_list_by text (parts.Tuple at es) fs other = refl
  no_list_by text (parts.Left at o l) fs other = refl
  no_list_by text (parts.Prefix at o) fs other = refl

  tuple_later : {A : Type 0} (text : List ℕ) (fs : List OpenPart) (here : ℕ) (xs : List (Expr A)) → 0 < length xs → closing token.close_brace (in_open_tuple here (fun_row_seen text xs) ∷ fs) ≡ Err misplaced
  tuple_later text fs here [] some = absurd (omega (arith, some))
  tuple_later text fs here (x ∷ xs) some = refl

  no_tuple_by : {A : Type 0} (text : List ℕ) (v : Part A) (fs : List OpenPart) → ((here : ℕ) (es : Vec (Expr A) A) → v ≡ parts.Tuple here es → ⊥) → closing token.close_brace (open_part_seen text v ∷ fs) ≡ Err misplaced
  no_tuple_by text (parts.Parens at) fs other = refl
  no_tuple_by text (parts.Call n es) fs other = refl
  no_tuple_by text (parts.List at es) fs other = refl
  no_tuple_by text (parts.Tail at es) fs other = refl
  no_tuple_by text (parts.Tuple at es) fs other = absurd (other at es refl)
  no_tuple_by text (parts.Left at o l) fs other = refl
  no_tuple_by text (parts.Prefix at o) fs other = refl

  call_later : {A : Type 0} (text : List ℕ) (fs : List OpenPart) (here : Token) (xs : List (Expr A)) → 0 < length xs → closing token.close_paren (in_open_call here.from (token_name text here) (fun_row_seen text xs) ∷ fs) ≡ Err misplaced
  call_later text fs here [] some = absurd (omega (arith, some))
  call_later text fs here (x ∷ xs) some = refl

  no_call_by : {A : Type 0} (text : List ℕ) (v : Part A) (fs : List OpenPart) → ((here : Token) (es : Vec (Expr A) A) → v ≡ parts.Call here es → ⊥) → closing token.close_paren (open_part_seen text v ∷ fs) ≡ Err misplaced
  no_call_by text (parts.Parens at) fs other = refl
  no_call_by text (parts.Call n es) fs other = absurd (other n es refl)
  no_call_by text (parts.List at es) fs other = refl
  no_call_by text (parts.Tail at es) fs other = refl
  no_call_by text (parts.Tuple at es) fs other = refl
  no_call_by text (parts.Left at o l) fs other = refl
  no_call_by text (parts.Prefix at o) fs other = refl

  module _ {A : Type 0} (text : List ℕ) (all rest : List (Part A)) (p : Part A) (taken : all ≡ rest ++ p ∷ []) where
    pub list_ends : (here : ℕ) (es : Vec (Expr A) A) → p ≡ parts.List here es → es.items ≡ []
        → (closing token.close_bracket (open_parts_seen text all) ≡ Ok (has (fun_expr_seen text (node.List here es)) (open_parts_seen text rest))) × (are_strings (fun_expr_seen text (node.List here es)) ≡ false)
    list_ends here es is none =
        let made : fun_expr_seen text (node.List here es) ≡ tree.list here tree.none = seen_list text here es ∙ ap (λ xs. tree.list here (fun_exprs_seen text xs)) none in (
          ap (closing token.close_bracket) (parts_top text all rest p (parts.List here es) taken is)
              ∙ ap (λ xs. closing token.close_bracket (in_open_list here (fun_row_seen text xs) ∷ open_parts_seen text rest)) none
              ∙ ap (λ e. Ok (has e (open_parts_seen text rest))) (sym made),
          ap are_strings made,
        )

    pub list_goes_on : (here : ℕ) (es : Vec (Expr A) A) → p ≡ parts.List here es → 0 < length es.items → closing token.close_bracket (open_parts_seen text all) ≡ Err misplaced
    list_goes_on here es is some =
        ap (closing token.close_bracket) (parts_top text all rest p (parts.List here es) taken is) ∙ list_later text (open_parts_seen text rest) here es.items some

    pub no_list_ends : ((here : ℕ) (es : Vec (Expr A) A) → p ≡ parts.List here es → ⊥) → closing token.close_bracket (open_parts_seen text all) ≡ Err misplaced
    no_list_ends other = ap (closing token.close_bracket) (parts_push text all rest p taken) ∙ no_list_by text p (open_parts_seen text rest) other

    pub tuple_ends : (here : ℕ) (es : Vec (Expr A) A) → p ≡ parts.Tuple here es → es.items ≡ []
        → (closing token.close_brace (open_parts_seen text all) ≡ Ok (has (fun_expr_seen text (node.Tuple here es)) (open_parts_seen text rest))) × (are_strings (fun_expr_seen text (node.Tuple here es)) ≡ false)
    tuple_ends here es is none =
        let made : fun_expr_seen text (node.Tuple here es) ≡ tree.tuple here tree.none = seen_tuple text here es ∙ ap (λ xs. tree.tuple here (fun_exprs_seen text xs)) none in (
          ap (closing token.close_brace) (parts_top text all rest p (parts.Tuple here es) taken is)
              ∙ ap (λ xs. closing token.close_brace (in_open_tuple here (fun_row_seen text xs) ∷ open_parts_seen text rest)) none
              ∙ ap (λ e. Ok (has e (open_parts_seen text rest))) (sym made),
          ap are_strings made,
        )

    pub tuple_goes_on : (here : ℕ) (es : Vec (Expr A) A) → p ≡ parts.Tuple here es → 0 < length es.items → closing token.close_brace (open_parts_seen text all) ≡ Err misplaced
    tuple_goes_on here es is some =
        ap (closing token.close_brace) (parts_top text all rest p (parts.Tuple here es) taken is) ∙ tuple_later text (open_parts_seen text rest) here es.items some

    pub no_tuple_ends : ((here : ℕ) (es : Vec (Expr A) A) → p ≡ parts.Tuple here es → ⊥) → closing token.close_brace (open_parts_seen text all) ≡ Err misplaced
    no_tuple_ends other = ap (closing token.close_brace) (parts_push text all rest p taken) ∙ no_tuple_by text p (open_parts_seen text rest) other

    pub call_ends : (here : Token) (es : Vec (Expr A) A) → p ≡ parts.Call here es → es.items ≡ []
        → (closing token.close_paren (open_parts_seen text all) ≡ Ok (has (fun_expr_seen text (node.Call here es)) (open_parts_seen text rest))) × (are_strings (fun_expr_seen text (node.Call here es)) ≡ false)
    call_ends here es is none =
        let made : fun_expr_seen text (node.Call here es) ≡ tree.call here.from (token_name text here) tree.none = seen_call text here es ∙ ap (λ xs. tree.call here.from (token_name text here) (fun_exprs_seen text xs)) none in (
          ap (closing token.close_paren) (parts_top text all rest p (parts.Call here es) taken is)
              ∙ ap (λ xs. closing token.close_paren (in_open_call here.from (token_name text here) (fun_row_seen text xs) ∷ open_parts_seen text rest)) none
              ∙ ap (λ e. Ok (has e (open_parts_seen text rest))) (sym made),
          ap are_strings made,
        )

    pub call_goes_on : (here : Token) (es : Vec (Expr A) A) → p ≡ parts.Call here es → 0 < length es.items → closing token.close_paren (open_parts_seen text all) ≡ Err misplaced
    call_goes_on here es is some =
        ap (closing token.close_paren) (parts_top text all rest p (parts.Call here es) taken is) ∙ call_later text (open_parts_seen text rest) here es.items some

    pub no_call_ends : ((here : Token) (es : Vec (Expr A) A) → p ≡ parts.Call here es → ⊥) → closing token.close_paren (open_parts_seen text all) ≡ Err misplaced
    no_call_ends other = ap (closing token.close_paren) (parts_push text all rest p taken) ∙ no_call_by text p (open_parts_seen text rest) other

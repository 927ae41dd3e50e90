-- Tokens after an operand, by the part that is the innermost.
use Rattle.std.proofs.Common.{◌≡◌, ℕ, List, [], ◌∷◌, ◌++◌, refl, ap, sym, ◌∙◌, Bool, true, false, Result, Ok, Err, box_value}
use Rattle.std.specs.Prelude.{Box as Boxed}
use Rattle.std.specs.declared.vec.Vec.{Vec}
use Rattle.std.proofs.lemmas.List.{map-append}
use Rattle.def_text.specs.Faults.{FaultKind, misplaced}
use Rattle.def_fun.specs.Limits.{FUN_DEPTH}
use Rattle.def_fun.specs.Tokens as token
use Rattle.def_fun.specs.Trees as tree
use Rattle.def_fun.specs.Trees.{FunExpr, of_exprs}
use Rattle.def_fun.specs.Reading.{OpenPart, in_open_tail, ExprState, wants, has, close_after, bar_after, comma_after}
use Rattle.tn_fun.specs.declared.token.Token.{Token}
use Rattle.tn_fun.specs.declared.part.Part.{Part}
use Rattle.tn_fun.specs.declared.part.Part.TheVariants as parts
use Rattle.tn_fun.specs.declared.tree.Expr as node
use Rattle.tn_fun.specs.declared.tree.Expr.{Expr}
use Rattle.tn_fun.specs.Trees.{token_name, fun_expr_seen, fun_exprs_seen, fun_row_seen}
use Rattle.tn_fun.specs.States.{open_part_seen, open_parts_seen, are_strings}
use Rattle.tn_fun.proofs.TreeViews.{seen_parens, seen_list, seen_list_onto, seen_tuple, seen_call}
use Rattle.tn_fun.proofs.PartViews.{parts_push}

-- what the definition does after an operand
abbrev pub AfterOperand : Type 0
AfterOperand = FunExpr → List OpenPart → Result ExprState FaultKind

pub row_push : {A : Type 0} (text : List ℕ) (all es : List (Expr A)) (e : Expr A) → all ≡ es ++ e ∷ [] → fun_row_seen text all ≡ fun_row_seen text es ++ fun_expr_seen text e ∷ []
row_push text all es e is = ap (fun_row_seen text) is ∙ map-append (fun_expr_seen text) es (e ∷ [])

-- an operand with its operators, and the innermost part before it
pub at_top : {A : Type 0} (text : List ℕ) (F : AfterOperand) (g : FunExpr × List OpenPart) (e : Expr A) (all rest : List (Part A)) (p q : Part A) → g ≡ (fun_expr_seen text e, open_parts_seen text all) → all ≡ rest ++ p ∷ [] → p ≡ q
    → F g.0 g.1 ≡ F (fun_expr_seen text e) (open_part_seen text q ∷ open_parts_seen text rest)
at_top text F g e all rest p q is taken same =
    ap (λ x. F x.0 x.1) is ∙ ap (F (fun_expr_seen text e)) (parts_push text all rest p taken ∙ ap (λ x. open_part_seen text x ∷ open_parts_seen text rest) same)

module _ (pattern : Bool) where
  abbrev pub after_paren : AfterOperand
  after_paren = close_after pattern FUN_DEPTH true token.close_paren

  no_paren_by : {A : Type 0} (text : List ℕ) (e : FunExpr) (v : Part A) (fs : List OpenPart) → ((at : ℕ) → v ≡ parts.Parens at → ⊥) → ((n : Token) (es : Vec (Expr A) A) → v ≡ parts.Call n es → ⊥) → after_paren e (open_part_seen text v ∷ fs) ≡ Err misplaced
  no_paren_by text e (parts.Parens at) fs other0 other1 = absurd (other0 at refl)
  no_paren_by text e (parts.Call n es) fs other0 other1 = absurd (other1 n es refl)
  no_paren_by text e (parts.List at es) fs other0 other1 = refl
  no_paren_by text e (parts.Tail at es) fs other0 other1 = refl
  no_paren_by text e (parts.Tuple at es) fs other0 other1 = refl
  no_paren_by text e (parts.Left at o l) fs other0 other1 = refl
  no_paren_by text e (parts.Prefix at o) fs other0 other1 = refl

  abbrev pub after_bracket : AfterOperand
  after_bracket = close_after pattern FUN_DEPTH true token.close_bracket

  no_bracket_by : {A : Type 0} (text : List ℕ) (e : FunExpr) (v : Part A) (fs : List OpenPart) → ((at : ℕ) (es : Vec (Expr A) A) → v ≡ parts.List at es → ⊥) → ((at : ℕ) (es : Vec (Expr A) A) → v ≡ parts.Tail at es → ⊥) → after_bracket e (open_part_seen text v ∷ fs) ≡ Err misplaced
  no_bracket_by text e (parts.Parens at) fs other0 other1 = refl
  no_bracket_by text e (parts.Call n es) fs other0 other1 = refl
  no_bracket_by text e (parts.List at es) fs other0 other1 = absurd (other0 at es refl)
  no_bracket_by text e (parts.Tail at es) fs other0 other1 = absurd (other1 at es refl)
  no_bracket_by text e (parts.Tuple at es) fs other0 other1 = refl
  no_bracket_by text e (parts.Left at o l) fs other0 other1 = refl
  no_bracket_by text e (parts.Prefix at o) fs other0 other1 = refl

  abbrev pub after_brace : AfterOperand
  after_brace = close_after pattern FUN_DEPTH true token.close_brace

  no_brace_by : {A : Type 0} (text : List ℕ) (e : FunExpr) (v : Part A) (fs : List OpenPart) → ((at : ℕ) (es : Vec (Expr A) A) → v ≡ parts.Tuple at es → ⊥) → after_brace e (open_part_seen text v ∷ fs) ≡ Err misplaced
  no_brace_by text e (parts.Parens at) fs other0 = refl
  no_brace_by text e (parts.Call n es) fs other0 = refl
  no_brace_by text e (parts.List at es) fs other0 = refl
  no_brace_by text e (parts.Tail at es) fs other0 = refl
  no_brace_by text e (parts.Tuple at es) fs other0 = absurd (other0 at es refl)
  no_brace_by text e (parts.Left at o l) fs other0 = refl
  no_brace_by text e (parts.Prefix at o) fs other0 = refl

  abbrev pub after_bar : AfterOperand
  after_bar = bar_after pattern FUN_DEPTH true

  no_bar_by : {A : Type 0} (text : List ℕ) (e : FunExpr) (v : Part A) (fs : List OpenPart) → ((at : ℕ) (es : Vec (Expr A) A) → v ≡ parts.List at es → ⊥) → after_bar e (open_part_seen text v ∷ fs) ≡ Err misplaced
  no_bar_by text e (parts.Parens at) fs other0 = refl
  no_bar_by text e (parts.Call n es) fs other0 = refl
  no_bar_by text e (parts.List at es) fs other0 = absurd (other0 at es refl)
  no_bar_by text e (parts.Tail at es) fs other0 = refl
  no_bar_by text e (parts.Tuple at es) fs other0 = refl
  no_bar_by text e (parts.Left at o l) fs other0 = refl
  no_bar_by text e (parts.Prefix at o) fs other0 = refl

  abbrev pub after_comma : AfterOperand
  after_comma = comma_after pattern FUN_DEPTH true

  no_comma_by : {A : Type 0} (text : List ℕ) (e : FunExpr) (v : Part A) (fs : List OpenPart) → ((n : Token) (es : Vec (Expr A) A) → v ≡ parts.Call n es → ⊥) → ((at : ℕ) (es : Vec (Expr A) A) → v ≡ parts.List at es → ⊥) → ((at : ℕ) (es : Vec (Expr A) A) → v ≡ parts.Tuple at es → ⊥) → after_comma e (open_part_seen text v ∷ fs) ≡ Err misplaced
  no_comma_by text e (parts.Parens at) fs other0 other1 other2 = refl
  no_comma_by text e (parts.Call n es) fs other0 other1 other2 = absurd (other0 n es refl)
  no_comma_by text e (parts.List at es) fs other0 other1 other2 = absurd (other1 at es refl)
  no_comma_by text e (parts.Tail at es) fs other0 other1 other2 = refl
  no_comma_by text e (parts.Tuple at es) fs other0 other1 other2 = absurd (other2 at es refl)
  no_comma_by text e (parts.Left at o l) fs other0 other1 other2 = refl
  no_comma_by text e (parts.Prefix at o) fs other0 other1 other2 = refl

module _ (pattern : Bool) {A : Type 0} (text : List ℕ) (g : FunExpr × List OpenPart) (e : Expr A) (all rest : List (Part A)) (p : Part A) (is : g ≡ (fun_expr_seen text e, open_parts_seen text all)) (taken : all ≡ rest ++ p ∷ []) where
  -- the state with that operand
  abbrev With : AfterOperand → Expr A → Type 0
  With F x = (F g.0 g.1 ≡ Ok (has (fun_expr_seen text x) (open_parts_seen text rest))) × (are_strings (fun_expr_seen text x) ≡ false)

  pub no_paren : ((at : ℕ) → p ≡ parts.Parens at → ⊥) → ((v : Token) (es : Vec (Expr A) A) → p ≡ parts.Call v es → ⊥) → after_paren pattern g.0 g.1 ≡ Err misplaced
  no_paren other0 other1 = at_top text (after_paren pattern) g e all rest p p is taken refl ∙ no_paren_by pattern text (fun_expr_seen text e) p (open_parts_seen text rest) other0 other1

  pub no_bracket : ((at : ℕ) (es : Vec (Expr A) A) → p ≡ parts.List at es → ⊥) → ((at : ℕ) (es : Vec (Expr A) A) → p ≡ parts.Tail at es → ⊥) → after_bracket pattern g.0 g.1 ≡ Err misplaced
  no_bracket other0 other1 = at_top text (after_bracket pattern) g e all rest p p is taken refl ∙ no_bracket_by pattern text (fun_expr_seen text e) p (open_parts_seen text rest) other0 other1

  pub no_brace : ((at : ℕ) (es : Vec (Expr A) A) → p ≡ parts.Tuple at es → ⊥) → after_brace pattern g.0 g.1 ≡ Err misplaced
  no_brace other0 = at_top text (after_brace pattern) g e all rest p p is taken refl ∙ no_brace_by pattern text (fun_expr_seen text e) p (open_parts_seen text rest) other0

  pub no_bar : ((at : ℕ) (es : Vec (Expr A) A) → p ≡ parts.List at es → ⊥) → after_bar pattern g.0 g.1 ≡ Err misplaced
  no_bar other0 = at_top text (after_bar pattern) g e all rest p p is taken refl ∙ no_bar_by pattern text (fun_expr_seen text e) p (open_parts_seen text rest) other0

  pub no_comma : ((v : Token) (es : Vec (Expr A) A) → p ≡ parts.Call v es → ⊥) → ((at : ℕ) (es : Vec (Expr A) A) → p ≡ parts.List at es → ⊥) → ((at : ℕ) (es : Vec (Expr A) A) → p ≡ parts.Tuple at es → ⊥) → after_comma pattern g.0 g.1 ≡ Err misplaced
  no_comma other0 other1 other2 = at_top text (after_comma pattern) g e all rest p p is taken refl ∙ no_comma_by pattern text (fun_expr_seen text e) p (open_parts_seen text rest) other0 other1 other2

  pub parens_close : (at : ℕ) (b : Boxed (Expr A) A) → p ≡ parts.Parens at → box_value b ≡ e → With (after_paren pattern) (node.Parens at b)
  parens_close at b same inner =
      let made = seen_parens text at b ∙ ap (λ x. tree.in_parens at (fun_expr_seen text x)) inner in
      (at_top text (after_paren pattern) g e all rest p (parts.Parens at) is taken same ∙ ap (λ x. Ok (has x (open_parts_seen text rest))) (sym made), ap are_strings made)

  pub onto_closes : (at : ℕ) (es : Vec (Expr A) A) (b : Boxed (Expr A) A) → p ≡ parts.Tail at es → box_value b ≡ e → With (after_bracket pattern) (node.ListOnto at es b)
  onto_closes at es b same inner =
      let made = seen_list_onto text at es b ∙ ap (λ x. tree.list_onto at (fun_exprs_seen text es.items) (fun_expr_seen text x)) inner in
      (at_top text (after_bracket pattern) g e all rest p (parts.Tail at es) is taken same ∙ ap (λ x. Ok (has x (open_parts_seen text rest))) (sym made), ap are_strings made)

  pub call_closes : (v : Token) (es more : Vec (Expr A) A) → p ≡ parts.Call v es → more.items ≡ es.items ++ e ∷ [] → With (after_paren pattern) (node.Call v more)
  call_closes v es more same grown =
      let made = seen_call text v more ∙ ap (λ xs. tree.call v.from (token_name text v) (of_exprs xs)) (row_push text more.items es.items e grown) in
      (at_top text (after_paren pattern) g e all rest p (parts.Call v es) is taken same ∙ ap (λ x. Ok (has x (open_parts_seen text rest))) (sym made), ap are_strings made)

  pub list_closes : (at : ℕ) (es more : Vec (Expr A) A) → p ≡ parts.List at es → more.items ≡ es.items ++ e ∷ [] → With (after_bracket pattern) (node.List at more)
  list_closes at es more same grown =
      let made = seen_list text at more ∙ ap (λ xs. tree.list at (of_exprs xs)) (row_push text more.items es.items e grown) in
      (at_top text (after_bracket pattern) g e all rest p (parts.List at es) is taken same ∙ ap (λ x. Ok (has x (open_parts_seen text rest))) (sym made), ap are_strings made)

  pub tuple_closes : (at : ℕ) (es more : Vec (Expr A) A) → p ≡ parts.Tuple at es → more.items ≡ es.items ++ e ∷ [] → With (after_brace pattern) (node.Tuple at more)
  tuple_closes at es more same grown =
      let made = seen_tuple text at more ∙ ap (λ xs. tree.tuple at (of_exprs xs)) (row_push text more.items es.items e grown) in
      (at_top text (after_brace pattern) g e all rest p (parts.Tuple at es) is taken same ∙ ap (λ x. Ok (has x (open_parts_seen text rest))) (sym made), ap are_strings made)

  pub tail_opens : (at : ℕ) (es more : Vec (Expr A) A) (back : List (Part A)) → p ≡ parts.List at es → more.items ≡ es.items ++ e ∷ [] → back ≡ rest ++ parts.Tail at more ∷ [] → after_bar pattern g.0 g.1 ≡ Ok (wants (open_parts_seen text back))
  tail_opens at es more back same grown pushed =
      at_top text (after_bar pattern) g e all rest p (parts.List at es) is taken same
      ∙ ap (λ xs. Ok (wants (in_open_tail at xs ∷ open_parts_seen text rest))) (sym (row_push text more.items es.items e grown))
      ∙ ap (λ fs. Ok (wants fs)) (sym (parts_push text back rest (parts.Tail at more) pushed))

  pub comma_at_top : after_comma pattern g.0 g.1 ≡ after_comma pattern (fun_expr_seen text e) (open_part_seen text p ∷ open_parts_seen text rest)
  comma_at_top = at_top text (after_comma pattern) g e all rest p p is taken refl

  pub element_added : (q : Part A) (back : List (Part A)) → after_comma pattern (fun_expr_seen text e) (open_part_seen text p ∷ open_parts_seen text rest) ≡ Ok (wants (open_part_seen text q ∷ open_parts_seen text rest)) → back ≡ rest ++ q ∷ [] → after_comma pattern g.0 g.1 ≡ Ok (wants (open_parts_seen text back))
  element_added q back adds pushed = comma_at_top ∙ adds ∙ ap (λ fs. Ok (wants fs)) (sym (parts_push text back rest q pushed))

-- Tokens of other kinds.
use Rattle.std.proofs.Common.{◌≡◌, ℕ, List, Bool, true, false, Option, Some, None, not, is_some, Result, Ok, Err, refl, ap}
use Rattle.def_text.specs.Faults.{FaultKind, misplaced}
use Rattle.def_fun.specs.Tokens as token
use Rattle.def_fun.specs.Trees.{FunExpr, FunClause}
use Rattle.def_fun.specs.Reading.{ClauseSoFar, FunState, in_head, begins_head, expr_start, head_after, begin_fun, begin_clause, begin_guard, stop_fun}
use Rattle.def_fun.specs.Refusals.{misplaced_token}
use Rattle.def_fun.specs.Answers.{token_refusal}
use Rattle.tn_fun.specs.declared.token.Kind.{Kind}
use Rattle.tn_fun.specs.declared.token.Kind.TheVariants as kinds
use Rattle.tn_fun.specs.declared.tree.Expr.{Expr}
use Rattle.tn_fun.specs.Tokens.{fun_token_seen}
use Rattle.tn_fun.specs.Clauses.{first_seen}
use Rattle.tn_fun.specs.FunStates.{list_may_be, ends_head, ends_condition, ends_body_expr}

pub not_fun : (k : Kind) (u more : List ℕ) → (k ≡ kinds.Fun → ⊥) → begin_fun (fun_token_seen k u more) ≡ Err misplaced
not_fun kinds.Fun u more other = absurd (other refl)
not_fun k u more other = refl

pub not_paren : (k : Kind) (ks : List FunClause) (at : ℕ) (u more : List ℕ) → (k ≡ kinds.OpenParen → ⊥) → begin_clause ks at (fun_token_seen k u more) ≡ Err misplaced
not_paren kinds.OpenParen ks at u more other = absurd (other refl)
not_paren k ks at u more other = refl

pub not_guard : (k : Kind) (c : ClauseSoFar) (u more : List ℕ) → (k ≡ kinds.When → ⊥) → (k ≡ kinds.Arrow → ⊥) → begin_guard c (fun_token_seen k u more) ≡ Err misplaced
not_guard kinds.When c u more other0 other1 = absurd (other0 refl)
not_guard kinds.Arrow c u more other0 other1 = absurd (other1 refl)
not_guard k c u more other0 other1 = refl

pub not_stop : (k : Kind) (ks : List FunClause) (u more : List ℕ) → (k ≡ kinds.FullStop → ⊥) → stop_fun ks (fun_token_seen k u more) ≡ Err misplaced
not_stop kinds.FullStop ks u more other = absurd (other refl)
not_stop k ks u more other = refl

pub begins_list : (a : Option FunExpr) → list_may_be a ≡ begins_head a token.open_bracket
begins_list None = refl
begins_list (Some e) = refl

pub begins_none : (k : Kind) (a : Option FunExpr) (u more : List ℕ) → (k ≡ kinds.Variable → ⊥) → (k ≡ kinds.OpenBracket → ⊥) → false ≡ begins_head a (fun_token_seen k u more)
begins_none kinds.Variable a u more other0 other1 = absurd (other0 refl)
begins_none kinds.OpenBracket a u more other0 other1 = absurd (other1 refl)
begins_none k a u more other0 other1 = refl

-- the same of its negation
pub not_is : (r b : Bool) → not r ≡ b → r ≡ not b
not_is true b h = ap not h
not_is false b h = ap not h

pub ends_match : {A : Type 0} (text : List ℕ) (o : Option (Expr A)) → not (is_some o) ≡ ends_head (first_seen text o) token.match
ends_match text None = refl
ends_match text (Some e) = refl

pub after_match : (ks : List FunClause) (at : ℕ) (a : Option FunExpr) (e : FunExpr) (r : Result FunState FaultKind) → ends_head a token.match ≡ true → head_after 64 true ks at a e token.match r ≡ Ok (in_head ks at (Some e) expr_start)
after_match ks at None e r h = refl
after_match ks at (Some b) e r h = absurd (let same : false ≡ true = h in cc)

pub ends_none : (k : Kind) (a : Option FunExpr) (u more : List ℕ) → (k ≡ kinds.CloseParen → ⊥) → (k ≡ kinds.Match → ⊥) → false ≡ ends_head a (fun_token_seen k u more)
ends_none kinds.CloseParen a u more other0 other1 = absurd (other0 refl)
ends_none kinds.Match a u more other0 other1 = absurd (other1 refl)
ends_none k a u more other0 other1 = refl

pub no_condition : (k : Kind) (u more : List ℕ) → (k ≡ kinds.Comma → ⊥) → (k ≡ kinds.Semicolon → ⊥) → (k ≡ kinds.Arrow → ⊥) → false ≡ ends_condition (fun_token_seen k u more)
no_condition kinds.Comma u more other0 other1 other2 = absurd (other0 refl)
no_condition kinds.Semicolon u more other0 other1 other2 = absurd (other1 refl)
no_condition kinds.Arrow u more other0 other1 other2 = absurd (other2 refl)
no_condition k u more other0 other1 other2 = refl

pub no_body_expr : (k : Kind) (u more : List ℕ) → (k ≡ kinds.Comma → ⊥) → (k ≡ kinds.Semicolon → ⊥) → (k ≡ kinds.End → ⊥) → false ≡ ends_body_expr (fun_token_seen k u more)
no_body_expr kinds.Comma u more other0 other1 other2 = absurd (other0 refl)
no_body_expr kinds.Semicolon u more other0 other1 other2 = absurd (other1 refl)
no_body_expr kinds.End u more other0 other1 other2 = absurd (other2 refl)
no_body_expr k u more other0 other1 other2 = refl

pub no_name : (k : Kind) (u more : List ℕ) (at : ℕ) → (k ≡ kinds.LeftOut → ⊥) → (k ≡ kinds.Float → ⊥) → (k ≡ kinds.OtherNumber → ⊥) → (k ≡ kinds.Fun → ⊥) → (k ≡ kinds.Match → ⊥) → token_refusal (fun_token_seen k u more) at ≡ misplaced_token at
no_name kinds.LeftOut u more at other0 other1 other2 other3 other4 = absurd (other0 refl)
no_name kinds.Float u more at other0 other1 other2 other3 other4 = absurd (other1 refl)
no_name kinds.OtherNumber u more at other0 other1 other2 other3 other4 = absurd (other2 refl)
no_name kinds.Fun u more at other0 other1 other2 other3 other4 = absurd (other3 refl)
no_name kinds.Match u more at other0 other1 other2 other3 other4 = absurd (other4 refl)
no_name k u more at other0 other1 other2 other3 other4 = refl

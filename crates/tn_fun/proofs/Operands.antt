-- Atoms, strings and operators after an operand.
use Rattle.std.proofs.Common.{◌≡◌, ℕ, ◌+◌, ◌<◌, ◌≤◌, List, [], ◌∷◌, ◌++◌, length, map, refl, ap, sym, ◌∙◌, arith, min, Bool, true, false, not, ◌&&◌, nat_le, nat_lt, Option, Some, None, Result, Ok, Err, length-append}
use Rattle.std.proofs.lemmas.Bool.{le-ltb, lt-ltb, le-leb}
use Rattle.std.proofs.lemmas.Bool.Decides.{nat_tests}
use Rattle.std.proofs.lemmas.List.{map-append}
use Rattle.def_term.specs.Names.{Name}
use Rattle.def_text.specs.Faults.{FaultKind, misplaced, too_deep, too_large}
use Rattle.def_text.specs.Limits.{LIST_LENGTH}
use Rattle.def_fun.specs.Limits.{FUN_DEPTH}
use Rattle.def_fun.specs.Tokens as token
use Rattle.def_fun.specs.Trees as tree
use Rattle.def_fun.specs.Trees.{FunExpr, joined_codes}
use Rattle.def_fun.specs.Reading.{OpenPart, in_open_call, ExprState, wants, has, if_placed, may_follow, arguments_after, after_operand}
use Rattle.tn_fun.specs.declared.operator.Operator.{Operator}
use Rattle.tn_fun.specs.declared.token.Token.{Token}
use Rattle.tn_fun.specs.declared.tree.Expr.{Expr}
use Rattle.tn_fun.specs.declared.part.Part.{Part}
use Rattle.tn_fun.specs.declared.part.Part.TheVariants as parts
use Rattle.tn_fun.specs.Tokens.{operator_seen}
use Rattle.tn_fun.specs.Trees.{string_codes, fun_expr_seen}
use Rattle.tn_fun.specs.States.{open_parts_seen, are_strings, atom_alone, opens_right}
use Rattle.tn_fun.proofs.PartViews.{parts_push, parts_length}

module _ (pattern : Bool) (fs : List OpenPart) where
  -- a call of that name, or one of another
  abbrev opens_call : ℕ → Name → Option (ℕ × Name) → Result ExprState FaultKind
  opens_call here t None = if_placed (not pattern) (nat_lt (length fs) FUN_DEPTH) true (wants (in_open_call here t [] ∷ fs))
  opens_call here t (Some p) = if_placed (not pattern) (nat_lt (length fs) FUN_DEPTH) true (wants (in_open_call p.0 p.1 [] ∷ fs))

  pub call_there : (e : FunExpr) (at : ℕ) (s : Name) → Some (at, s) ≡ atom_alone e → arguments_after pattern FUN_DEPTH true e fs ≡ if_placed (not pattern) (nat_lt (length fs) FUN_DEPTH) true (wants (in_open_call at s [] ∷ fs))
  call_there (tree.variable x0 x1) at s e = absurd (let none : Some (at, s) ≡ None = e in cc)
  call_there (tree.whole x0 x1) at s e = absurd (let none : Some (at, s) ≡ None = e in cc)
  call_there (tree.atom here t) at s e = sym (ap (opens_call here t) e)
  call_there (tree.strings x0 x1 x2) at s e = absurd (let none : Some (at, s) ≡ None = e in cc)
  call_there (tree.in_parens x0 x1) at s e = absurd (let none : Some (at, s) ≡ None = e in cc)
  call_there (tree.call x0 x1 x2) at s e = absurd (let none : Some (at, s) ≡ None = e in cc)
  call_there (tree.list x0 x1) at s e = absurd (let none : Some (at, s) ≡ None = e in cc)
  call_there (tree.list_onto x0 x1 x2) at s e = absurd (let none : Some (at, s) ≡ None = e in cc)
  call_there (tree.tuple x0 x1) at s e = absurd (let none : Some (at, s) ≡ None = e in cc)
  call_there (tree.before x0 x1 x2) at s e = absurd (let none : Some (at, s) ≡ None = e in cc)
  call_there (tree.between x0 x1 x2 x3) at s e = absurd (let none : Some (at, s) ≡ None = e in cc)

  pub no_call_there : (e : FunExpr) → None ≡ atom_alone e → arguments_after pattern FUN_DEPTH true e fs ≡ Err misplaced
  no_call_there (tree.variable x0 x1) e = refl
  no_call_there (tree.whole x0 x1) e = refl
  no_call_there (tree.atom here t) e = absurd (let some : None ≡ Some (here, t) = e in cc)
  no_call_there (tree.strings x0 x1 x2) e = refl
  no_call_there (tree.in_parens x0 x1) e = refl
  no_call_there (tree.call x0 x1 x2) e = refl
  no_call_there (tree.list x0 x1) e = refl
  no_call_there (tree.list_onto x0 x1 x2) e = refl
  no_call_there (tree.tuple x0 x1) e = refl
  no_call_there (tree.before x0 x1 x2) e = refl
  no_call_there (tree.between x0 x1 x2 x3) e = refl

  pub no_strings_there : (e : FunExpr) (at : ℕ) (u : List ℕ) → are_strings e ≡ false → after_operand pattern FUN_DEPTH true e fs at (token.characters u) ≡ Err misplaced
  no_strings_there (tree.variable x0 x1) at u is = refl
  no_strings_there (tree.whole x0 x1) at u is = refl
  no_strings_there (tree.atom x0 x1) at u is = refl
  no_strings_there (tree.strings x0 x1 x2) at u is = absurd (let same : true ≡ false = is in cc)
  no_strings_there (tree.in_parens x0 x1) at u is = refl
  no_strings_there (tree.call x0 x1 x2) at u is = refl
  no_strings_there (tree.list x0 x1) at u is = refl
  no_strings_there (tree.list_onto x0 x1 x2) at u is = refl
  no_strings_there (tree.tuple x0 x1) at u is = refl
  no_strings_there (tree.before x0 x1 x2) at u is = refl
  no_strings_there (tree.between x0 x1 x2 x3) at u is = refl

-- ---- strings

string_by : (placed b : Bool) (s : ExprState) → placed ≡ true → b ≡ true → if_placed placed true b s ≡ Ok s
string_by placed b s p q = ap (λ x. if_placed x true b s) p ∙ ap (λ x. if_placed true true x s) q

joined_more : (s : List ℕ) (ss : List (List ℕ)) (u : List ℕ) → length (joined_codes s (ss ++ u ∷ [])) ≡ length (joined_codes s ss) + length u
joined_more s [] u = length-append s u
joined_more s (x ∷ xs) u = joined_more (s ++ x) xs u

pub string_put : (text : List ℕ) (v : Token) (placed : Bool) (vs : List Token) (n : ℕ) (fs : List OpenPart) → placed ≡ true → n ≡ length (string_codes text v) → n ≤ LIST_LENGTH → vs ≡ []
    → (if_placed placed true (nat_le (length (string_codes text v)) LIST_LENGTH) (has (tree.strings v.from (string_codes text v) []) fs) ≡ Ok (has (tree.strings v.from (string_codes text v) (map (string_codes text) vs)) fs))
    × (n ≡ length (joined_codes (string_codes text v) (map (string_codes text) vs)))
string_put text v placed vs n fs p count few none = (
  string_by placed _ _ p (le-leb (length (string_codes text v)) LIST_LENGTH (omega (arith, count, few)))
      ∙ ap (λ xs. Ok (has (tree.strings v.from (string_codes text v) (map (string_codes text) xs)) fs)) (sym none),
  count ∙ ap (λ xs. length (joined_codes (string_codes text v) (map (string_codes text) xs))) (sym none),
)

large_by : (b : Bool) (s : ExprState) → b ≡ false → if_placed true true b s ≡ Err too_large
large_by b s q = ap (λ x. if_placed true true x s) q

more_than : (n most : ℕ) → most < n → nat_le n most ≡ false
more_than n most h = grind (arith, nat_tests)

module _ (text : List ℕ) (pattern : Bool) (at : ℕ) (first v : Token) (others : List Token) (codes more total : ℕ) (fs : List OpenPart) (counted : codes ≡ length (joined_codes (string_codes text first) (map (string_codes text) others))) (this : more ≡ length (string_codes text v)) where
  abbrev after_strings : Result ExprState FaultKind
  after_strings = after_operand pattern FUN_DEPTH true (tree.strings first.from (string_codes text first) (map (string_codes text) others)) fs at (token.characters (string_codes text v))

  together : length (joined_codes (string_codes text first) (map (string_codes text) others ++ string_codes text v ∷ [])) ≡ more + codes
  together = omega (arith, counted, this, joined_more (string_codes text first) (map (string_codes text) others) (string_codes text v))

  pub string_more : (all : List Token) → total ≡ min (more + codes) 18446744073709551615 → total ≤ LIST_LENGTH → all ≡ others ++ v ∷ []
      → (after_strings ≡ Ok (has (tree.strings first.from (string_codes text first) (map (string_codes text) all)) fs)) × (total ≡ length (joined_codes (string_codes text first) (map (string_codes text) all)))
  string_more all sum few grown =
      let row : map (string_codes text) all ≡ map (string_codes text) others ++ string_codes text v ∷ [] = ap (map (string_codes text)) grown ∙ map-append (string_codes text) others (v ∷ []) in
      let size = ap (λ xs. length (joined_codes (string_codes text first) xs)) row in
      (string_by true _ _ refl (le-leb _ LIST_LENGTH (omega (arith, together, sum, few))) ∙ ap (λ xs. Ok (has (tree.strings first.from (string_codes text first) xs) fs)) (sym row), omega (arith, size, together, sum, few))

  pub strings_large : total ≡ min (more + codes) 18446744073709551615 → LIST_LENGTH < total → after_strings ≡ Err too_large
  strings_large sum many = large_by _ _ (more_than _ LIST_LENGTH (omega (arith, together, sum, many)))

-- ---- operators

pub not_between : (p i m d : Bool) (s : ExprState) → (not p && i) ≡ false → if_placed (not p && (i && m)) d true s ≡ Err misplaced
not_between true i m d s is = refl
not_between false i m d s is = ap (λ b. if_placed (b && m) d true s) is

pub between_goes : (p i m d : Bool) (s : ExprState) → (not p && i) ≡ true → if_placed (not p && (i && m)) d true s ≡ if_placed m d true s
between_goes true i m d s is = absurd (let same : false ≡ true = is in cc)
between_goes false i m d s is = ap (λ b. if_placed (b && m) d true s) is

right_no : (m d : Bool) (s : ExprState) → m ≡ false → if_placed m d true s ≡ Err misplaced
right_no m d s is = ap (λ b. if_placed b d true s) is

right_too_deep : (m d : Bool) (s : ExprState) → m ≡ true → d ≡ false → if_placed m d true s ≡ Err too_deep
right_too_deep m d s is deep = ap (λ b. if_placed b d true s) is ∙ ap (λ b. if_placed true b true s) deep

right_fits : (m d : Bool) (s : ExprState) → m ≡ true → d ≡ true → if_placed m d true s ≡ Ok s
right_fits m d s is few = ap (λ b. if_placed b d true s) is ∙ ap (λ b. if_placed true b true s) few

module _ {A : Type 0} (text : List ℕ) (at : ℕ) (o : Operator) (e : Expr A) (vs : List (Part A)) where
  pub right_misplaced : false ≡ may_follow (operator_seen o) (open_parts_seen text vs) → opens_right at (operator_seen o) (fun_expr_seen text e) (open_parts_seen text vs) ≡ Err misplaced
  right_misplaced is = right_no _ _ _ (sym is)

  pub right_deep : true ≡ may_follow (operator_seen o) (open_parts_seen text vs) → FUN_DEPTH ≤ length vs + tree.nesting_depth (fun_expr_seen text e) → opens_right at (operator_seen o) (fun_expr_seen text e) (open_parts_seen text vs) ≡ Err too_deep
  right_deep is deep = right_too_deep _ _ _ (sym is) (le-ltb (length (open_parts_seen text vs) + tree.nesting_depth (fun_expr_seen text e)) FUN_DEPTH (omega (arith, deep, parts_length text vs)))

  pub right_opens : (back : List (Part A)) → true ≡ may_follow (operator_seen o) (open_parts_seen text vs) → length vs + tree.nesting_depth (fun_expr_seen text e) < FUN_DEPTH → back ≡ vs ++ parts.Left at o e ∷ [] → opens_right at (operator_seen o) (fun_expr_seen text e) (open_parts_seen text vs) ≡ Ok (wants (open_parts_seen text back))
  right_opens back is few pushed =
      right_fits _ _ _ (sym is) (lt-ltb (length (open_parts_seen text vs) + tree.nesting_depth (fun_expr_seen text e)) FUN_DEPTH (omega (arith, few, parts_length text vs)))
      ∙ ap (λ fs. Ok (wants fs)) (sym (parts_push text back vs (parts.Left at o e) pushed))

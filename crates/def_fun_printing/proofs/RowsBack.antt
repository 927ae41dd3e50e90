-- The conditions of a clause, and the expressions of its body: what is printed of them, and what that is.
use Rattle.std.proofs.Common.{◌≡◌, ℕ, ◌+◌, ◌≤◌, max, nat_le, List, [], ◌∷◌, ◌++◌, length, true, false, ◌&&◌, Option, Ok, Err, refl, ap, sym, ◌∙◌, arith, append-nil}
use Rattle.std.proofs.lemmas.Bool.{and_parts, and_from, cond-true, le-leb}
use Rattle.def_term.specs.Tree.{Tree, Trees, none, more, count, elements, depth, greatest_depth}
use Rattle.def_text.specs.Limits.{LIST_LENGTH}
use Rattle.def_spec.specs.Expressions.{Dialect, Position}
use Rattle.def_fun.specs.Trees as tree
use Rattle.def_fun.specs.Trees.{FunExpr, FunExprs, each_expr, first_byte, nesting_depth, greatest_nesting}
use Rattle.def_fun.specs.Tokens as token
use Rattle.def_fun.specs.Grammar.{anywhere, expr_pieces, pieces_of, comma_pieces, has_one, has_level, have_levels, are_exprs}
use Rattle.def_fun.specs.Limits.{is_sized, are_sized, each_sized, is_sized_row, row_nesting}
use Rattle.def_fun.specs.Refusals.{too_deep_at, then_fun}
use Rattle.def_fun.specs.Variables.{ClauseNames}
use Rattle.def_fun.specs.Translation.{TranslatedExpr, PART_DEPTH, within_depth, expr_translated, part_term, part_terms}
use Rattle.def_fun.specs.FunTexts.{OrReason, ClausePart, then_print, reason_at, then_clause, expr_of_term, exprs_of_terms, expr_text, expr_texts, parts_printed}
use Rattle.def_fun_printing.proofs.Offsets.{unplaced, unplaced_each, levels_same, nestings_same, sizes_same, count_same, expr_alike}
use Rattle.def_fun_printing.proofs.ExprsBack.{AreBack, RowBack}
use Rattle.def_fun_printing.proofs.Results.{same_ok, clause_ok}

-- ---- what is printed

pub reason_ok : {X : Type 0} (n : ℕ) (p : ClausePart) (r : OrReason X) (x : X) → reason_at n p r ≡ Ok x → r ≡ Ok x
reason_ok n p (Ok y) x h = ap Ok (same_ok y x h)
reason_ok n p (Err e) x h = absurd (cc)

pub parts_ok : (d : Dialect) (part : Position) (n : ℕ) (p : ℕ → ClausePart) (k : ℕ) (ts : Trees) (us : List (List ℕ)) → parts_printed d part n p k ts ≡ Ok us → (es : FunExprs) × (exprs_of_terms d part ts ≡ Ok es) × (us ≡ expr_texts es)
parts_ok d part n p k none us h = (tree.none, refl, sym (same_ok [] us h))
parts_ok d part n p k (more t ts) us h =
    let a = clause_ok (reason_at n (p k) (expr_of_term d part t)) (λ x. then_clause (parts_printed d part n p (k + 1) ts) (λ xs. Ok (expr_text x ∷ xs))) us h in
    let b = clause_ok (parts_printed d part n p (k + 1) ts) (λ xs. Ok (expr_text a.0 ∷ xs)) us a.2 in
    let r = parts_ok d part n p (k + 1) ts b.0 b.1 in
    let first = reason_ok n (p k) (expr_of_term d part t) a.0 a.1 in (
      tree.more a.0 r.0,
      ap (λ z. then_print z (λ e. then_print (exprs_of_terms d part ts) (λ es. Ok (tree.more e es)))) first ∙ ap (λ z. then_print z (λ es. Ok (tree.more a.0 es))) r.1,
      sym (same_ok (expr_text a.0 ∷ b.0) us b.2) ∙ ap (λ vs. expr_text a.0 ∷ vs) r.2,
    )

-- ---- a row as the parts of a node

pub row_pieces : (es : FunExprs) → comma_pieces (each_expr es) ≡ pieces_of es
row_pieces tree.none = refl
row_pieces (tree.more e tree.none) = sym (append-nil (expr_pieces e))
row_pieces (tree.more e (tree.more f es)) = ap (λ ps. expr_pieces e ++ anywhere token.comma ∷ ps) (row_pieces (tree.more f es))

row_levels : (es : FunExprs) → has_one es ≡ true → have_levels es ≡ true → are_exprs (each_expr es) ≡ true
row_levels tree.none one h = absurd (let no : false ≡ true = one in cc)
row_levels (tree.more e tree.none) one h = (and_parts (has_level 1 e) true h).0
row_levels (tree.more e (tree.more f es)) one h = let p = and_parts (has_level 1 e) (have_levels (tree.more f es)) h in and_from (has_level 1 e) (are_exprs (each_expr (tree.more f es))) p.0 (row_levels (tree.more f es) refl p.1)

row_sizes : (es : FunExprs) → each_sized (each_expr es) ≡ are_sized es
row_sizes tree.none = refl
row_sizes (tree.more e es) = ap (λ b. is_sized e && b) (row_sizes es)

row_depth : (es : FunExprs) → row_nesting (each_expr es) ≡ greatest_nesting es
row_depth tree.none = refl
row_depth (tree.more e es) = ap (max (nesting_depth e)) (row_depth es)

-- a row within the limits
pub record IsFineRow (es : FunExprs) : Type 0 where
  pub levels : has_one es ≡ true → are_exprs (each_expr es) ≡ true
  pub sized : is_sized_row (each_expr es) ≡ true
  pub deep : row_nesting (each_expr es) ≤ 59

-- one whose expressions are these but for their offsets
pub fine_row : (d : Dialect) (part : Position) (ns : ClauseNames) (ts : Trees) (fs : FunExprs) (cs : List (Option Tree)) (es : FunExprs) → RowBack d part ns ts fs cs → unplaced_each es ≡ unplaced_each fs → nat_le (count ts) LIST_LENGTH ≡ true → greatest_depth ts ≤ PART_DEPTH → IsFineRow es
fine_row d part ns ts fs cs es r same size low =
    let is : unplaced_each es ≡ fs = same ∙ r.bare in
    let levels : have_levels es ≡ true = sym (levels_same es) ∙ ap have_levels is ∙ r.levels in
    let sized : are_sized es ≡ true = sym (sizes_same es) ∙ ap are_sized is ∙ r.sized in
    let counted : length (each_expr es) ≡ count ts = sym (count_same es) ∙ ap (λ gs. length (each_expr gs)) is ∙ r.counted in
    let nesting : greatest_nesting es ≡ greatest_nesting fs = sym (nestings_same es) ∙ ap greatest_nesting is in
    let deep = r.deep in
    let row = row_depth es in
    record {
      levels = λ one. row_levels es one levels;
      sized = and_from (nat_le (length (each_expr es)) LIST_LENGTH) (each_sized (each_expr es)) (ap (λ n. nat_le n LIST_LENGTH) counted ∙ size) (row_sizes es ∙ sized);
      deep = omega (arith, deep, nesting, row, low);
    }

-- ---- the terms of a row

more_same : (e f : FunExpr) (es fs : FunExprs) → tree.more e es ≡ tree.more f fs → (e ≡ f) × (es ≡ fs)
more_same e f es fs h = (let a : e ≡ f = cc in a, let b : es ≡ fs = cc in b)

none_more : (e : FunExpr) (es : FunExprs) → tree.none ≡ tree.more e es → ⊥
none_more e es h = absurd (cc)

-- the terms of expressions that are these but for their offsets
pub row_terms : (d : Dialect) (part : Position) (ns : ClauseNames) (ts : Trees) (fs : FunExprs) (cs : List (Option Tree)) (es : FunExprs) → AreBack d part ns ts fs cs → unplaced_each es ≡ unplaced_each fs → greatest_depth ts ≤ PART_DEPTH → part_terms d part ns (each_expr es) ≡ Ok (elements ts)
row_terms d part ns none fs cs tree.none h same low = refl
row_terms d part ns none fs cs (tree.more e es) h same low = absurd (none_more (unplaced e) (unplaced_each es) (sym (same ∙ ap unplaced_each h.0)))
row_terms d part ns (more t ts) fs cs tree.none h same low = absurd (none_more (unplaced h.0) (unplaced_each h.1) (same ∙ ap unplaced_each h.4))
row_terms d part ns (more t ts) fs cs (tree.more e es) h same low =
    let p = h.6 in
    let both = more_same (unplaced e) (unplaced h.0) (unplaced_each es) (unplaced_each h.1) (same ∙ ap unplaced_each h.4) in
    let x : TranslatedExpr = record { becomes = t; constant = h.2 } in
    let here : expr_translated d part ns e ≡ Ok x = expr_alike d part ns e x (ap (expr_translated d part ns) (both.0 ∙ p.bare) ∙ p.back) in
    let first : part_term d part ns e ≡ Ok t =
    ap (λ z. then_fun z (λ y. within_depth PART_DEPTH (first_byte e) y.becomes)) here ∙ cond-true (nat_le (depth t) PART_DEPTH) (Ok t) (Err (too_deep_at (first_byte e))) (le-leb (depth t) PART_DEPTH (omega (arith, low))) in
    let later = row_terms d part ns ts h.1 h.3 es h.7 both.1 (omega (arith, low)) in
    ap (λ z. then_fun z (λ u. then_fun (part_terms d part ns (each_expr es)) (λ us. Ok (u ∷ us)))) first ∙ ap (λ z. then_fun z (λ us. Ok (t ∷ us))) later

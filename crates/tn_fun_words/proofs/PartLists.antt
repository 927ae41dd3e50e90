-- Parts of expressions, in a vector.
use Rattle.std.proofs.Common.{◌≡◌, ◌∙◌, ℕ, ◌+◌, ◌<◌, ◌≤◌, List, [], ◌∷◌, ◌++◌, length, get_or, drop, Result, Ok, Err, OnOk, sym, ap, append_assoc, append-nil}
use Rattle.std.proofs.lemmas.List.{map-append}
use Rattle.std.specs.Borrow.{Bor}
use Rattle.def_fun.specs.Trees.{FunExpr}
use Rattle.def_fun_words.specs.Notes.{noted_parts_of, parts_of_each}
use Rattle.tn_fun.specs.Trees.{fun_expr_seen, fun_exprs_seen}
use Rattle.tn_fun.specs.declared.tree.Expr.{Expr}
use Rattle.tn_fun.proofs.TreeViews.{exprs_here, exprs_past}
use Rattle.tn_fun_words.specs.Views.{lent_exprs_seen}

pub lent_more : {A : Type 0} (text : List ℕ) (xs ys : List (Bor (Expr A))) (x : Bor (Expr A)) → ys ≡ xs ++ x ∷ [] → lent_exprs_seen text ys ≡ lent_exprs_seen text xs ++ fun_expr_seen text x.now ∷ []
lent_more text xs ys x h = ap (lent_exprs_seen text) h ∙ map-append (λ e. fun_expr_seen text e.now) xs (x ∷ [])

-- an expression is the first of its parts
pub first_part : (e node : FunExpr) (rest : List FunExpr) → e ≡ node → noted_parts_of node ≡ node ∷ rest → noted_parts_of e ≡ e ∷ rest
first_part e node rest is h = ap noted_parts_of is ∙ h ∙ ap (λ x. x ∷ rest) (sym is)

pub node_ok : {T E : Type 0} (done : Result T E) (o m l rest whole : List FunExpr) (x : FunExpr) → m ≡ o ++ x ∷ [] → whole ≡ x ∷ rest → OnOk done (l ≡ m ++ rest) → OnOk done (l ≡ o ++ whole)
node_ok (Ok v) o m l rest whole x h w k = k ∙ ap (λ a. a ++ rest) h ∙ append_assoc o (x ∷ []) rest ∙ ap (λ a. o ++ a) (sym w)
node_ok (Err e) o m l rest whole x h w k = tt

-- the same of a node of two
pub node_of_two_ok : {T E : Type 0} (done : Result T E) (o m n l rest others whole : List FunExpr) (x : FunExpr) → m ≡ o ++ x ∷ [] → whole ≡ x ∷ (rest ++ others) → n ≡ m ++ rest → OnOk done (l ≡ n ++ others) → OnOk done (l ≡ o ++ whole)
node_of_two_ok (Ok v) o m n l rest others whole x h w k j = j ∙ ap (λ a. a ++ others) (k ∙ ap (λ a. a ++ rest) h) ∙ append_assoc (o ++ x ∷ []) rest others ∙ append_assoc o (x ∷ []) (rest ++ others) ∙ ap (λ a. o ++ a) (sym w)
node_of_two_ok (Err e) o m n l rest others whole x h w k j = tt

-- one more of several
pub each_next : {A : Type 0} (text : List ℕ) (xs : List (Expr A)) (i : ℕ) (x : Expr A) (now after whole : List FunExpr) → i < length xs → x ≡ get_or xs i x
    → now ++ parts_of_each (fun_exprs_seen text (drop i xs)) ≡ whole → after ≡ now ++ noted_parts_of (fun_expr_seen text x) → after ++ parts_of_each (fun_exprs_seen text (drop (i + 1) xs)) ≡ whole
each_next text xs i x now after whole below is so_far made =
    let rest = parts_of_each (fun_exprs_seen text (drop (i + 1) xs)) in
    ap (λ a. a ++ rest) made ∙ append_assoc now (noted_parts_of (fun_expr_seen text x)) rest ∙ ap (λ a. now ++ a) (sym (ap parts_of_each (exprs_here text xs i x below is))) ∙ so_far

pub each_end : {A : Type 0} (text : List ℕ) (xs : List (Expr A)) (i : ℕ) (now whole : List FunExpr) → length xs ≤ i → now ++ parts_of_each (fun_exprs_seen text (drop i xs)) ≡ whole → now ≡ whole
each_end text xs i now whole past so_far = sym (append-nil now) ∙ ap (λ a. now ++ a) (sym (ap parts_of_each (exprs_past text xs i past))) ∙ so_far

-- The specification of a fun is printed.
use Rattle.std.proofs.Common.{◌≡◌, ℕ, ◌+◌, nat_le, List, [], ◌∷◌, ◌++◌, length, Bool, true, false, ◌&&◌, cond, Result, Ok, Err, codes, refl, ap, sym, ◌∙◌, subst}
use Rattle.std.proofs.lemmas.Bool.{and_parts}
use Rattle.def_term.specs.Tree.{Tree, of_elements, triple, depth}
use Rattle.def_term.specs.Text.{w}
use Rattle.def_text.specs.Spelling.{LENGTH}
use Rattle.def_spec.specs.Expressions.{Dialect, Position, in_condition, in_body}
use Rattle.def_fun.specs.Tokens.{FunSpan}
use Rattle.def_fun.specs.Trees.{FunExpr, FunClause, first_byte}
use Rattle.def_fun.specs.Grammar.{has_level, are_exprs, are_guards, is_fun_head, is_level_head, are_fun_clauses, DerivesFun}
use Rattle.def_fun.specs.Reading.{read_fun, FunFault}
use Rattle.def_fun.specs.Scan.{fun_spans}
use Rattle.def_fun.specs.Limits.{FUN_DEPTH}
use Rattle.def_fun.specs.Refusals.{too_long, too_deep_at, too_large_at, OrRefusal, then_fun}
use Rattle.def_fun.specs.Variables.{ClauseNames, names_of}
use Rattle.def_fun.specs.Translation.{expr_translated, PART_DEPTH, within_depth, part_term, part_terms, head_term, list_term, alternative_term, alternatives_of, within_length, with_alternatives, with_fun_clauses, tree_of_fun}
use Rattle.def_fun.specs.Answers.{reading_refusal, read_or_refusal, fun_of_text, spec_of_text}
use Rattle.def_fun.specs.FunTexts.{ClausePart, the_head, the_condition, the_expression, PrintedPattern, expr_of_term, reason_at, then_clause, joined_with, expr_text, parts_printed, when_text, body_printed, clause_printed, clauses_printed, fun_text, fun_printed}
use Rattle.def_fun.proofs.FunRuns.{read_derives}
use Rattle.def_fun.proofs.Translations.{then_ok}
use Rattle.def_fun_printing.proofs.PrintedTerms.{printed}
use Rattle.def_fun_printing.proofs.PrintedHeads.{head_printed}
use Rattle.def_fun_printing.proofs.FunReads.{EachClause, each_clause}
use Rattle.def_fun_printing.proofs.Results.{same_ok, no_ok}

-- ---- rows

-- each expression of a row, or none
abbrev each_level : List FunExpr → Bool
each_level [] = true
each_level (e ∷ es) = has_level 1 e && each_level es

exprs_level : (es : List FunExpr) → are_exprs es ≡ true → each_level es ≡ true
exprs_level [] h = refl
exprs_level (e ∷ []) h = ap (λ b. b && true) h
exprs_level (e ∷ f ∷ es) h = let p = and_parts (has_level 1 e) (are_exprs (f ∷ es)) h in ap (λ b. b && each_level (f ∷ es)) p.0 ∙ exprs_level (f ∷ es) p.1

depth_by : (b : Bool) (at : ℕ) (t u : Tree) → cond b (Ok t) (Err (too_deep_at at)) ≡ Ok u → t ≡ u
depth_by true at t u h = same_ok t u h
depth_by false at t u h = absurd (no_ok (too_deep_at at) u h)

-- the terms of a row are printed
abbrev RowPrinted : Dialect → Position → ℕ → (ℕ → ClausePart) → ℕ → List Tree → Type 0
RowPrinted d part n p k ts = (us : List (List ℕ)) × (parts_printed d part n p k (of_elements ts) ≡ Ok us)

abbrev clause_text : PrintedPattern → List (List ℕ) → List (List ℕ) → List ℕ
clause_text p gs es = codes "(" ++ expr_text p.0 ++ codes ")" ++ when_text gs ++ codes " -> " ++ joined_with (codes ", ") es

module _ (d : Dialect) where
  row_printed : (part : Position) (ns : ClauseNames) (n : ℕ) (p : ℕ → ClausePart) (k : ℕ) (es : List FunExpr) (ts : List Tree) → each_level es ≡ true → part_terms d part ns es ≡ Ok ts → RowPrinted d part n p k ts
  row_printed part ns n p k [] ts l h = subst (RowPrinted d part n p k) (same_ok [] ts h) ([], refl)
  row_printed part ns n p k (e ∷ es) ts l h =
      let levels = and_parts (has_level 1 e) (each_level es) l in
      let a = then_ok (part_term d part ns e) (λ t. then_fun (part_terms d part ns es) (λ us. Ok (t ∷ us))) ts h in
      let b = then_ok (part_terms d part ns es) (λ us. Ok (a.0 ∷ us)) ts a.2 in
      let c = then_ok (expr_translated d part ns e) (λ x. within_depth PART_DEPTH (first_byte e) x.becomes) a.0 a.1 in
      let x = c.0 in
      let is = depth_by (nat_le (depth x.becomes) PART_DEPTH) (first_byte e) x.becomes a.0 c.2 in
      let here = printed d part ns e 1 x levels.0 c.1 in
      let there : expr_of_term d part a.0 ≡ Ok here.expr = ap (expr_of_term d part) (sym is) ∙ here.is in
      let later = row_printed part ns n p (k + 1) es b.0 levels.1 b.1 in
      subst (RowPrinted d part n p k) (same_ok (a.0 ∷ b.0) ts b.2)
      (expr_text here.expr ∷ later.0, ap (λ z. then_clause (reason_at n (p k) z) (λ y. then_clause (parts_printed d part n p (k + 1) (of_elements b.0)) (λ ys. Ok (expr_text y ∷ ys)))) there ∙ ap (λ z. then_clause z (λ ys. Ok (expr_text here.expr ∷ ys))) later.1)

  body_goes : (ns : ClauseNames) (n : ℕ) (es : List FunExpr) (ts : List Tree) → are_exprs es ≡ true → part_terms d in_body ns es ≡ Ok ts → (us : List (List ℕ)) × (body_printed d n (of_elements ts) ≡ Ok us)
  body_goes ns n [] ts l h = absurd (let no : false ≡ true = l in cc)
  body_goes ns n (e ∷ es) ts l h =
      let r = row_printed in_body ns n the_expression 1 (e ∷ es) ts (exprs_level (e ∷ es) l) h in
      let a = then_ok (part_term d in_body ns e) (λ t. then_fun (part_terms d in_body ns es) (λ us. Ok (t ∷ us))) ts h in
      let b = then_ok (part_terms d in_body ns es) (λ us. Ok (a.0 ∷ us)) ts a.2 in
      let is : a.0 ∷ b.0 ≡ ts = same_ok (a.0 ∷ b.0) ts b.2 in
      subst (λ us. (vs : List (List ℕ)) × (body_printed d n (of_elements us) ≡ Ok vs)) is (r.0, ap (λ us. parts_printed d in_body n the_expression 1 (of_elements us)) is ∙ r.1)

  -- ---- clauses

  -- a clause of the specification is printed, whatever its number
  abbrev ClausePrinted : Tree → Type 0
  ClausePrinted t = (n : ℕ) → (u : List ℕ) × (clause_printed d n t ≡ Ok u)

  abbrev EachPrinted : List Tree → Type 0
  EachPrinted [] = Unit {0}
  EachPrinted (t ∷ ts) = ClausePrinted t × EachPrinted ts

  each_more : (ts : List Tree) (t : Tree) → EachPrinted ts → ClausePrinted t → EachPrinted (ts ++ t ∷ [])
  each_more [] t h k = (k, tt)
  each_more (u ∷ ts) t h k = (h.0, each_more ts t h.1 k)

  alternative_printed : (k : FunClause) (g : List FunExpr) (t : Tree) → each_level g ≡ true → are_exprs k.body ≡ true → alternative_term d k g ≡ Ok t → ClausePrinted t
  alternative_printed k g t l m h = λ n.
      let ns = names_of k.head in
      let a = then_ok (head_term k.head) (λ x. then_fun (part_terms d in_condition ns g) (λ cs. then_fun (part_terms d in_body ns k.body) (λ bs. Ok (triple x (list_term cs) (list_term bs))))) t h in
      let b = then_ok (part_terms d in_condition ns g) (λ cs. then_fun (part_terms d in_body ns k.body) (λ bs. Ok (triple a.0 (list_term cs) (list_term bs)))) t a.2 in
      let c = then_ok (part_terms d in_body ns k.body) (λ bs. Ok (triple a.0 (list_term b.0) (list_term bs))) t b.2 in
      let head = head_printed k.head a.0 a.1 in
      let conditions = row_printed in_condition ns n the_condition 1 g b.0 l b.1 in
      let body = body_goes ns n k.body c.0 m c.1 in
      let cs = of_elements b.0 in
      let bs = of_elements c.0 in
      subst (λ x. (u : List ℕ) × (clause_printed d n x ≡ Ok u)) (same_ok (triple a.0 (list_term b.0) (list_term c.0)) t c.2) (
        _,
        ap (λ z. then_clause (reason_at n the_head z) (λ p. then_clause (parts_printed d in_condition n the_condition 1 cs) (λ gs. then_clause (body_printed d n bs) (λ es. Ok (clause_text p gs es))))) head.1
            ∙ ap (λ z. then_clause z (λ gs. then_clause (body_printed d n bs) (λ es. Ok (clause_text head.0 gs es)))) conditions.1
            ∙ ap (λ z. then_clause z (λ es. Ok (clause_text head.0 conditions.0 es))) body.1,
      )

  length_by : (b : Bool) (at : ℕ) (ts us : List Tree) → ◌≡◌ {A = OrRefusal (List Tree)} (cond b (Ok ts) (Err (too_large_at at))) (Ok us) → ts ≡ us
  length_by true at ts us h = same_ok ts us h
  length_by false at ts us h = absurd (no_ok (too_large_at at) us h)

  -- each guard has expressions, or there are no conditions
  abbrev EachRow : List (List FunExpr) → Type 0
  EachRow [] = Unit {0}
  EachRow (g ∷ gs) = (each_level g ≡ true) × EachRow gs

  guards_level : (gs : List (List FunExpr)) → are_guards gs ≡ true → EachRow gs
  guards_level [] h = tt
  guards_level (g ∷ gs) h = let p = and_parts (are_exprs g) (are_guards gs) h in (exprs_level g p.0, guards_level gs p.1)

  rows_level : (gs : List (List FunExpr)) → are_guards gs ≡ true → EachRow (alternatives_of gs)
  rows_level [] h = (refl, tt)
  rows_level (g ∷ gs) h = guards_level (g ∷ gs) h

  alternatives_printed : (k : FunClause) (gs : List (List FunExpr)) (ts us : List Tree) → EachRow gs → are_exprs k.body ≡ true → EachPrinted ts → with_alternatives d k ts gs ≡ Ok us → EachPrinted us
  alternatives_printed k [] ts us l m each h = subst EachPrinted (same_ok ts us h) each
  alternatives_printed k (g ∷ gs) ts us l m each h =
      let a = then_ok (alternative_term d k g) (λ t. then_fun (within_length k.at (ts ++ t ∷ [])) (λ vs. with_alternatives d k vs gs)) us h in
      let b = then_ok (within_length k.at (ts ++ a.0 ∷ [])) (λ vs. with_alternatives d k vs gs) us a.2 in
      let is = length_by (nat_le (length (w (list_term (ts ++ a.0 ∷ [])))) LENGTH) k.at (ts ++ a.0 ∷ []) b.0 b.1 in
      alternatives_printed k gs b.0 us l.1 m (subst EachPrinted is (each_more ts a.0 each (alternative_printed k g a.0 l.0 m a.1))) b.2

  fun_clauses_printed : (ks : List FunClause) (ts us : List Tree) → EachClause ks → EachPrinted ts → with_fun_clauses d ts ks ≡ Ok us → EachPrinted us
  fun_clauses_printed [] ts us l each h = subst EachPrinted (same_ok ts us h) each
  fun_clauses_printed (k ∷ ks) ts us l each h =
      let p = and_parts (is_fun_head k.head) (is_level_head k.head && (are_guards k.guards && are_exprs k.body)) l.0 in
      let q = and_parts (are_guards k.guards) (are_exprs k.body) (and_parts (is_level_head k.head) (are_guards k.guards && are_exprs k.body) p.1).1 in
      let a = then_ok (with_alternatives d k ts (alternatives_of k.guards)) (λ vs. with_fun_clauses d vs ks) us h in
      fun_clauses_printed ks a.0 us l.1 (alternatives_printed k (alternatives_of k.guards) ts a.0 (rows_level k.guards q.0) q.1 each a.1) a.2

  all_clauses : (ts : List Tree) (n : ℕ) → EachPrinted ts → (us : List (List ℕ)) × (clauses_printed d n (of_elements ts) ≡ Ok us)
  all_clauses [] n each = ([], refl)
  all_clauses (t ∷ ts) n each =
      let a = each.0 n in
      let r = all_clauses ts (n + 1) each.1 in
      (a.0 ∷ r.0, ap (λ z. then_clause z (λ u. then_clause (clauses_printed d (n + 1) (of_elements ts)) (λ us. Ok (u ∷ us)))) a.1 ∙ ap (λ z. then_clause z (λ us. Ok (a.0 ∷ us))) r.1)

  clauses_are_printed : (ks : List FunClause) (t : Tree) → are_fun_clauses ks ≡ true → tree_of_fun d ks ≡ Ok t → (text : List ℕ) × (fun_printed d t ≡ Ok text)
  clauses_are_printed ks t l h =
      let a = then_ok (with_fun_clauses d [] ks) (λ ts. Ok (list_term ts)) t h in
      let each = fun_clauses_printed ks [] a.0 (each_clause ks l) tt a.1 in
      let r = all_clauses a.0 1 each in
      subst (λ x. (text : List ℕ) × (fun_printed d x ≡ Ok text)) (same_ok (list_term a.0) t a.2) (fun_text r.0, ap (λ z. then_clause z (λ us. Ok (fun_text us))) r.1)

pub fun_is_printed : (d : Dialect) (xs : List FunSpan) (ks : List FunClause) (t : Tree) → DerivesFun xs ks → tree_of_fun d ks ≡ Ok t → (text : List ℕ) × (fun_printed d t ≡ Ok text)
fun_is_printed d xs ks t derives h = clauses_are_printed d ks t derives.clauses h

read_by : (end : ℕ) (r : Result (List FunClause) FunFault) (ks : List FunClause) → read_or_refusal end r ≡ Ok ks → r ≡ Ok ks
read_by end (Ok js) ks h = let same : js ≡ ks = cc in ap (λ x. Ok x) same
read_by end (Err r) ks h = absurd (no_ok (reading_refusal end r.0 r.1) ks h)

long_by : (b : Bool) (r : OrRefusal (List FunClause)) (ks : List FunClause) → cond b r (Err too_long) ≡ Ok ks → r ≡ Ok ks
long_by true r ks h = h
long_by false r ks h = absurd (no_ok too_long ks h)

pub text_is_printed : (d : Dialect) (bytes : List ℕ) (t : Tree) → spec_of_text d bytes ≡ Ok t → (text : List ℕ) × (fun_printed d t ≡ Ok text)
text_is_printed d bytes t h =
    let a = then_ok (fun_of_text bytes) (λ ks. tree_of_fun d ks) t h in
    let read = read_by (length bytes) (read_fun FUN_DEPTH true (fun_spans bytes)) a.0 (long_by (nat_le (length bytes) LENGTH) _ a.0 a.1) in
    fun_is_printed d (fun_spans bytes) a.0 t (read_derives FUN_DEPTH true (fun_spans bytes) a.0 read) a.2

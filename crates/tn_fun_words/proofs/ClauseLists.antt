-- The words of clauses, one clause of a fun after another.
use Rattle.std.proofs.Common.{◌≡◌, ◌∙◌, ℕ, zero, suc, ◌+◌, ◌-◌, ◌<◌, ◌≤◌, max, List, [], ◌∷◌, ◌++◌, length, get_or, drop, map, slice_get, Option, Some, None, option_map, refl, sym, ap, arith}
use Rattle.std.proofs.lemmas.List.{drop_more, drop_all}
use Rattle.std.specs.declared.vec.Vec.{Vec}
use Rattle.def_fun.specs.Trees.{FunExpr}
use Rattle.def_fun.specs.Translation.{alternatives_of}
use Rattle.def_fun_words.specs.Words.{ClauseWords, condition_text, guard_words, clause_words, words_of_fun}
use Rattle.tn_fun.specs.Trees.{fun_expr_seen, fun_row_seen}
use Rattle.tn_fun.specs.Clauses.{guard_seen, guards_seen, fun_clause_seen, fun_clauses_seen}
use Rattle.tn_fun.specs.declared.clause.Clause.{Clause}
use Rattle.tn_fun.specs.declared.tree.Expr.{Expr}
use Rattle.tn_fun_words.specs.Views.{condition_texts}

get_mapped : {X Y : Type 0} (f : X → Y) (xs : List X) (i : ℕ) (x : X) → i < length xs → x ≡ get_or xs i x → slice_get (map f xs) i ≡ Some (f x)
get_mapped f [] i x below is = absurd (omega (arith, below))
get_mapped f (y ∷ ys) zero x below is = ap (λ z. Some (f z)) (sym is)
get_mapped f (y ∷ ys) (suc i) x below is = get_mapped f ys i x (omega (arith, below)) is

get_map : {X Y : Type 0} (f : X → Y) (xs : List X) (n : ℕ) → slice_get (map f xs) n ≡ option_map f (slice_get xs n)
get_map f [] n = refl
get_map f (x ∷ xs) zero = refl
get_map f (x ∷ xs) (suc n) = get_map f xs n

get_here : {X : Type 0} (xs ys : List X) (n : ℕ) (x : X) → slice_get xs n ≡ Some x → slice_get (xs ++ ys) n ≡ Some x
get_here [] ys n x h = absurd (let no : None ≡ Some x = h in cc)
get_here (y ∷ xs) ys zero x h = h
get_here (y ∷ xs) ys (suc n) x h = get_here xs ys n x h

get_later : {X : Type 0} (xs ys : List X) (n m : ℕ) → slice_get xs n ≡ None → m ≡ n - length xs → slice_get (xs ++ ys) n ≡ slice_get ys m
get_later [] ys n m h e = let same : n ≡ m = omega (arith, e) in ap (slice_get ys) same
get_later (y ∷ xs) ys zero m h e = absurd (let no : Some y ≡ None = h in cc)
get_later (y ∷ xs) ys (suc n) m h e = get_later xs ys n m h (omega (arith, e))

-- the text of the condition at an index, where there is one
pub condition_there : {A : Type 0} (text : List ℕ) (es : List (Expr A)) (i : ℕ) (e : Expr A) → i < length es → e ≡ get_or es i e → slice_get (condition_texts text es) i ≡ Some (condition_text text (fun_expr_seen text e))
condition_there text es i e below is = get_map (condition_text text) (fun_row_seen text es) i ∙ ap (option_map (condition_text text)) (get_mapped (fun_expr_seen text) es i e below is)

past_all : {X : Type 0} (xs : List X) (i : ℕ) → length xs ≤ i → slice_get xs i ≡ None
past_all [] i past = refl
past_all (x ∷ xs) zero past = absurd (omega (arith, past))
past_all (x ∷ xs) (suc i) past = past_all xs i (omega (arith, past))

pub no_condition_there : {A : Type 0} (text : List ℕ) (es : List (Expr A)) (i : ℕ) → length es ≤ i → slice_get (condition_texts text es) i ≡ None
no_condition_there text es i past =
    get_map (condition_text text) (fun_row_seen text es) i ∙ ap (option_map (condition_text text)) (get_map (fun_expr_seen text) es i)
    ∙ ap (λ o. option_map (condition_text text) (option_map (fun_expr_seen text) o)) (past_all es i past)

mapped_as_many : {X Y : Type 0} (f : X → Y) (xs : List X) → length (map f xs) ≡ length xs
mapped_as_many f [] = refl
mapped_as_many f (x ∷ xs) = let more = mapped_as_many f xs in omega (arith, more)

as_many : (gs : List (List FunExpr)) → length (alternatives_of gs) ≡ max 1 (length gs)
as_many [] = refl
as_many (g ∷ gs) = omega arith

some_guards : {A : Type 0} (text : List ℕ) (gs : List (Vec (Expr A) A)) (i : ℕ) → i < length gs → alternatives_of (guards_seen text gs) ≡ guards_seen text gs
some_guards text [] i below = absurd (omega (arith, below))
some_guards text (g ∷ gs) i below = refl

-- one of the guards
pub guard_there : {A : Type 0} (text : List ℕ) (gs : List (Vec (Expr A) A)) (i : ℕ) (g : Vec (Expr A) A) → i < length gs → g ≡ get_or gs i g → slice_get (alternatives_of (guards_seen text gs)) i ≡ Some (guard_seen text g)
guard_there text gs i g below is = ap (λ z. slice_get z i) (some_guards text gs i below) ∙ get_mapped (guard_seen text) gs i g below is

module _ {A : Type 0} (text : List ℕ) (ks : List (Clause A)) (i : ℕ) where
  abbrev pub words_from : ℕ → List ClauseWords
  words_from n = words_of_fun text (fun_clauses_seen text (drop n ks))

  here : (k : Clause A) → i < length ks → k ≡ get_or ks i k → words_from i ≡ clause_words text (fun_clause_seen text k) ++ words_from (i + 1)
  here k below is = ap (λ js. words_of_fun text (fun_clauses_seen text js)) (drop_more ks i k below) ∙ ap (λ j. clause_words text (fun_clause_seen text j) ++ words_from (i + 1)) (sym is)

  -- the clause isn't one of this clause of the fun
  pub words_later : (k : Clause A) (n m count : ℕ) (whole : Option ClauseWords) → i < length ks → k ≡ get_or ks i k → slice_get (alternatives_of (guards_seen text k.guards.items)) n ≡ None
      → count ≡ max 1 (length k.guards.items) → m ≡ n - count → slice_get (words_from i) n ≡ whole → slice_get (words_from (i + 1)) m ≡ whole
  words_later k n m count whole below is none counted next so_far =
      let gs = guards_seen text k.guards.items in
      let words = clause_words text (fun_clause_seen text k) in
      let size : length words ≡ max 1 (length k.guards.items) = mapped_as_many (guard_words text (fun_clause_seen text k)) (alternatives_of gs) ∙ as_many gs ∙ ap (max 1) (mapped_as_many (guard_seen text) k.guards.items) in
      let later : m ≡ n - length words = next ∙ ap (λ z. n - z) (counted ∙ sym size) in
      sym (get_later words (words_from (i + 1)) n m (get_map (guard_words text (fun_clause_seen text k)) (alternatives_of gs) n ∙ ap (option_map (guard_words text (fun_clause_seen text k))) none) later)
      ∙ ap (λ z. slice_get z n) (sym (here k below is)) ∙ so_far

  -- it is
  pub words_here : (k : Clause A) (n : ℕ) (g : List FunExpr) (whole : Option ClauseWords) → i < length ks → k ≡ get_or ks i k → Some g ≡ slice_get (alternatives_of (guards_seen text k.guards.items)) n
      → slice_get (words_from i) n ≡ whole → Some (guard_words text (fun_clause_seen text k) g) ≡ whole
  words_here k n g whole below is found so_far =
      let gs = guards_seen text k.guards.items in
      let words = clause_words text (fun_clause_seen text k) in
      sym (get_here words (words_from (i + 1)) n (guard_words text (fun_clause_seen text k) g) (get_map (guard_words text (fun_clause_seen text k)) (alternatives_of gs) n ∙ ap (option_map (guard_words text (fun_clause_seen text k))) (sym found)))
      ∙ ap (λ z. slice_get z n) (sym (here k below is)) ∙ so_far

  -- there is no clause more
  pub words_over : (n : ℕ) (whole : Option ClauseWords) → length ks ≤ i → slice_get (words_from i) n ≡ whole → None ≡ whole
  words_over n whole past so_far = ap (λ js. slice_get (words_of_fun text (fun_clauses_seen text js)) n) (sym (drop_all i ks past)) ∙ so_far

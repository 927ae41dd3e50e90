-- The names of a head, part by part.
use Rattle.std.proofs.Common.{◌≡◌, ◌∙◌, ℕ, zero, suc, ◌+◌, ◌<◌, ◌≤◌, List, [], ◌∷◌, ◌++◌, length, get_or, drop, Bool, true, false, ◌||◌, Option, Some, None, option_to_list, slice_get, refl, sym, ap, arith}
use Rattle.std.proofs.lemmas.Grind.{flat_map-append}
use Rattle.std.proofs.lemmas.List.{drop_more, drop_all, map-append}
use Rattle.std.specs.Borrow.{Bor}
use Rattle.std.specs.Str.{bytes_eq}
use Rattle.std.specs.declared.vec.Vec.{Vec}
use Rattle.def_term.specs.Names.{Name}
use Rattle.def_term.specs.Text.{is_among}
use Rattle.def_fun.specs.Trees.{FunExpr, variable, whole, atom, strings, in_parens, call, list, list_onto, tuple, before, between, FunExprs, none, more}
use Rattle.def_fun.specs.Variables.{variables_in, variables_in_each, name_of_variable, with_names}
use Rattle.def_fun.proofs.NamesGrow.{names_after}
use Rattle.def_fun_words.specs.Notes.{noted_parts_of, parts_of_each}
use Rattle.def_fun_words.specs.WordTexts.{name_numbered}
use Rattle.tn_fun.specs.Trees.{fun_expr_seen}
use Rattle.tn_fun.specs.declared.tree.Expr.{Expr}
use Rattle.tn_fun_words.specs.Views.{lent_exprs_seen, names_in_parts, name_list_seen}

abbrev names_at : FunExpr → List Name
names_at e = option_to_list (name_of_variable e)

joined : (xs ys : List FunExpr) → names_in_parts (xs ++ ys) ≡ names_in_parts xs ++ names_in_parts ys
joined xs ys = flat_map-append names_at xs ys

-- the variables are those of the parts
mutual
  pub of_parts : (e : FunExpr) → names_in_parts (noted_parts_of e) ≡ variables_in e
  of_parts (variable at s) = refl
  of_parts (whole at n) = refl
  of_parts (atom at s) = refl
  of_parts (strings at s ss) = refl
  of_parts (in_parens at e) = of_parts e
  of_parts (call at s es) = of_each es
  of_parts (list at es) = of_each es
  of_parts (list_onto at es e) = joined (parts_of_each es) (noted_parts_of e) ∙ ap (λ l. l ++ names_in_parts (noted_parts_of e)) (of_each es) ∙ ap (λ l. variables_in_each es ++ l) (of_parts e)
  of_parts (tuple at es) = of_each es
  of_parts (before at o e) = of_parts e
  of_parts (between at o l r) = joined (noted_parts_of l) (noted_parts_of r) ∙ ap (λ n. n ++ names_in_parts (noted_parts_of r)) (of_parts l) ∙ ap (λ n. variables_in l ++ n) (of_parts r)

  of_each : (es : FunExprs) → names_in_parts (parts_of_each es) ≡ variables_in_each es
  of_each none = refl
  of_each (more e es) = joined (noted_parts_of e) (parts_of_each es) ∙ ap (λ l. l ++ names_in_parts (parts_of_each es)) (of_parts e) ∙ ap (λ l. variables_in e ++ l) (of_each es)

module _ {A : Type 0} (text : List ℕ) (ps : List (Bor (Expr A))) (i : ℕ) where
  here : (p : Bor (Expr A)) → i < length ps → p ≡ get_or ps i p → names_in_parts (lent_exprs_seen text (drop i ps)) ≡ names_at (fun_expr_seen text p.now) ++ names_in_parts (lent_exprs_seen text (drop (i + 1) ps))
  here p below is = ap (λ qs. names_in_parts (lent_exprs_seen text qs)) (drop_more ps i p below) ∙ ap (λ q. names_at (fun_expr_seen text q.now) ++ names_in_parts (lent_exprs_seen text (drop (i + 1) ps))) (sym is)

  -- one part more
  pub part_added : (p : Bor (Expr A)) (w v : Option Name) (ns ms all : List Name) → i < length ps → p ≡ get_or ps i p → v ≡ w → ms ≡ with_names v ns (names_at (fun_expr_seen text p.now))
      → with_names w ns (names_in_parts (lent_exprs_seen text (drop i ps))) ≡ all → with_names w ms (names_in_parts (lent_exprs_seen text (drop (i + 1) ps))) ≡ all
  part_added p w v ns ms all below is same added so_far =
      let rest = names_in_parts (lent_exprs_seen text (drop (i + 1) ps)) in
      let here_names = names_at (fun_expr_seen text p.now) in
      ap (λ z. with_names w z rest) (added ∙ ap (λ z. with_names z ns here_names) same)
      ∙ sym (names_after w ns here_names rest) ∙ ap (with_names w ns) (sym (here p below is)) ∙ so_far

  pub names_over : (w : Option Name) (ns all : List Name) → length ps ≤ i → with_names w ns (names_in_parts (lent_exprs_seen text (drop i ps))) ≡ all → ns ≡ all
  names_over w ns all past so_far = ap (λ qs. with_names w ns (names_in_parts (lent_exprs_seen text qs))) (sym (drop_all i ps past)) ∙ so_far

-- before the first part
pub names_begin : {A : Type 0} (text : List ℕ) (empties ps : List (Bor (Expr A))) (e m : FunExpr) (w : Option Name) (ns : List Name) → ns ≡ [] → empties ≡ [] → lent_exprs_seen text ps ≡ lent_exprs_seen text empties ++ noted_parts_of e → e ≡ m
    → with_names w ns (names_in_parts (lent_exprs_seen text ps)) ≡ with_names w [] (variables_in m)
names_begin text empties ps e m w ns empty nothing made is =
    ap (λ z. with_names w z (names_in_parts (lent_exprs_seen text ps))) empty
    ∙ ap (λ z. with_names w [] (names_in_parts z)) (made ∙ ap (λ z. lent_exprs_seen text z ++ noted_parts_of e) nothing)
    ∙ ap (with_names w []) (of_parts e ∙ ap variables_in is)

-- ---- names of vectors

pub one_pushed : {A : Type 0} (vs us : List (Vec ℕ A)) (v : Vec ℕ A) → us ≡ vs ++ v ∷ [] → name_list_seen us ≡ name_list_seen vs ++ v.items ∷ []
one_pushed vs us v h = ap name_list_seen h ∙ map-append (λ x. x.items) vs (v ∷ [])

among_first : {A : Type 0} (vs : List (Vec ℕ A)) (i : ℕ) (v : Vec ℕ A) (s : Name) → i < length vs → v ≡ get_or vs i v → is_among (name_list_seen (drop i vs)) s ≡ (bytes_eq s v.items || is_among (name_list_seen (drop (i + 1) vs)) s)
among_first vs i v s below is = ap (λ us. is_among (name_list_seen us) s) (drop_more vs i v below) ∙ ap (λ u. bytes_eq s u.items || is_among (name_list_seen (drop (i + 1) vs)) s) (sym is)

pub among_here : {A : Type 0} (vs : List (Vec ℕ A)) (i : ℕ) (v : Vec ℕ A) (s : Name) (all : Bool) → i < length vs → v ≡ get_or vs i v → bytes_eq s v.items ≡ true → is_among (name_list_seen (drop i vs)) s ≡ all → true ≡ all
among_here vs i v s all below is same so_far = sym (ap (λ b. b || is_among (name_list_seen (drop (i + 1) vs)) s) same) ∙ sym (among_first vs i v s below is) ∙ so_far

pub among_later : {A : Type 0} (vs : List (Vec ℕ A)) (i : ℕ) (v : Vec ℕ A) (s : Name) (all : Bool) → i < length vs → v ≡ get_or vs i v → bytes_eq s v.items ≡ false → is_among (name_list_seen (drop i vs)) s ≡ all → is_among (name_list_seen (drop (i + 1) vs)) s ≡ all
among_later vs i v s all below is other so_far = sym (ap (λ b. b || is_among (name_list_seen (drop (i + 1) vs)) s) other) ∙ sym (among_first vs i v s below is) ∙ so_far

-- the name of a number from 1
pub name_there : {A : Type 0} (vs : List (Vec ℕ A)) (n i : ℕ) (v : Vec ℕ A) → n ≡ suc i → i < length vs → v ≡ get_or vs i v → name_numbered (name_list_seen vs) n ≡ Some v.items
name_there {A = A} vs n i v next below is = ap (name_numbered (name_list_seen vs)) next ∙ got vs i v below is
  where
    got : (us : List (Vec ℕ A)) (j : ℕ) (u : Vec ℕ A) → j < length us → u ≡ get_or us j u → slice_get (name_list_seen us) j ≡ Some u.items
    got [] j u low same = absurd (omega (arith, low))
    got (x ∷ us) zero u low same = ap (λ z. Some z.items) (sym same)
    got (x ∷ us) (suc j) u low same = got us j u (omega (arith, low)) same

-- no name has the number 0, or one past their number
pub no_name_0 : (ns : List Name) (n : ℕ) → n ≡ 0 → name_numbered ns n ≡ None
no_name_0 ns n is = ap (name_numbered ns) is

pub no_name_past : {A : Type 0} (vs : List (Vec ℕ A)) (n i : ℕ) → n ≡ suc i → length vs ≤ i → name_numbered (name_list_seen vs) n ≡ None
no_name_past {A = A} vs n i next past = ap (name_numbered (name_list_seen vs)) next ∙ over vs i past
  where
    over : (us : List (Vec ℕ A)) (j : ℕ) → length us ≤ j → slice_get (name_list_seen us) j ≡ None
    over [] j low = refl
    over (x ∷ us) zero low = absurd (omega (arith, low))
    over (x ∷ us) (suc j) low = over us j (omega (arith, low))

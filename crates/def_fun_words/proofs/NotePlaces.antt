-- Notes are where the tree has what is noted.
use Rattle.std.proofs.Common.{◌≡◌, ◌↔◌, ◌⊎◌, ℕ, zero, suc, ◌<◌, Bool, true, false, List, [], ◌∷◌, ◌++◌, length, get_or, Contains, flat_map, codes, refl, sym, ap, subst, inl, inr, ⊎_elim, arith, if◌then◌else◌}
use Rattle.std.proofs.lemmas.List.Elements.{Contains-append_cases, Contains-append_left, Contains-append_right}
use Rattle.std.proofs.lemmas.Slice.Eq.{bytes_eq-Decides}
use Rattle.std.specs.Str.{bytes_eq}
use Rattle.def_fun.specs.Trees.{FunExpr, variable, whole, atom, strings, in_parens, call, list, list_onto, tuple, before, between, FunExprs, none, more, FunClause}
use Rattle.def_fun.specs.Variables.{matched_part, ClauseNames, names_of, VariableKind, the_whole, anything_there, of_number, of_no_head, variable_kind}
use Rattle.def_fun_words.specs.Notes.{FunNote, whole_in_list, bindings_called, any_in_expression, test_ends_node, noted_parts_of, parts_of_each, note_of_kind_in_head, note_in_head, note_of_kind, changes_flags, note_of_call, note_in_expr, expr_notes, row_notes, head_notes, clause_notes, fun_notes}
use Rattle.def_fun_words.specs.NoteLaws.{IsPartOf, IsPartOfOne, IsInRow, IsInClause, IsNoted}

-- ---- elements

module _ {X : Type 0} where
  none_in_nil : (x : X) → Contains [] x → ⊥
  none_in_nil x h = let lt = h.1 in omega arith

  first_or_later : (x z : X) (xs : List X) → Contains (x ∷ xs) z → (x ≡ z) ⊎ Contains xs z
  first_or_later x z xs h = go h.0 h.1 h.2
    where
      go : (k : ℕ) → k < length (x ∷ xs) → get_or (x ∷ xs) k z ≡ z → (x ≡ z) ⊎ Contains xs z
      go zero l e = inl e
      go (suc k) l e = inr (k, omega arith, e)

  first : (x z : X) (xs : List X) → z ≡ x → Contains (x ∷ xs) z
  first x z xs e = (0, omega arith, sym e)

  later : (x z : X) (xs : List X) → Contains xs z → Contains (x ∷ xs) z
  later x z xs h = let lt = h.1 in (suc h.0, omega arith, h.2)

module _ {X Y : Type 0} (f : X → List Y) where
  in_some : (xs : List X) (y : Y) → Contains (flat_map f xs) y → (x : X) × Contains xs x × Contains (f x) y
  in_some [] y h = absurd (none_in_nil y h)
  in_some (x ∷ xs) y h = ⊎_elim (λ a. (x, first x x xs refl, a)) (λ b. let r = in_some xs y b in (r.0, later x r.0 xs r.1, r.2)) (Contains-append_cases (f x) (flat_map f xs) y h)

  in_all : (xs : List X) (x : X) (y : Y) → Contains xs x → Contains (f x) y → Contains (flat_map f xs) y
  in_all [] x y h a = absurd (none_in_nil x h)
  in_all (z ∷ xs) x y h a = ⊎_elim
      (λ same. Contains-append_left (f z) (flat_map f xs) y (subst (λ u. Contains (f u) y) (sym same) a))
      (λ more. Contains-append_right (f z) (flat_map f xs) y (in_all xs x y more a))
      (first_or_later z x xs h)

-- ---- parts

alone : (e x : FunExpr) → Contains (e ∷ []) x → x ≡ e
alone e x h = ⊎_elim (λ same. sym same) (λ m. absurd (none_in_nil x m)) (first_or_later e x [] h)

mutual
  part_there : (e x : FunExpr) → Contains (noted_parts_of e) x → IsPartOf x e
  part_there (variable at s) x h = alone (variable at s) x h
  part_there (whole at n) x h = alone (whole at n) x h
  part_there (atom at s) x h = alone (atom at s) x h
  part_there (strings at s ss) x h = alone (strings at s ss) x h
  part_there (in_parens at e) x h = ⊎_elim (λ same. inl (sym same)) (λ m. inr (part_there e x m)) (first_or_later (in_parens at e) x (noted_parts_of e) h)
  part_there (call at s es) x h = ⊎_elim (λ same. inl (sym same)) (λ m. inr (one_there es x m)) (first_or_later (call at s es) x (parts_of_each es) h)
  part_there (list at es) x h = ⊎_elim (λ same. inl (sym same)) (λ m. inr (one_there es x m)) (first_or_later (list at es) x (parts_of_each es) h)
  part_there (list_onto at es e) x h = ⊎_elim (λ same. inl (sym same)) (λ m. inr (⊎_elim (λ a. inl (one_there es x a)) (λ b. inr (part_there e x b)) (Contains-append_cases (parts_of_each es) (noted_parts_of e) x m)))
      (first_or_later (list_onto at es e) x (parts_of_each es ++ noted_parts_of e) h)
  part_there (tuple at es) x h = ⊎_elim (λ same. inl (sym same)) (λ m. inr (one_there es x m)) (first_or_later (tuple at es) x (parts_of_each es) h)
  part_there (before at o e) x h = ⊎_elim (λ same. inl (sym same)) (λ m. inr (part_there e x m)) (first_or_later (before at o e) x (noted_parts_of e) h)
  part_there (between at o l r) x h = ⊎_elim (λ same. inl (sym same)) (λ m. inr (⊎_elim (λ a. inl (part_there l x a)) (λ b. inr (part_there r x b)) (Contains-append_cases (noted_parts_of l) (noted_parts_of r) x m)))
      (first_or_later (between at o l r) x (noted_parts_of l ++ noted_parts_of r) h)

  one_there : (es : FunExprs) (x : FunExpr) → Contains (parts_of_each es) x → IsPartOfOne x es
  one_there none x h = none_in_nil x h
  one_there (more e es) x h = ⊎_elim (λ a. inl (part_there e x a)) (λ b. inr (one_there es x b)) (Contains-append_cases (noted_parts_of e) (parts_of_each es) x h)

mutual
  part_listed : (e x : FunExpr) → IsPartOf x e → Contains (noted_parts_of e) x
  part_listed (variable at s) x h = first (variable at s) x [] h
  part_listed (whole at n) x h = first (whole at n) x [] h
  part_listed (atom at s) x h = first (atom at s) x [] h
  part_listed (strings at s ss) x h = first (strings at s ss) x [] h
  part_listed (in_parens at e) x h = ⊎_elim (first (in_parens at e) x (noted_parts_of e)) (λ m. later (in_parens at e) x (noted_parts_of e) (part_listed e x m)) h
  part_listed (call at s es) x h = ⊎_elim (first (call at s es) x (parts_of_each es)) (λ m. later (call at s es) x (parts_of_each es) (one_listed es x m)) h
  part_listed (list at es) x h = ⊎_elim (first (list at es) x (parts_of_each es)) (λ m. later (list at es) x (parts_of_each es) (one_listed es x m)) h
  part_listed (list_onto at es e) x h = ⊎_elim (first (list_onto at es e) x (parts_of_each es ++ noted_parts_of e))
      (λ m. later (list_onto at es e) x (parts_of_each es ++ noted_parts_of e) (⊎_elim (λ a. Contains-append_left (parts_of_each es) (noted_parts_of e) x (one_listed es x a)) (λ b. Contains-append_right (parts_of_each es) (noted_parts_of e) x (part_listed e x b)) m)) h
  part_listed (tuple at es) x h = ⊎_elim (first (tuple at es) x (parts_of_each es)) (λ m. later (tuple at es) x (parts_of_each es) (one_listed es x m)) h
  part_listed (before at o e) x h = ⊎_elim (first (before at o e) x (noted_parts_of e)) (λ m. later (before at o e) x (noted_parts_of e) (part_listed e x m)) h
  part_listed (between at o l r) x h = ⊎_elim (first (between at o l r) x (noted_parts_of l ++ noted_parts_of r))
      (λ m. later (between at o l r) x (noted_parts_of l ++ noted_parts_of r) (⊎_elim (λ a. Contains-append_left (noted_parts_of l) (noted_parts_of r) x (part_listed l x a)) (λ b. Contains-append_right (noted_parts_of l) (noted_parts_of r) x (part_listed r x b)) m)) h

  one_listed : (es : FunExprs) (x : FunExpr) → IsPartOfOne x es → Contains (parts_of_each es) x
  one_listed none x h = absurd h
  one_listed (more e es) x h = ⊎_elim (λ a. Contains-append_left (noted_parts_of e) (parts_of_each es) x (part_listed e x a)) (λ b. Contains-append_right (noted_parts_of e) (parts_of_each es) x (one_listed es x b)) h

-- ---- notes of one part

-- what a part of what is matched is, whose note this is
abbrev IsOfHead : ClauseNames → FunExpr → FunNote → Type 0
IsOfHead ns e (whole_in_list s at) = (e ≡ variable at s) × (variable_kind ns s ≡ the_whole)
IsOfHead ns e (bindings_called at) = ⊥
IsOfHead ns e (any_in_expression at) = ⊥
IsOfHead ns e (test_ends_node s at) = ⊥

-- what a part of a guard or body is, whose note this is
abbrev IsOfExpr : ClauseNames → FunExpr → FunNote → Type 0
IsOfExpr ns e (whole_in_list s at) = ⊥
IsOfExpr ns e (bindings_called at) = (es : FunExprs) × (e ≡ call at (codes "bindings") es)
IsOfExpr ns e (any_in_expression at) = (s : List ℕ) × (e ≡ variable at s) × (variable_kind ns s ≡ anything_there)
IsOfExpr ns e (test_ends_node s at) = (es : FunExprs) × (e ≡ call at s es) × (changes_flags s ≡ true)

only_note : (R : FunNote → Type 0) (x y : FunNote) → R x → Contains (x ∷ []) y → R y
only_note R x y r h = ⊎_elim (λ same. subst R same r) (λ m. absurd (none_in_nil y m)) (first_or_later x y [] h)

head_there : (ns : ClauseNames) (e : FunExpr) (y : FunNote) → Contains (note_in_head ns e) y → IsOfHead ns e y
head_there ns (variable at s) y h = go (variable_kind ns s) refl h
  where
    go : (k : VariableKind) → variable_kind ns s ≡ k → Contains (note_of_kind_in_head k s at) y → IsOfHead ns (variable at s) y
    go the_whole is c = only_note (IsOfHead ns (variable at s)) (whole_in_list s at) y (refl, is) c
    go anything_there is c = absurd (none_in_nil y c)
    go (of_number n) is c = absurd (none_in_nil y c)
    go of_no_head is c = absurd (none_in_nil y c)
head_there ns e y h = absurd (none_in_nil y h)

head_listed : (ns : ClauseNames) (e : FunExpr) (y : FunNote) → IsOfHead ns e y → Contains (note_in_head ns e) y
head_listed ns e (whole_in_list s at) h = subst (λ x. Contains (note_in_head ns x) (whole_in_list s at)) (sym h.0)
    (subst (λ k. Contains (note_of_kind_in_head k s at) (whole_in_list s at)) (sym h.1) (first (whole_in_list s at) (whole_in_list s at) [] refl))
head_listed ns e (bindings_called at) h = absurd h
head_listed ns e (any_in_expression at) h = absurd h
head_listed ns e (test_ends_node s at) h = absurd h

same_name : (s u : List ℕ) → bytes_eq s u ≡ true → s ≡ u
same_name s u h = (bytes_eq-Decides s u).0 h

no_flags_of_bindings : (s : List ℕ) → bytes_eq s (codes "bindings") ≡ true → changes_flags s ≡ false
no_flags_of_bindings s h = ap changes_flags (same_name s (codes "bindings") h)

expr_there : (ns : ClauseNames) (e : FunExpr) (y : FunNote) → Contains (note_in_expr ns e) y → IsOfExpr ns e y
expr_there ns (variable at s) y h = go (variable_kind ns s) refl h
  where
    go : (k : VariableKind) → variable_kind ns s ≡ k → Contains (note_of_kind k at) y → IsOfExpr ns (variable at s) y
    go the_whole is c = absurd (none_in_nil y c)
    go anything_there is c = only_note (IsOfExpr ns (variable at s)) (any_in_expression at) y (s, refl, is) c
    go (of_number n) is c = absurd (none_in_nil y c)
    go of_no_head is c = absurd (none_in_nil y c)
expr_there ns (call at s es) y h = go (bytes_eq s (codes "bindings")) (changes_flags s) refl refl h
  where
    go : (b a : Bool) → bytes_eq s (codes "bindings") ≡ b → changes_flags s ≡ a → Contains (if b then bindings_called at ∷ [] else (if a then test_ends_node s at ∷ [] else [])) y → IsOfExpr ns (call at s es) y
    go true a is other c = only_note (IsOfExpr ns (call at s es)) (bindings_called at) y (es, ap (λ u. call at u es) (same_name s (codes "bindings") is)) c
    go false true is other c = only_note (IsOfExpr ns (call at s es)) (test_ends_node s at) y (es, refl, other) c
    go false false is other c = absurd (none_in_nil y c)
expr_there ns e y h = absurd (none_in_nil y h)

expr_listed : (ns : ClauseNames) (e : FunExpr) (y : FunNote) → IsOfExpr ns e y → Contains (note_in_expr ns e) y
expr_listed ns e (whole_in_list s at) h = absurd h
expr_listed ns e (bindings_called at) h = subst (λ x. Contains (note_in_expr ns x) (bindings_called at)) (sym h.1) (first (bindings_called at) (bindings_called at) [] refl)
expr_listed ns e (any_in_expression at) h = subst (λ x. Contains (note_in_expr ns x) (any_in_expression at)) (sym h.1)
    (subst (λ k. Contains (note_of_kind k at) (any_in_expression at)) (sym h.2) (first (any_in_expression at) (any_in_expression at) [] refl))
expr_listed ns e (test_ends_node s at) h = subst (λ x. Contains (note_in_expr ns x) (test_ends_node s at)) (sym h.1) (go (bytes_eq s (codes "bindings")) refl)
  where
    go : (b : Bool) → bytes_eq s (codes "bindings") ≡ b → Contains (note_of_call s at) (test_ends_node s at)
    go true is = absurd (cc (no_flags_of_bindings s is, h.2))
    go false is = subst (λ b. Contains (if b then bindings_called at ∷ [] else (if changes_flags s then test_ends_node s at ∷ [] else [])) (test_ends_node s at)) (sym is)
        (subst (λ a. Contains (if a then test_ends_node s at ∷ [] else []) (test_ends_node s at)) (sym h.2) (first (test_ends_node s at) (test_ends_node s at) [] refl))

-- ---- notes of rows and clauses

-- a part of one of these expressions has the note
abbrev IsOfRow : ClauseNames → List FunExpr → FunNote → Type 0
IsOfRow ns es y = (x : FunExpr) × IsInRow x es × IsOfExpr ns x y

row_there : (ns : ClauseNames) (es : List FunExpr) (y : FunNote) → Contains (row_notes ns es) y → IsOfRow ns es y
row_there ns es y h =
    let a = in_some (expr_notes ns) es y h in
    let b = in_some (note_in_expr ns) (noted_parts_of a.0) y a.2 in
    (b.0, (a.0, a.1, part_there a.0 b.0 b.1), expr_there ns b.0 y b.2)

row_listed : (ns : ClauseNames) (es : List FunExpr) (y : FunNote) → IsOfRow ns es y → Contains (row_notes ns es) y
row_listed ns es y h =
    let r = h.1 in
    in_all (expr_notes ns) es r.0 y r.1 (in_all (note_in_expr ns) (noted_parts_of r.0) h.0 y (part_listed r.0 h.0 r.2) (expr_listed ns h.0 y h.2))

-- the head's notes
of_head : (k : FunClause) (y : FunNote) → Contains (head_notes k.head) y → (x : FunExpr) × IsPartOf x (matched_part k.head) × IsOfHead (names_of k.head) x y
of_head k y h =
    let a = in_some (note_in_head (names_of k.head)) (noted_parts_of (matched_part k.head)) y h in
    (a.0, part_there (matched_part k.head) a.0 a.1, head_there (names_of k.head) a.0 y a.2)

head_noted : (k : FunClause) (x : FunExpr) (y : FunNote) → IsPartOf x (matched_part k.head) → IsOfHead (names_of k.head) x y → IsNoted k y
head_noted k x (whole_in_list s at) p h = (subst (λ u. IsPartOf u (matched_part k.head)) h.0 p, h.1)
head_noted k x (bindings_called at) p h = absurd h
head_noted k x (any_in_expression at) p h = absurd h
head_noted k x (test_ends_node s at) p h = absurd h

expr_noted : (k : FunClause) (x : FunExpr) (y : FunNote) → IsInClause x k → IsOfExpr (names_of k.head) x y → IsNoted k y
expr_noted k x (whole_in_list s at) p h = absurd h
expr_noted k x (bindings_called at) p h = (h.0, subst (λ u. IsInClause u k) h.1 p)
expr_noted k x (any_in_expression at) p h = (h.0, subst (λ u. IsInClause u k) h.1 p, h.2)
expr_noted k x (test_ends_node s at) p h = (h.0, subst (λ u. IsInClause u k) h.1 p, h.2)

clause_noted : (k : FunClause) (y : FunNote) → Contains (clause_notes k) y → IsNoted k y
clause_noted k y h =
    let ns = names_of k.head in
    ⊎_elim
    (λ a. let r = of_head k y a in head_noted k r.0 y r.1 r.2)
    (λ b. ⊎_elim
    (λ c. let g = in_some (row_notes ns) k.guards y c in let r = row_there ns g.0 y g.2 in expr_noted k r.0 y (inl (g.0, g.1, r.1)) r.2)
    (λ c. let r = row_there ns k.body y c in expr_noted k r.0 y (inr r.1) r.2)
    (Contains-append_cases (flat_map (row_notes ns) k.guards) (row_notes ns k.body) y b))
    (Contains-append_cases (head_notes k.head) (flat_map (row_notes ns) k.guards ++ row_notes ns k.body) y h)

in_parts : (k : FunClause) (x : FunExpr) (y : FunNote) → IsInClause x k → IsOfExpr (names_of k.head) x y → Contains (clause_notes k) y
in_parts k x y p h =
    let ns = names_of k.head in
    Contains-append_right (head_notes k.head) (flat_map (row_notes ns) k.guards ++ row_notes ns k.body) y (⊎_elim
    (λ a. Contains-append_left (flat_map (row_notes ns) k.guards) (row_notes ns k.body) y (in_all (row_notes ns) k.guards a.0 y a.1 (row_listed ns a.0 y (x, a.2, h))))
    (λ b. Contains-append_right (flat_map (row_notes ns) k.guards) (row_notes ns k.body) y (row_listed ns k.body y (x, b, h)))
    p)

clause_lists : (k : FunClause) (y : FunNote) → IsNoted k y → Contains (clause_notes k) y
clause_lists k (whole_in_list s at) h =
    let ns = names_of k.head in
    Contains-append_left (head_notes k.head) (flat_map (row_notes ns) k.guards ++ row_notes ns k.body) (whole_in_list s at)
    (in_all (note_in_head ns) (noted_parts_of (matched_part k.head)) (variable at s) (whole_in_list s at) (part_listed (matched_part k.head) (variable at s) h.0) (head_listed ns (variable at s) (whole_in_list s at) (refl, h.1)))
clause_lists k (bindings_called at) h = in_parts k (call at (codes "bindings") h.0) (bindings_called at) h.1 (h.0, refl)
clause_lists k (any_in_expression at) h = in_parts k (variable at h.0) (any_in_expression at) h.1 (h.0, refl, h.2)
clause_lists k (test_ends_node s at) h = in_parts k (call at s h.0) (test_ends_node s at) h.1 (h.0, refl, h.2)

pub notes_apply : (ks : List FunClause) (y : FunNote) → Contains (fun_notes ks) y ↔ ((k : FunClause) × Contains ks k × IsNoted k y)
notes_apply ks y = (λ h. let a = in_some clause_notes ks y h in (a.0, a.1, clause_noted a.0 y a.2), λ h. in_all clause_notes ks h.0 y h.1 (clause_lists h.0 y h.2))

-- Tokens of a head, a guard or a body, of which a part goes on or ends.
use Rattle.std.proofs.Common.{◌≡◌, ℕ, ◌+◌, ◌<◌, ◌≤◌, List, [], ◌∷◌, ◌++◌, Bool, true, false, not, ◌&&◌, nat_lt, if◌then◌else◌, Option, Some, None, is_some, Result, Ok, Err, refl, ap, sym, ◌∙◌, arith}
use Rattle.std.proofs.lemmas.Bool.{le-ltb, lt-ltb}
use Rattle.def_text.specs.Faults.{FaultKind, misplaced, too_large}
use Rattle.def_fun.specs.Limits.{clause_count, spec_clauses}
use Rattle.def_fun.specs.Tokens as token
use Rattle.def_fun.specs.Tokens.{FunToken, FunSpan}
use Rattle.def_fun.specs.Trees.{FunExpr, FunClause}
use Rattle.def_fun.specs.Reading.{ExprState, wants, has, ended_expr, FunState, in_head, in_guard, in_fun_body, ClauseSoFar, begins_head, if_sized, on_step, head_after, guard_after, body_after, ends_or, fun_expr_step, head_step, fun_step}
use Rattle.tn_fun.specs.declared.part.StepError.{StepError}
use Rattle.tn_fun.specs.declared.part.StepError.TheVariants as errors
use Rattle.tn_fun.specs.States.{IsStepErrorOf}
use Rattle.tn_fun.specs.FunStates.{is_expr_start, ends_head, ends_condition, ends_body_expr}

-- an error of the step of an expression
pub error_within : (e : StepError) (f : ExprState → FunState) (r : Result ExprState FaultKind) → IsStepErrorOf e r → IsStepErrorOf e (on_step f r)
error_within errors.OutOfMemory f r h = tt
error_within errors.Misplaced f r h = ap (on_step f) h
error_within errors.TooDeep f r h = ap (on_step f) h
error_within errors.TooLarge f r h = ap (on_step f) h

-- ---- a token after which it goes on

-- what the definition does after an expression that may end
abbrev pub After : Type 0
After = FunExpr → Result FunState FaultKind → Result FunState FaultKind

goes_by : (ends : Bool) (o : Option FunExpr) (f : After) (r : Result FunState FaultKind) → (ends ≡ false → (e : FunExpr) → f e r ≡ r) → (ends && is_some o) ≡ false → ends_or 64 true o f r ≡ r
goes_by ends None f r other h = refl
goes_by false (Some e) f r other h = other refl e
goes_by true (Some e) f r other h = absurd (let same : true ≡ false = h in cc)

other_head : (ks : List FunClause) (at : ℕ) (a : Option FunExpr) (e : FunExpr) (t : FunToken) (r : Result FunState FaultKind) → ends_head a t ≡ false → head_after 64 true ks at a e t r ≡ r
other_head ks at a e token.close_paren r h = absurd (let same : true ≡ false = h in cc)
other_head ks at None e token.match r h = absurd (let same : true ≡ false = h in cc)
other_head ks at (Some b) e token.match r h = refl
other_head ks at a e t r h = refl

other_condition : (c : ClauseSoFar) (es : List FunExpr) (t : FunToken) (r : Result FunState FaultKind) → ends_condition t ≡ false → guard_after 64 true c es t r ≡ r
other_condition c es token.comma r h = absurd (let same : true ≡ false = h in cc)
other_condition c es token.semicolon r h = absurd (let same : true ≡ false = h in cc)
other_condition c es token.arrow r h = absurd (let same : true ≡ false = h in cc)
other_condition c es t r h = refl

other_body_expr : (c : ClauseSoFar) (es : List FunExpr) (t : FunToken) (r : Result FunState FaultKind) → ends_body_expr t ≡ false → body_after 64 true c es t r ≡ r
other_body_expr c es token.comma r h = absurd (let same : true ≡ false = h in cc)
other_body_expr c es token.semicolon r h = absurd (let same : true ≡ false = h in cc)
other_body_expr c es token.end_word r h = absurd (let same : true ≡ false = h in cc)
other_body_expr c es t r h = refl

module _ (c : ClauseSoFar) (es : List FunExpr) (s : ExprState) (x : FunSpan) where
  -- the step within the expression
  abbrev pub within_guard : Result FunState FaultKind
  within_guard = on_step (in_guard c es) (fun_expr_step false 64 true s x)

  abbrev pub within_body : Result FunState FaultKind
  within_body = on_step (in_fun_body c es) (fun_expr_step false 64 true s x)

  pub guard_goes_on : (ends_condition x.token && is_some (ended_expr s)) ≡ false → fun_step 64 true (in_guard c es s) x ≡ within_guard
  guard_goes_on h = goes_by (ends_condition x.token) (ended_expr s) (λ e r. guard_after 64 true c (es ++ e ∷ []) x.token r) within_guard (λ other e. other_condition c (es ++ e ∷ []) x.token within_guard other) h

  pub body_goes_on : (ends_body_expr x.token && is_some (ended_expr s)) ≡ false → fun_step 64 true (in_fun_body c es s) x ≡ within_body
  body_goes_on h = goes_by (ends_body_expr x.token) (ended_expr s) (λ e r. body_after 64 true c (es ++ e ∷ []) x.token r) within_body (λ other e. other_body_expr c (es ++ e ∷ []) x.token within_body other) h

  pub guard_ends : (e : FunExpr) → Some e ≡ ended_expr s → fun_step 64 true (in_guard c es s) x ≡ guard_after 64 true c (es ++ e ∷ []) x.token within_guard
  guard_ends e is = ap (λ o. ends_or 64 true o (λ d r. guard_after 64 true c (es ++ d ∷ []) x.token r) within_guard) (sym is)

  pub body_ends : (e : FunExpr) → Some e ≡ ended_expr s → fun_step 64 true (in_fun_body c es s) x ≡ body_after 64 true c (es ++ e ∷ []) x.token within_body
  body_ends e is = ap (λ o. ends_or 64 true o (λ d r. body_after 64 true c (es ++ d ∷ []) x.token r) within_body) (sym is)

-- ---- heads

module _ (ks : List FunClause) (at : ℕ) (a : Option FunExpr) (x : FunSpan) where
  abbrev pub within_head : ExprState → Result FunState FaultKind
  within_head s = on_step (in_head ks at a) (fun_expr_step true 64 true s x)

  abbrev pub after_head_part : After
  after_head_part e r = head_after 64 true ks at a e x.token r

  abbrev if_begins : Bool → Result FunState FaultKind → Result FunState FaultKind
  if_begins b r = if b then r else Err misplaced

  begins_by : (b : Bool) → not b ≡ false → b ≡ true
  begins_by true h = refl
  begins_by false h = absurd (let same : true ≡ false = h in cc)

  never_begins : (b : Bool) → not b ≡ true → b ≡ false
  never_begins true h = absurd (let same : false ≡ true = h in cc)
  never_begins false h = refl

  pub starts_wrong : (s : ExprState) → (is_expr_start s && not (begins_head a x.token)) ≡ true → head_step 64 true ks at a s x ≡ Err misplaced
  starts_wrong (wants []) h = ap (λ b. if_begins b (within_head (wants []))) (never_begins (begins_head a x.token) h)
  starts_wrong (wants (f ∷ fs)) h = absurd (let same : false ≡ true = h in cc)
  starts_wrong (has e fs) h = absurd (let same : false ≡ true = h in cc)

  -- elsewhere
  pub head_steps : (s : ExprState) → (is_expr_start s && not (begins_head a x.token)) ≡ false → head_step 64 true ks at a s x ≡ ends_or 64 true (ended_expr s) after_head_part (within_head s)
  head_steps (wants []) h = ap (λ b. if_begins b (within_head (wants []))) (begins_by (begins_head a x.token) h)
  head_steps (wants (f ∷ fs)) h = refl
  head_steps (has e fs) h = refl

  pub head_goes_on : (s : ExprState) → (is_expr_start s && not (begins_head a x.token)) ≡ false → (ends_head a x.token && is_some (ended_expr s)) ≡ false → head_step 64 true ks at a s x ≡ within_head s
  head_goes_on s begins h = head_steps s begins ∙ goes_by (ends_head a x.token) (ended_expr s) after_head_part (within_head s) (λ other e. other_head ks at a e x.token (within_head s) other) h

  pub head_ends_with : (s : ExprState) (e : FunExpr) → (is_expr_start s && not (begins_head a x.token)) ≡ false → Some e ≡ ended_expr s → head_step 64 true ks at a s x ≡ after_head_part e (within_head s)
  head_ends_with s e begins is = head_steps s begins ∙ ap (λ o. ends_or 64 true o after_head_part (within_head s)) (sym is)

-- where it may end there is an expression
pub must_end : (b : Bool) (o : Option FunExpr) → (b && is_some o) ≡ true → None ≡ o → ⊥
must_end true None h is = let same : false ≡ true = h in cc
must_end false None h is = let same : false ≡ true = h in cc
must_end b (Some e) h is = let none : None ≡ Some e = is in cc

pub never_ends : (b : Bool) → false ≡ b → b ≡ true → ⊥
never_ends true other h = let same : false ≡ true = other in cc
never_ends false other h = let same : false ≡ true = h in cc

pub ends_by_token : (b c : Bool) → (b && c) ≡ true → b ≡ true
ends_by_token true c h = refl
ends_by_token false c h = h

-- ---- limits

sized_by : (b : Bool) (s : FunState) → b ≡ true → if_sized b s ≡ Ok s
sized_by true s h = refl
sized_by false s h = absurd (let same : false ≡ true = h in cc)

unsized_by : (b : Bool) (s : FunState) → b ≡ false → if_sized b s ≡ Err too_large
unsized_by true s h = absurd (let same : true ≡ false = h in cc)
unsized_by false s h = refl

pub fewer : (n most : ℕ) (s : FunState) → n < most → if_sized (nat_lt n most) s ≡ Ok s
fewer n most s h = sized_by (nat_lt n most) s (lt-ltb n most h)

pub too_many : (n most : ℕ) (s : FunState) → most ≤ n → if_sized (nat_lt n most) s ≡ Err too_large
too_many n most s h = unsized_by (nat_lt n most) s (le-ltb n most h)

-- one clause more
pub one_clause_more : (ks : List FunClause) (k : FunClause) → spec_clauses (ks ++ k ∷ []) ≡ spec_clauses ks + clause_count k
one_clause_more [] k = omega arith
one_clause_more (j ∷ ks) k = omega (arith, one_clause_more ks k)

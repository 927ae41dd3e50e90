-- The first list that was probably meant as a call, and lists of another length.
use Rattle.std.proofs.Common.{◌≡◌, ◌≢◌, ◌↔◌, ◌∙◌, ℕ, zero, suc, ◌+◌, ◌==◌, Bool, true, false, ◌&&◌, ◌||◌, if◌then◌else◌, List, [], ◌∷◌, Option, Some, None, refl, sym, ap, subst, zero-add, add-zero, eqb-true, arith}
use Rattle.std.specs.Prelude.{Ok, Err}
use Rattle.std.specs.Option.{option_map, option_or}
use Rattle.std.specs.Str.{bytes_eq}
use Rattle.std.proofs.lemmas.Slice.Eq.{bytes_eq-Decides}
use Rattle.def_term.specs.Tree.{Tree, atom, tuple, list, Trees, none, more, count, triple}
use Rattle.def_term.specs.Names.{Name}
use Rattle.def_term.specs.Text.{is_among}
use Rattle.def_spec.specs.Expressions.{for_calls, for_sends, for_receives, Action, message, return_trace, exception_trace, silent, enable_trace, disable_trace, trace, caller, Position, in_condition, in_body}
use Rattle.def_spec.specs.Reading.{badarg, unsupported, Callee, a_function, an_and_also, an_or_else, an_action, Row, table, unsupported_names, found_in, is_allowed, takes, called_of, named_call}
use Rattle.def_explain.specs.SpecReasons.{HasReasonAt, reason_after}
use Rattle.def_explain.proofs.SpecReasons.{is_so, none-some, map-some}
use Rattle.tn_command.specs.SpecNotes.{CallShape, ListAsCall, IsCallInList, HasNo, IsFirstCall, IsFirstInPart, IsFirstInClause, IsListAsCall, call_by_row, call_in_list, list_in_part, list_in_parts, list_in_two, list_in_clause, list_as_call, ListAsCallIsComputed, IsListOf, other_length, OtherLengthIsOfOther}

-- ---- the first of several terms for which there is something

module _ {R : Type 0} (f : Tree → Option R) (Has : Tree → R → Type 0) (same : (t : Tree) (r : R) → (f t ≡ Some r) ↔ Has t r) where
  otherwise : (t : Tree) → (f t ≡ None) ↔ HasNo Has t
  otherwise t = (λ e r h. none-some r (sym e ∙ (same t r).1 h), λ lacks. go (f t) refl lacks)
    where
      go : (o : Option R) → f t ≡ o → HasNo Has t → f t ≡ None
      go None e lacks = e
      go (Some r) e lacks = absurd (lacks r ((same t r).0 e))

  later : (m n : ℕ) → m + suc n ≡ suc m + n
  later m n = omega arith

  after-sound : (n : ℕ) (ts : Trees) (x : ℕ × R) → reason_after f n ts ≡ Some x → (k : ℕ) × (x.0 ≡ k + n) × HasReasonAt (HasNo Has) Has ts k x.1
  after-sound n none x e = absurd (none-some x e)
  after-sound n (more t ts) x e = go (after-sound (suc n) ts x) (f t) refl e
    where
      go : (reason_after f (suc n) ts ≡ Some x → (k : ℕ) × (x.0 ≡ k + suc n) × HasReasonAt (HasNo Has) Has ts k x.1) → (o : Option R) → f t ≡ o
          → option_or (option_map (λ r. (n, r)) o) (reason_after f (suc n) ts) ≡ Some x → (k : ℕ) × (x.0 ≡ k + n) × HasReasonAt (HasNo Has) Has (more t ts) k x.1
      go again None h e =
          let z : (k : ℕ) × (x.0 ≡ k + suc n) × HasReasonAt (HasNo Has) Has ts k x.1 = again e in
          (suc z.0, z.1 ∙ later z.0 n, ((otherwise t).0 h, z.2))
      go again (Some r) h e =
          let is : (n, r) ≡ x = is_so (n, r) x e in
          (zero, sym (ap (λ y. y.0) is) ∙ sym (zero-add n), (same t x.1).0 (h ∙ ap (λ y. Some y.1) is))

  after-complete : (n k : ℕ) (ts : Trees) (r : R) → HasReasonAt (HasNo Has) Has ts k r → reason_after f n ts ≡ Some (k + n, r)
  after-complete n k none r h = absurd h
  after-complete n zero (more t ts) r h = ap (λ o. option_or (option_map (λ q. (n, q)) o) (reason_after f (suc n) ts)) ((same t r).1 h) ∙ ap (λ m. Some (m, r)) (sym (zero-add n))
  after-complete n (suc k) (more t ts) r h =
      ap (λ o. option_or (option_map (λ q. (n, q)) o) (reason_after f (suc n) ts)) ((otherwise t).1 h.0) ∙ after-complete (suc n) k ts r h.1 ∙ ap (λ m. Some (m, r)) (later k n)

  first-is : (ts : Trees) (n : ℕ) (r : R) → (reason_after f 0 ts ≡ Some (n, r)) ↔ HasReasonAt (HasNo Has) Has ts n r
  first-is ts n r = (
    λ e.
        let z : (k : ℕ) × (n ≡ k + 0) × HasReasonAt (HasNo Has) Has ts k r = after-sound 0 ts (n, r) e in
        subst (λ m. HasReasonAt (HasNo Has) Has ts m r) (sym (z.1 ∙ add-zero z.0)) z.2,
    λ h. after-complete 0 n ts r h ∙ ap (λ m. Some (m, r)) (add-zero n),
  )

  none-is : (ts : Trees) → (reason_after f 0 ts ≡ None) ↔ ((n : ℕ) (r : R) → ¬ HasReasonAt (HasNo Has) Has ts n r)
  none-is ts = (λ e n r h. none-some (n, r) (sym e ∙ (first-is ts n r).1 h), λ lacks. go (reason_after f 0 ts) refl lacks)
    where
      go : (o : Option (ℕ × R)) → reason_after f 0 ts ≡ o → ((n : ℕ) (r : R) → ¬ HasReasonAt (HasNo Has) Has ts n r) → reason_after f 0 ts ≡ None
      go None e lacks = e
      go (Some x) e lacks = absurd (lacks x.0 x.1 ((first-is ts x.0 x.1).0 e))

-- ---- names

-- no row has one of these names
abbrev AreAbsent : List Name → Type 0
AreAbsent [] = Unit {0}
AreAbsent (w ∷ ws) = (found_in table w ≡ None) × AreAbsent ws

unsupported-absent : AreAbsent unsupported_names
unsupported-absent = (refl, (refl, (refl, (refl, (refl, (refl, (refl, (refl, (refl, (refl, (refl, (refl, (refl, (refl, (refl, (refl, (refl, (refl, (refl, (refl, (refl, (refl, (refl, (refl, (refl, tt)))))))))))))))))))))))))

absent : (ws : List Name) → AreAbsent ws → (s : Name) → is_among ws s ≡ true → found_in table s ≡ None
absent [] h s e = absurd (cc e)
absent (w ∷ ws) h s e = go (absent ws h.1 s) (bytes_eq s w) refl e
  where
    go : (is_among ws s ≡ true → found_in table s ≡ None) → (b : Bool) → bytes_eq s w ≡ b → (b || is_among ws s) ≡ true → found_in table s ≡ None
    go further true k e = ap (found_in table) ((bytes_eq-Decides s w).0 k) ∙ h.0
    go further false k e = further e

-- bodies of specifications for calls have each function and each action
has-action : (a : Action) → is_allowed for_calls in_body (an_action a) ≡ true
has-action message = refl
has-action return_trace = refl
has-action exception_trace = refl
has-action silent = refl
has-action enable_trace = refl
has-action disable_trace = refl
has-action trace = refl
has-action caller = refl

allowed : (f : Callee) → is_allowed for_calls in_body f ≡ true
allowed (a_function f) = refl
allowed an_and_also = refl
allowed an_or_else = refl
allowed (an_action a) = has-action a

module _ (s : Name) (n : ℕ) where
  abbrev the_call : CallShape
  the_call = record { name = s; arguments = n }

  by-row : (r : Row) → takes r n ≡ true → called_of for_calls in_body n (Some r) ≡ Ok r.called
  by-row r k = ap (λ b. if b && is_allowed for_calls in_body r.called then Ok r.called else Err badarg) k ∙ ap (λ b. if b then Ok r.called else Err badarg) (allowed r.called)

  row-named : (r : Row) → found_in table s ≡ Some r → takes r n ≡ true → named_call for_calls in_body s n ≡ Ok r.called
  row-named r h k = go (is_among unsupported_names s) refl
    where
      go : (b : Bool) → is_among unsupported_names s ≡ b → named_call for_calls in_body s n ≡ Ok r.called
      go true e = absurd (none-some r (sym (absent unsupported_names unsupported-absent s e) ∙ h))
      go false e =
          ap (λ b. if b then Err (unsupported s) else called_of for_calls in_body n (found_in table s)) e
          ∙ ap (called_of for_calls in_body n) h ∙ by-row r k

  row-is : (f : Callee) (o : Option Row) → called_of for_calls in_body n o ≡ Ok f → call_by_row s n o ≡ Some the_call
  row-is f None e = absurd (cc e)
  row-is f (Some r) e = go (takes r n) refl e
    where
      go : (b : Bool) → takes r n ≡ b → (if b && is_allowed for_calls in_body r.called then Ok r.called else Err badarg) ≡ Ok f → call_by_row s n (Some r) ≡ Some the_call
      go true k e = ap (λ b. if b then Some the_call else None) k
      go false k e = absurd (cc e)

  named-row : (f : Callee) → named_call for_calls in_body s n ≡ Ok f → call_by_row s n (found_in table s) ≡ Some the_call
  named-row f e = go (is_among unsupported_names s) e
    where
      go : (b : Bool) → (if b then Err (unsupported s) else called_of for_calls in_body n (found_in table s)) ≡ Ok f → call_by_row s n (found_in table s) ≡ Some the_call
      go true e = absurd (cc e)
      go false e = row-is f (found_in table s) e

-- ---- a list

list-sound : (s : Name) (ts : Trees) (c : CallShape) (o : Option Row) → found_in table s ≡ o → call_by_row s (count ts) o ≡ Some c → IsCallInList (list (more (atom s) ts)) c
list-sound s ts c None h e = absurd (none-some c e)
list-sound s ts c (Some r) h e = go (takes r (count ts)) refl e
  where
    go : (b : Bool) → takes r (count ts) ≡ b → (if b then Some (the_call s (count ts)) else None) ≡ Some c → IsCallInList (list (more (atom s) ts)) c
    go true k e =
        subst (IsCallInList (list (more (atom s) ts))) (is_so (the_call s (count ts)) c e) (ts, r.called, refl, refl, row-named s (count ts) r h k)
    go false k e = absurd (none-some c e)

call-sound : (t : Tree) (c : CallShape) → call_in_list t ≡ Some c → IsCallInList t c
call-sound (list (more (atom s) ts)) c e = list-sound s ts c (found_in table s) refl e
call-sound t c e = absurd (none-some c e)

call-same : (t : Tree) (c : CallShape) → (call_in_list t ≡ Some c) ↔ IsCallInList t c
call-same t c = (
  call-sound t c,
  λ h.
      ap call_in_list h.2 ∙ ap (λ m. call_by_row c.name m (found_in table c.name)) (sym h.3) ∙ named-row c.name c.arguments h.1 h.4,
)

-- ---- a clause

module _ (cs bs : Trees) where
  first-call : (ts : Trees) (n : ℕ) (c : CallShape) → (reason_after call_in_list 0 ts ≡ Some (n, c)) ↔ IsFirstCall ts n c
  first-call ts n c = first-is call_in_list IsCallInList call-same ts n c

  abbrev of_body : Option ListAsCall
  of_body = option_map (list_in_part in_body) (reason_after call_in_list 0 bs)

  abbrev IsFirst : ListAsCall → Type 0
  IsFirst l = IsFirstInPart l.part cs bs l.before l.call

  parts-sound : (l : ListAsCall) (o : Option (ℕ × CallShape)) → reason_after call_in_list 0 cs ≡ o → option_or (option_map (list_in_part in_condition) o) of_body ≡ Some l → IsFirst l
  parts-sound l (Some x) h e = subst IsFirst (is_so (list_in_part in_condition x) l e) ((first-call cs x.0 x.1).0 h)
  parts-sound l None h e =
      let x : (y : ℕ × CallShape) × (reason_after call_in_list 0 bs ≡ Some y) × (list_in_part in_body y ≡ l) = map-some (list_in_part in_body) (reason_after call_in_list 0 bs) l e in
      subst IsFirst x.2 ((none-is call_in_list IsCallInList call-same cs).0 h, (first-call bs x.0.0 x.0.1).0 x.1)

  parts-complete : (part : Position) (n : ℕ) (c : CallShape) → IsFirstInPart part cs bs n c → list_in_parts cs bs ≡ Some (list_in_part part (n, c))
  parts-complete in_condition n c h = ap (λ o. option_or (option_map (list_in_part in_condition) o) of_body) ((first-call cs n c).1 h)
  parts-complete in_body n c h =
      ap (λ o. option_or (option_map (list_in_part in_condition) o) of_body) ((none-is call_in_list IsCallInList call-same cs).1 h.0)
      ∙ ap (option_map (list_in_part in_body)) ((first-call bs n c).1 h.1)

two-sound : (h c b : Tree) (l : ListAsCall) → list_in_two c b ≡ Some l → IsFirstInClause (triple h c b) l
two-sound h (list cs) (list bs) l e = (h, cs, bs, refl, parts-sound cs bs l (reason_after call_in_list 0 cs) refl e)
two-sound h c b l e = absurd (none-some l e)

clause-sound : (t : Tree) (l : ListAsCall) → list_in_clause t ≡ Some l → IsFirstInClause t l
clause-sound (tuple (more h (more c (more b none)))) l e = two-sound h c b l e
clause-sound t l e = absurd (none-some l e)

clause-same : (t : Tree) (l : ListAsCall) → (list_in_clause t ≡ Some l) ↔ IsFirstInClause t l
clause-same t l = (clause-sound t l, λ h. ap list_in_clause h.3 ∙ parts-complete h.1 h.2 l.part l.before l.call h.4)

-- ---- a specification

spec-sound : (t : Tree) (n : ℕ) (l : ListAsCall) → list_as_call t ≡ Some (n, l) → IsListAsCall t n l
spec-sound (list ts) n l e = (ts, refl, (first-is list_in_clause IsFirstInClause clause-same ts n l).0 e)
spec-sound t n l e = absurd (none-some (n, l) e)

pub list-as-call-is-computed : ListAsCallIsComputed
list-as-call-is-computed t n l = (spec-sound t n l, λ h. ap list_as_call h.1 ∙ (first-is list_in_clause IsFirstInClause clause-same h.0 n l).1 h.2)

-- ---- a list of another length

differs : (m n : ℕ) → n ≢ m → other_length (Some m) n ≡ None → ⊥
differs m n other e = go (n == m) refl e
  where
    go : (b : Bool) → (n == m) ≡ b → (if b then None else Some m) ≡ None → ⊥
    go true k e = other (eqb-true n m k)
    go false k e = cc e

send-sound : (ts : Trees) → other_length (Some 2) (count ts) ≡ None → IsListOf for_sends ts
send-sound none e = absurd (differs 2 0 (λ k. omega (arith, k)) e)
send-sound (more t none) e = absurd (differs 2 1 (λ k. omega (arith, k)) e)
send-sound (more t (more u none)) e = (t, u, refl)
send-sound (more t (more u (more v ts))) e = absurd (differs 2 (count ts + 1 + 1 + 1) (λ k. omega (arith, k)) e)

receive-sound : (ts : Trees) → other_length (Some 3) (count ts) ≡ None → IsListOf for_receives ts
receive-sound none e = absurd (differs 3 0 (λ k. omega (arith, k)) e)
receive-sound (more t none) e = absurd (differs 3 1 (λ k. omega (arith, k)) e)
receive-sound (more t (more u none)) e = absurd (differs 3 2 (λ k. omega (arith, k)) e)
receive-sound (more t (more u (more v none))) e = (t, u, v, refl)
receive-sound (more t (more u (more v (more x ts)))) e = absurd (differs 3 (count ts + 1 + 1 + 1 + 1) (λ k. omega (arith, k)) e)

pub other-length-is-of-other : OtherLengthIsOfOther
other-length-is-of-other for_calls ts = (λ e. tt, λ h. refl)
other-length-is-of-other for_sends ts = (send-sound ts, λ h. ap (λ us. other_length (Some 2) (count us)) h.2)
other-length-is-of-other for_receives ts = (receive-sound ts, λ h. ap (λ us. other_length (Some 3) (count us)) h.3)

-- A message is reported by a live session, of a process with the flag that is needed, and is its event's.
use Rattle.std.proofs.Common.{◌≡◌, ◌≢◌, ℕ, List, [], ◌∷◌, ◌++◌, Bool, true, false, if◌then◌else◌, refl, sym, ap, ◌∙◌, Option, Some, None, unwrap_or, inl, inr}
use Rattle.def_term.specs.Tree.{Tree, tuple, of_elements}
use Rattle.def_term.specs.Order.{same}
use Rattle.def_term.specs.Names.{word}
use Rattle.def_term.proofs.Same.{same-is, same-self}
use Rattle.def_node.specs.Event.{Event, sent, received, called, returned, raised, spawning, spawned, exited, linked, unlinked, getting_linked, getting_unlinked}
use Rattle.def_spec.specs.Flags.{Flag, arity_flag}
use Rattle.def_spec.specs.Expressions.{Effect}
use Rattle.def_session.specs.State.{Phase, absent, live, destroyed, Session, flags_at}
use Rattle.def_session.specs.Messages.{elements_of, process_of, last_message, message_by, followed_by}
use Rattle.def_session.specs.Session.{inherit, where_set, effects_of, is_silenced, message_after, is_marked, is_marked_for_exceptions, all_affected, reported_for, reported_in}
use Rattle.def_session.specs.Laws.{needed_for, IsMessageOf, plainly, with_one_more, IsReportedOf, MessageIsOfItsEvent, ShortCallHasItsArity, PlainCallHasItsArguments}

value_in : (t u : Tree) → Some t ≡ Some u → t ≡ u
value_in t u e = ap (λ o. unwrap_or o t) e

other_than : (t u : Tree) → same t u ≡ false → t ≢ u
other_than t u h e = go (sym (same-self t) ∙ ap (same t) e ∙ h)
  where
    go : true ≡ false → ⊥
    go x = cc

at_the_end : (ts : List Tree) (t : Tree) → followed_by ts t ≡ ts ++ t ∷ []
at_the_end [] t = refl
at_the_end (u ∷ us) t = ap (u ∷◌) (at_the_end us t)

module _ (e : Event) (short : Bool) (m : Tree) where
  decided_is : (o : Option Tree) → message_by o (elements_of short e) ≡ Some m → IsMessageOf e short o m
  decided_is None h = plainly (inl refl) (sym (value_in _ _ h))
  decided_is (Some t) h = first (same t (word "true")) refl h
    where
      last : t ≢ word "true" → (b : Bool) → same t (word "false") ≡ b → (if b then None else Some (tuple (of_elements (followed_by (elements_of short e) t)))) ≡ Some m → IsMessageOf e short (Some t) m
      last other true isn't g = cc
      last other false isn't g = with_one_more t refl other (other_than t (word "false") isn't) (sym (value_in _ _ g) ∙ ap (λ ts. tuple (of_elements ts)) (at_the_end (elements_of short e) t))

      first : (b : Bool) → same t (word "true") ≡ b → (if b then Some (tuple (of_elements (elements_of short e))) else if same t (word "false") then None else Some (tuple (of_elements (followed_by (elements_of short e) t)))) ≡ Some m → IsMessageOf e short (Some t) m
      first true is g = plainly (inr (ap Some (same-is t (word "true") is))) (sym (value_in _ _ g))
      first false is g = last (other_than t (word "true") is) (same t (word "false")) refl g

set_where : (s : Session) (p : ℕ) (f : Flag) (r : Option (List Effect)) (es : List Effect) → where_set s p f r ≡ Some es → flags_at s p f ≡ true
set_where s p f r es h = go (flags_at s p f) h
  where
    go : (b : Bool) → (if b then r else None) ≡ Some es → b ≡ true
    go true g = refl
    go false g = cc

set_at_return : (b : Bool) (s : Session) (p : ℕ) (f : Flag) (r : Option (List Effect)) (es : List Effect) → (if b then where_set s p f r else None) ≡ Some es → flags_at s p f ≡ true
set_at_return true s p f r es h = set_where s p f r es h
set_at_return false s p f r es h = cc

evaluated_set : (s : Session) (e : Event) (es : List Effect) → effects_of s e ≡ Some es → flags_at s (process_of e) (needed_for e) ≡ true
evaluated_set s (sent p t to alive) es h = set_where s p (needed_for (sent p t to alive)) _ es h
evaluated_set s (received p sender t) es h = set_where s p (needed_for (received p sender t)) _ es h
evaluated_set s (called p c) es h = set_where s p (needed_for (called p c)) _ es h
evaluated_set s (returned p f t depth) es h = set_at_return (is_marked s p depth) s p (needed_for (returned p f t depth)) _ es h
evaluated_set s (raised p f c t depth) es h = set_at_return (is_marked_for_exceptions s p depth) s p (needed_for (raised p f c t depth)) _ es h
evaluated_set s (spawning p child f args) es h = set_where s p (needed_for (spawning p child f args)) _ es h
evaluated_set s (spawned p parent f args) es h = set_where s p (needed_for (spawned p parent f args)) _ es h
evaluated_set s (exited p r) es h = set_where s p (needed_for (exited p r)) _ es h
evaluated_set s (linked p q) es h = set_where s p (needed_for (linked p q)) _ es h
evaluated_set s (unlinked p q) es h = set_where s p (needed_for (unlinked p q)) _ es h
evaluated_set s (getting_linked p q) es h = set_where s p (needed_for (getting_linked p q)) _ es h
evaluated_set s (getting_unlinked p q) es h = set_where s p (needed_for (getting_unlinked p q)) _ es h

abbrev MessageOf : Session → Event → List Effect → Tree → Type 0
MessageOf s e es m = IsMessageOf e (flags_at s (process_of e) arity_flag) (last_message es) m

decided_of : (s : Session) (e : Event) (es : List Effect) (m : Tree) → message_after s e es ≡ Some m → MessageOf s e es m
decided_of s e es m h = go (is_silenced s e) h
  where
    go : (b : Bool) → (if b then None else message_by (last_message es) (elements_of (flags_at s (process_of e) arity_flag) e)) ≡ Some m → MessageOf s e es m
    go true g = cc
    go false g = decided_is e (flags_at s (process_of e) arity_flag) m (last_message es) g

abbrev Evaluated : Session → Event → Tree → Type 0
Evaluated s e m = (es : List Effect) × (effects_of s e ≡ Some es) × MessageOf (all_affected (process_of e) s es) e es m

told_of : (s : Session) (e : Event) (m : Tree) (r : Option (List Effect)) → effects_of s e ≡ r → (reported_for s e r).1 ≡ Some m → Evaluated s e m
told_of s e m None h g = cc
told_of s e m (Some es) h g = (es, h, decided_of (all_affected (process_of e) s es) e es m g)

reported_at : (p : Phase) (s : Session) (e : Event) (m : Tree) → s.phase ≡ p → (reported_in p s e).1 ≡ Some m → IsReportedOf s e m
reported_at absent s e m is h = cc
reported_at destroyed s e m is h = cc
reported_at live s e m is h =
    let r : Evaluated (inherit s e) e m = told_of (inherit s e) e m (effects_of (inherit s e) e) refl h in
    record { lives = is; flagged = evaluated_set (inherit s e) e r.0 r.1; effects = r.0; have = r.1; message = r.2 }

pub message_of_event : MessageIsOfItsEvent
message_of_event s e m h = reported_at s.phase s e m refl h

pub short_call : ShortCallHasItsArity
short_call p c = refl

pub plain_call : PlainCallHasItsArguments
plain_call p c = refl

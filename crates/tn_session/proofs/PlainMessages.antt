-- The message of an event with all arguments of a call, and no last value.
use Rattle.std.proofs.Common.{◌≡◌, ◌∙◌, Bool, true, false, List, [], ◌++◌, Option, Some, None, is_some, append-nil, sym, ap, subst, refl, true≢false}
use Rattle.def_term.specs.Tree.{Tree, tuple, of_elements}
use Rattle.def_term.proofs.Same.{same-is}
use Rattle.def_term.specs.Order.{same}
use Rattle.def_session.specs.Messages.{elements_of}
use Rattle.tn_text.specs.WrittenTrees.{written_tree}
use Rattle.tn_text.specs.declared.written_term.WrittenTerm.{WrittenTerm}
use Rattle.tn_flags.specs.Views.{event_of}
use Rattle.tn_flags.specs.declared.event.Event as events
use Rattle.tn_guard.specs.declared.value.Value.{Value}
use Rattle.tn_session.specs.declared.message.Message.{Message}
use Rattle.tn_session.specs.Messages.{last_seen, message_of, plain_message, plain_for, IsPlain}

no_last : {A : Type 0} (v : Option (Value A)) → is_some v ≡ false → last_seen v ≡ []
no_last None h = refl
no_last (Some x) h = absurd (true≢false h)

-- it is that of a message without a last value, where the elements are the same
pub plain_is : {A B : Type 0} (e : events.Event A) (m : Message B) (r : Bool) → r ≡ is_some m.last → r ≡ false → elements_of m.short (event_of e) ≡ elements_of false (event_of e)
    → plain_message e ≡ message_of e m
plain_is e m r is h whole =
    ap (λ ts. tuple (of_elements ts))
    (sym (append-nil (elements_of false (event_of e)))
    ∙ ap (λ l. elements_of false (event_of e) ++ l) (sym (no_last m.last (sym is ∙ h)))
    ∙ ap (λ ts. ts ++ last_seen m.last) (sym whole))

-- the message that is made is it
pub made_is : {A B : Type 0} (e : events.Event A) (o : Option (WrittenTerm B)) (p : WrittenTerm B) → o ≡ Some p → IsPlain e o → written_tree p ≡ plain_message e
made_is e o p is made = same-is (written_tree p) (plain_message e) (subst (λ x. same (plain_for e x) (plain_message e) ≡ true) is made)

-- Equality and hashes of messages.
-- Depends on what states keep of messages.
use Rattle.std.specs.Prelude.{◌≡◌, IsTrue, [], ◌∷◌}
use Rattle.std.specs.Cmp.{IsEquivalence, on_equiv}
use Rattle.std.proofs.lemmas.Cmp.{eq_by_cmp_equiv}
use Rattle.std.proofs.Common.{ap}
use Rattle.def_term.proofs.Order.{tree_total}
use Rattle.def_term.proofs.Same.{same-is}
use Rattle.def_term.specs.Text.{w}
use Rattle.tn_messages.specs.MessageViews.{message_tree, same_message, message_writes}
use Rattle.tn_messages.specs.declared.shared_message.SharedMessage.{SharedMessage}

-- being the same message is an equivalence
pub same_message_equiv : {A : Type 0} → IsEquivalence (same_message {A = A})
same_message_equiv {A} = on_equiv (message_tree {A = A}) (eq_by_cmp_equiv tree_total)

-- messages that are the same are hashed alike
pub same_messages_write_the_same : {A : Type 0} (m n : SharedMessage A) → IsTrue (same_message m n) → message_writes m ≡ message_writes n
same_messages_write_the_same m n h = ap (λ t. w t ∷ []) (same-is (message_tree m) (message_tree n) h)

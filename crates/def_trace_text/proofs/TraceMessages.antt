-- The trace messages are those tuples.
use Rattle.std.proofs.Common.{◌≡◌, ◌↔◌, true, refl, ap, sym, subst}
use Rattle.def_term.specs.Tree.{Tree, pid, tuple, more}
use Rattle.def_term.specs.Names.{word}
use Rattle.def_term.proofs.Same.{same-is}
use Rattle.def_trace_text.specs.Messages.{IsTraceMessage, is_trace_message}

to_computed : (t : Tree) → IsTraceMessage t → is_trace_message t ≡ true
to_computed t (p, third, others, is) = subst (λ x. is_trace_message x ≡ true) (sym is) refl

from_computed : (t : Tree) → is_trace_message t ≡ true → IsTraceMessage t
from_computed (tuple (more u (more (pid p) (more t ts)))) h = (p, t, ts, ap (λ x. tuple (more x (more (pid p) (more t ts)))) (same-is u (word "trace") h))
from_computed t h = absurd (cc)

pub messages_are : (t : Tree) → IsTraceMessage t ↔ (is_trace_message t ≡ true)
messages_are t = (to_computed t, from_computed t)

-- What follows from what holds of two answers that are Ok.
use Rattle.std.proofs.Common.{◌≡◌, ◌++◌, ℕ, List, Option, Some, None, IsSomeAnd, Result, Ok, Err, OnOk, sym, ◌∙◌, ap, subst}
use Rattle.def_term.specs.Names as names
use Rattle.def_node.specs.Event.{Event}
use Rattle.def_outlook.specs.Outlook.{Outlook}
use Rattle.def_explain.specs.Accounts.{event_lines}
use Rattle.tn_session.specs.Sessions.{SessionValue}
use Rattle.tn_explain.specs.Lines.{lines_text}
use Rattle.tn_explain.specs.SessionLines.{Makes}

pub when : {X E P Q : Type 0} (r : Result X E) → (P → Q) → OnOk r P → OnOk r Q
when (Ok x) f p = f p
when (Err e) f p = tt

pub when_both : {X Y E F P Q R : Type 0} (r : Result X E) (q : Result Y F) → (P → Q → R) → OnOk r P → OnOk q Q → OnOk r (OnOk q R)
when_both (Ok x) (Ok y) f p q = f p q
when_both (Ok x) (Err e) f p q = tt
when_both (Err e) r f p q = tt

-- two sessions in one state make one text of an event
pub same_lines : (l : Outlook) (v w : Option SessionValue) (e : Event) (n : names.Name) (one other : Option SessionValue) (before again after later : List ℕ) → v ≡ w → before ≡ again
    → IsSomeAnd v (λ s. Makes l s e n one before after) → IsSomeAnd w (λ s. Makes l s e n other again later) → after ≡ later
same_lines l None w e n one other before again after later at same p q = absurd p
same_lines l (Some s) w e n one other before again after later at same p q =
    let k : Makes l s e n other again later = subst (λ u. IsSomeAnd u (λ s. Makes l s e n other again later)) (sym at) q in
    p.text ∙ ap (λ b. b ++ lines_text n (event_lines s.state l e)) same ∙ sym k.text

-- and are in one state afterwards
pub same_after : (l : Outlook) (v w : Option SessionValue) (e : Event) (n : names.Name) (one other : Option SessionValue) (before again after later : List ℕ) → v ≡ w
    → IsSomeAnd v (λ s. Makes l s e n one before after) → IsSomeAnd w (λ s. Makes l s e n other again later) → one ≡ other
same_after l None w e n one other before again after later at p q = absurd p
same_after l (Some s) w e n one other before again after later at p q =
    let k : Makes l s e n other again later = subst (λ u. IsSomeAnd u (λ s. Makes l s e n other again later)) (sym at) q in
    p.state ∙ sym k.state

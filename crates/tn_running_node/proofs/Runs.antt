-- The processes of a node after an event.
use Rattle.std.proofs.Common.{◌≡◌, ◌∙◌, Bool, true, false, not, ◌&&◌, if◌then◌else◌, ℕ, refl, sym, ap}
use Rattle.std.specs.Option.{is_some}
use Rattle.def_term.specs.Alive.{is_alive}
use Rattle.def_node.specs.Event.{Event, sent, received, called, returned, raised, spawning, spawned, exited, linked, unlinked, getting_linked, getting_unlinked}
use Rattle.def_outlook.specs.Outlook.{Outlook}
use Rattle.def_running_node.specs.NodeRuns.{NodeRun, run_with, run_after, signals_with}
use Rattle.tn_running_node.specs.RunChanges.{after_change, determined_after}

-- where it is determined as this says
abbrev pub and_determined : NodeRun → Bool → NodeRun
and_determined r b = record r { is_determined = b }

by-link : (r : NodeRun) (l : Outlook) (p q : ℕ) (b : Bool) → is_alive r.alive q ≡ b → run_after r l (linked p q) ≡ and_determined (after_change r l (linked p q)) (determined_after r l (linked p q))
by-link r l p q true e =
    ap (λ b. if b then run_with r r.signals true else run_with r (signals_with (record { process = p; of_error = true; is_reported = true }) r.signals) (not (is_some l.caught_at))) e
    ∙ sym (ap (λ b. and_determined (if b then r else (record r { signals = signals_with (record { process = p; of_error = true; is_reported = true }) r.signals })) (r.is_determined && not (not b && is_some l.caught_at))) e)
by-link r l p q false e =
    ap (λ b. if b then run_with r r.signals true else run_with r (signals_with (record { process = p; of_error = true; is_reported = true }) r.signals) (not (is_some l.caught_at))) e
    ∙ sym (ap (λ b. and_determined (if b then r else (record r { signals = signals_with (record { process = p; of_error = true; is_reported = true }) r.signals })) (r.is_determined && not (not b && is_some l.caught_at))) e)

pub run_after_is : (r : NodeRun) (l : Outlook) (e : Event) → run_after r l e ≡ and_determined (after_change r l e) (determined_after r l e)
run_after_is r l (sent p t to alive) = refl
run_after_is r l (received p sender t) = refl
run_after_is r l (called p c) = refl
run_after_is r l (returned p f t depth) = refl
run_after_is r l (raised p f c t depth) = refl
run_after_is r l (spawning p child f args) = refl
run_after_is r l (spawned p parent f args) = refl
run_after_is r l (exited p reason) = refl
run_after_is r l (linked p q) = by-link r l p q (is_alive r.alive q) refl
run_after_is r l (unlinked p q) = refl
run_after_is r l (getting_linked p q) = refl
run_after_is r l (getting_unlinked p q) = refl

pub determined_is : (r : NodeRun) (l : Outlook) (e : Event) → determined_after r l e ≡ (run_after r l e).is_determined
determined_is r l e = sym (ap (λ (q : NodeRun). q.is_determined) (run_after_is r l e))

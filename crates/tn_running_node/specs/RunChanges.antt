-- What an event does to the processes of a node, and whether its step goes on there.
use Rattle.std.specs.Prelude.{ℕ, Bool, true, false, not, ◌&&◌, if◌then◌else◌}
use Rattle.std.specs.Option.{is_some}
use Rattle.def_term.specs.Alive.{is_alive, with_alive}
use Rattle.def_term.specs.Tree.{Tree}
use Rattle.def_node.specs.Event.{Event, spawned, exited, linked, getting_unlinked}
use Rattle.def_outlook.specs.Outlook.{Outlook}
use Rattle.def_running_node.specs.NodeRuns.{NodeRun, signals_with, without_signal, goes_on, ends_by_error, ended_by, signals_after_end}

abbrev pub after_end : NodeRun → Outlook → ℕ → Tree → NodeRun
after_end r l p reason = record r { alive = with_alive r.alive p false; signals = without_signal p r.signals; ended = ended_by p reason (ends_by_error r l p) }

abbrev pub after_part : NodeRun → ℕ → ℕ → NodeRun
after_part r p q = record r { signals = signals_after_end r.ended p q r.signals }

abbrev pub run_after_link : NodeRun → ℕ → ℕ → NodeRun
run_after_link r p q = if is_alive r.alive q then r else (record r { signals = signals_with (record { process = p; of_error = true; is_reported = true }) r.signals })

abbrev pub after_change : NodeRun → Outlook → Event → NodeRun
after_change r l (exited p reason) = after_end r l p reason
after_change r l (getting_unlinked p q) = after_part r p q
after_change r l (linked p q) = run_after_link r p q
after_change r l (spawned p parent f args) = record r { alive = with_alive r.alive p true }
after_change r l e = r

-- the step goes on at this event of it
abbrev pub goes_on_at : NodeRun → Outlook → Event → Bool
goes_on_at r l (exited p reason) = goes_on l
goes_on_at r l (linked p q) = not (is_alive r.alive q) && is_some l.caught_at
goes_on_at r l e = false

abbrev pub determined_after : NodeRun → Outlook → Event → Bool
determined_after r l e = r.is_determined && not (goes_on_at r l e)

use Rattle.std.proofs.Common.{◌≡◌, List, length}
use Rattle.def_script.specs.Exports.{Exports}
use Rattle.def_run.specs.Run.{command_item}
use Rattle.def_run.specs.History.{NamedSession}
use Rattle.tn_term.specs.Views.{alive_of}
use Rattle.tn_flags.specs.Views.{command_of}
use Rattle.tn_script.specs.Views.{functions_of}
use Rattle.tn_text.specs.Writes.{Grows}
use Rattle.tn_trace.specs.Slots.{EachPair}
use Rattle.def_script.specs.Exports.{visible}
use Rattle.tn_trace.specs.NamedSessions.{HasState}
use Rattle.tn_explain.proofs.SideBySide.{IsHalfway}
use Rattle.tn_explain.proofs.slots.obey_each.Given as goal

abbrev pub invariant-loop-place : goal.invariant-loop-place
invariant-loop-place g l = record {
  size : length l.slots.items ≡ length l.fn.slots.items;
  grows : Grows l.fn.out.items l.out.items;
  made : (o : Exports) → o.functions ≡ visible (functions_of l.order.functions.now) → (ss : List NamedSession) → EachPair (HasState o (alive_of l.order.living)) ss l.fn.slots.items →
      IsHalfway l.step o (alive_of l.order.living) (alive_of l.order.living) (command_item (command_of l.order.command.now)) ss l.place l.slots.items l.fn.out.items l.out.items;
}

use Rattle.std.proofs.Common.{◌≡◌, List, None, length, drop}
use Rattle.std.specs.Option.{option_map}
use Rattle.def_script.specs.Exports.{Exports}
use Rattle.tn_term.specs.Views.{tree_of, alive_of}
use Rattle.tn_flags.specs.Views.{command_of}
use Rattle.tn_script.specs.Views.{functions_of}
use Rattle.def_script.specs.Exports.{visible}
use Rattle.tn_trace.specs.Tracks.{Track, with_command, reply_from}
use Rattle.tn_trace.specs.Slots.{IsTracked, EachPair, EachUpTo}
use Rattle.tn_trace.proofs.sessions.obey_each.Given as goal

abbrev pub invariant-loop-place : goal.invariant-loop-place
invariant-loop-place g l = (length l.slots.items ≡ length l.initial.slots.items) × ((o : Exports) (ts : List Track) → o.functions ≡ visible (functions_of l.functions) → EachPair (IsTracked g.K.MessageSink.keeps o (alive_of l.living)) ts l.initial.slots.items →
    EachUpTo (λ t s. IsTracked g.K.MessageSink.keeps o (alive_of l.living) (with_command o (command_of l.command) t) s) (IsTracked g.K.MessageSink.keeps o (alive_of l.living)) l.place ts l.slots.items
    × (reply_from o (command_of l.command) (option_map tree_of l.reply) (drop l.place ts) ≡ reply_from o (command_of l.command) None ts))

use Rattle.std.proofs.Common.{◌≡◌, ◌≤◌, ◌++◌, drop}
use Rattle.def_explain.specs.CommandPlaces.{before_form}
use Rattle.tn_replay.specs.CommandStarts.{place_seen, starts_shown, depth_of}
use Rattle.tn_replay.proofs.command_starts.starts_among.Given as goal

abbrev pub invariant-loop-token : goal.invariant-loop-token
invariant-loop-token g l = record {
  deep : depth_of l.place ≤ l.token-index;
  starts : l.starts.items ++ starts_shown l.text (place_seen l.place) (drop l.token-index l.tokens) ≡ starts_shown l.text before_form l.tokens;
}

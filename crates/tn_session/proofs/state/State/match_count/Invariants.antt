use Rattle.std.proofs.Common.{◌≡◌, ◌≤◌, length, take, map}
use Rattle.std.specs.List.{filter}
use Rattle.def_session.specs.Settings.{has_among}
use Rattle.tn_session.specs.Views.{function_setting_seen, function_seen}
use Rattle.tn_session.proofs.state.State.match_count.Given as goal

abbrev pub invariant-loop-function : goal.invariant-loop-function
invariant-loop-function g l = record {
  within : l.count ≤ l.function-index;
  counted : l.count ≡ length (filter (λ f. has_among (function_setting_seen l.setting) f.0 f.1) (map function_seen (take l.function-index l.functions)));
}

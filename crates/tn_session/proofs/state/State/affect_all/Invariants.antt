use Rattle.std.proofs.Common.{◌≡◌, map, drop}
use Rattle.def_session.specs.Session.{all_affected}
use Rattle.tn_machine.specs.Types.{effect_seen}
use Rattle.tn_session.specs.Views.{state_seen}
use Rattle.tn_session.proofs.state.State.affect_all.Given as goal

abbrev pub invariant-loop-effect : goal.invariant-loop-effect
invariant-loop-effect g l = record {
  state : all_affected l.self_pid (state_seen l.self) (map effect_seen (drop l.effect-index l.effects)) ≡ all_affected l.self_pid (state_seen l.initial.self) (map effect_seen l.effects);
  functions : l.self.functions ≡ l.initial.self.functions;
}

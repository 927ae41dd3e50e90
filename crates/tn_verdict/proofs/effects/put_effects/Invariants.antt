use Rattle.std.proofs.Common.{◌≡◌, ◌++◌, drop, flat_map, map}
use Rattle.def_explain.specs.Texts.{effects_text}
use Rattle.tn_action.specs.Views.{effect_seen}
use Rattle.tn_text.specs.Writes.{Grows}
use Rattle.tn_verdict.specs.Effects.{next_effect_text}
use Rattle.tn_verdict.proofs.effects.put_effects.Given as goal

abbrev pub invariant-loop-i : goal.invariant-loop-i
invariant-loop-i g l = record {
  written : l.out.items ++ flat_map next_effect_text (map effect_seen (drop l.i l.effects)) ≡ l.fn.out.items ++ effects_text (map effect_seen l.effects);
  grows : Grows l.fn.out.items l.out.items;
}

use Rattle.std.proofs.Common.{◌<◌, length, arith, rules}
use Rattle.std.proofs.lemmas.Bool.Decides.{nat_tests}
use Rattle.tn_verdict.proofs.EffectTexts.{first_effect, next_effect}
use Rattle.tn_verdict.proofs.Pieces.{grown_by, not_grown}
use Rattle.tn_verdict.proofs.effects.put_effects.Goals as goal
use Rattle.tn_text.proofs.Growth.{grows_on}

pub returns-in_err-extend_from_slice-clause-grows : goal.returns-in_err-extend_from_slice-clause-grows
returns-in_err-extend_from_slice-clause-grows g c = not_grown _ _ c.in_err-extend_from_slice.ensures.items

pub returns-in_err-put_effect-clause-grows : goal.returns-in_err-put_effect-clause-grows
returns-in_err-put_effect-clause-grows g c = grows_on (grown_by _ _ _ c.in_ok-extend_from_slice.ensures.items) c.put_effect.ensures.grows

pub loop-i-init : goal.loop-i-init
loop-i-init g c =
    let some : 0 < length c.args.effects.now = first_of (omega arith, search rules, grind (arith, nat_tests, c.if-is_empty.false, c.is_empty.ensures)) in
    record {
      written = first_effect c.args.effects.now c.index-effects-0.result c.args.out.now.items c.extend_from_slice.new.self.items c.put_effect.new.out.items some c.index-effects-0.is c.in_ok-extend_from_slice.ensures.items c.in_ok-put_effect.ensures.ok;
      grows = grows_on (grown_by _ _ _ c.in_ok-extend_from_slice.ensures.items) c.put_effect.ensures.grows;
    }

pub returns-in_err-put_next_effect-clause-grows : goal.returns-in_err-put_next_effect-clause-grows
returns-in_err-put_next_effect-clause-grows g c = grows_on c.loop-i.invariant.grows c.put_next_effect.ensures.grows

pub loop-i-preserved : goal.loop-i-preserved
loop-i-preserved g c = record {
  written = next_effect c.args.effects.now c.loop-i.i c.index-effects-i.result c.loop-i.out.items c.put_next_effect.new.out.items _ (omega arith) c.index-effects-i.is c.loop-i.invariant.written c.in_ok-put_next_effect.ensures.ok;
  grows = grows_on c.loop-i.invariant.grows c.put_next_effect.ensures.grows;
}

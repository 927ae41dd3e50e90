use Rattle.std.proofs.Common.{◌≡◌, ◌∙◌, ◌≤◌, length, reverse, sym, arith}
use Rattle.std.proofs.lemmas.List.{length-reverse}
use Rattle.tn_session.specs.Looks.{look_seen}
use Rattle.tn_independence.proofs.OwnSettings.{one_acts, they_fail, they_act}
use Rattle.tn_independence.proofs.own_effects.functions_act_on_self.Goals as goal

pub loop-place-preserved : goal.loop-place-preserved
loop-place-preserved g c =
    let fs = (look_seen c.args.look.now).functions in
    one_acts (reverse fs) c.loop-place.place (sym c.function_acts_on_self.ensures ∙ c.if-not-function_acts_on_self.false) c.loop-place.invariant

pub returns-then-not-function_acts_on_self : goal.returns-then-not-function_acts_on_self
returns-then-not-function_acts_on_self g c =
    they_fail (look_seen c.args.look.now).functions c.loop-place.place (sym c.function_acts_on_self.ensures ∙ c.if-not-function_acts_on_self.true)

pub returns : goal.returns
returns g c =
    let fs = (look_seen c.args.look.now).functions in
    let long : length (reverse fs) ≡ length fs = length-reverse fs in
    let past : length (reverse fs) ≤ c.loop-place.place = omega (arith, long, c.loop-place-test.false, c.setting_count-place-end.ensures) in
    they_act fs c.loop-place.place past c.loop-place.invariant

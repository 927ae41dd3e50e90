use Rattle.std.proofs.Common.{◌≡◌, ◌∙◌, ◌+◌, ◌<◌, Bool, length, take, map, true, false, sym, ap, arith}
use Rattle.std.specs.Arc.{arc_value}
use Rattle.std.specs.List.{filter}
use Rattle.std.specs.declared.vec.Vec.{Vec}
use Rattle.std.proofs.Math.Seq.{take-length}
use Rattle.def_term.specs.Names.{Mfa}
use Rattle.def_session.specs.Settings.{has_among}
use Rattle.tn_session.specs.Views.{function_setting_seen, function_seen}
use Rattle.tn_session.proofs.Commands.{one_more}
use Rattle.tn_session.proofs.state.State.match_count.Goals as goal
use Rattle.tn_session.proofs.state.State.match_count.Goals.{then-has_among, else-has_among}

pub loop-function-preserved : goal.loop-function-preserved
loop-function-preserved g c =
    let l = c.loop-function in
    let xs = c.as_slice-functions.result.now in
    let k = function_setting_seen c.args.setting.now in
    let p = λ (f : Mfa × Bool). has_among k f.0 f.1 in
    let x = c.function-item.result in
    let below : l.function-index < length xs = omega (arith, c.loop-function-test.true) in
    elim c.if-has_among.branch [
      | then-has_among w ↦ record {
        within = omega (arith, w.count-is, l.invariant.within);
        counted = w.count-is ∙ ap (λ n. n + 1) l.invariant.counted ∙ sym (one_more p function_seen xs l.function-index x true below c.function-item.is (sym w.if-has_among.true ∙ c.has_among.ensures));
      }
      | else-has_among w ↦ record {
        within = omega (arith, w.count-is, l.invariant.within);
        counted = w.count-is ∙ l.invariant.counted ∙ sym (one_more p function_seen xs l.function-index x false below c.function-item.is (sym w.if-has_among.false ∙ c.has_among.ensures));
      }
    ]

pub returns : goal.returns
returns g c =
    let l = c.loop-function in
    let xs = c.as_slice-functions.result.now in
    let v = arc_value c.args.self.now.functions in
    let k = function_setting_seen c.args.setting.now in
    let p = λ (f : Mfa × Bool). has_among k f.0 f.1 in
    let same : xs ≡ v.items = c.as_slice-functions.ensures.value ∙ ap (λ (w : Vec _ _). w.items) c.deref.ensures in
    let long : length xs ≡ length v.items = ap length same in
    let whole : l.function-index ≡ length xs = omega (arith, c.loop-function-test.false, l.auto.function-index-end) in
    record {
      value = λ n. l.invariant.counted ∙ ap (λ ys. length (filter p (map function_seen ys))) (ap (λ i. take i xs) whole ∙ take-length xs ∙ same);
      small = omega (arith, l.invariant.within, whole, long, v.ok.0, v.ok.1, v.small);
    }

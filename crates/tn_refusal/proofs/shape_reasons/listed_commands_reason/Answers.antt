use Rattle.std.proofs.Common.{◌∙◌, ◌+◌, [], length, map, take, Some, sym, ap, arith}
use Rattle.std.specs.Option.{option_map}
use Rattle.def_wording.specs.ShapeTexts.{numbered_reason, of_command, command_shape_reason}
use Rattle.tn_refusal.specs.ShapeReasons.{part_reason_seen}
use Rattle.tn_term.specs.Views.{tree_of}
use Rattle.tn_refusal.proofs.Firsts.{found_here, found_later, found_nowhere, passed_count}
use Rattle.tn_refusal.proofs.shape_reasons.listed_commands_reason.Goals as goal

pub returns-in-Some : goal.returns-in-Some
returns-in-Some g c =
    let p = numbered_reason of_command command_shape_reason in
    let xs = c.args.terms.now in
    let i = c.loop-i.i in
    found_here p tree_of [] xs i c.index-terms-i.result _ (omega arith) c.index-terms-i.is
    (ap (λ o. option_map (of_command (length (map tree_of (take i xs)) + 1)) o) (sym c.in-Some.ensures) ∙ ap (λ n. Some (of_command (n + 1) (part_reason_seen c.in-Some.reason))) (passed_count tree_of xs i (omega arith))) c.loop-i.invariant

pub loop-i-preserved : goal.loop-i-preserved
loop-i-preserved g c =
    let p = numbered_reason of_command command_shape_reason in
    let xs = c.args.terms.now in
    let i = c.loop-i.i in
    found_later p tree_of [] xs i c.index-terms-i.result (omega arith) c.index-terms-i.is
    (ap (λ o. option_map (of_command (length (map tree_of (take i xs)) + 1)) o) (sym c.in_default.ensures)) c.loop-i.invariant

pub returns : goal.returns
returns g c = found_nowhere (numbered_reason of_command command_shape_reason) tree_of [] c.args.terms.now c.loop-i.i (omega arith) c.loop-i.invariant

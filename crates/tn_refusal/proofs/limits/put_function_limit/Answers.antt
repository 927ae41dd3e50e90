use Rattle.std.proofs.Common.{◌≤◌, codes, length, map, arith}
use Rattle.std.specs.List.{count_by}
use Rattle.std.proofs.lemmas.List.{length-map}
use Rattle.def_script.specs.Limits.{STEPS}
use Rattle.def_script.specs.Rules.{is_function}
use Rattle.def_wording.specs.RuleTexts.{total_text}
use Rattle.tn_script.specs.Views.{function_of, form_of, step_of}
use Rattle.tn_refusal.proofs.RuleReasons.{functions_limit, more_up_to}
use Rattle.tn_refusal.proofs.Writes.{read_as}
use Rattle.tn_refusal.proofs.limits.put_function_limit.Goals as goal

pub returns-else-len-gt-MAX_STEPS : goal.returns-else-len-gt-MAX_STEPS
returns-else-len-gt-MAX_STEPS g c =
    let fs = map (form_of {A = g.row.A.Denot}) c.args.earlier.now in
    let k = function_of {A = g.row.A.Denot} c.args.function.now in
    let n = c.saturating_add.result in
    let stored = c.args.function.now.steps.ok.0 in
    let same = length-map c.args.function.now.steps.items (step_of {A = g.row.A.Denot}) in
    let few : length k.steps ≤ STEPS = let fits = c.if-len-gt-MAX_STEPS.false in omega (arith, fits, same, stored) in
    let is = more_up_to c.function_total.result (count_by is_function fs) 1 n c.function_total.ensures c.saturating_add.ensures in
    read_as c.put_total.result c.args.out.now.items (total_text n (codes " functions")) _ c.put_total.new.out.items (functions_limit fs k n few is) c.put_total.ensures

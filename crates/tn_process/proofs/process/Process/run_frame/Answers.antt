use Rattle.std.proofs.Common.{◌≡◌, ap, sym, ◌∙◌, Some, None, slice_get, map, arith}
use Rattle.def_term.specs.Tree.{Tree}
use Rattle.def_node.specs.Process.{performs, leaves}
use Rattle.tn_script.specs.Views.{functions_of, function_of, step_of}
use Rattle.tn_process.specs.Views.{process_seen, frame_of}
use Rattle.tn_process.proofs.Acts.{done}
use Rattle.tn_process.proofs.Lookup.{seen_at, none_at}
use Rattle.tn_process.proofs.process.Process.run_frame.Goals as goal

pub returns-in_ok-value-in-None : goal.returns-in_ok-value-in-None
returns-in_ok-value-in-None g c =
    let q = process_seen c.args.self.now in
    let f = frame_of c.args.frame in
    let k = function_of c.args.function.now in
    let ok = c.in_ok-value-in-None.ensures ∙ c.in_ok-word-in-None.ensures in
    let at : slice_get k.steps f.place ≡ None = ap (λ xs. slice_get (map step_of xs) f.place) (sym c.deref.ensures.value) ∙ none_at step_of c.deref.result.now f.place c.in-None.ensures.lookup.3 in
    done c.leave.new.self _ _ _ c.leave.ensures
    (ap (λ (t : Tree). leaves c.args.context.now.pid q k f.target q.frames t) ok
    ∙ sym (ap (performs (functions_of c.args.context.now.functions.now) c.args.context.now.pid c.args.context.now.child q k f q.frames) at))

pub returns-in-Some : goal.returns-in-Some
returns-in-Some g c =
    let q = process_seen c.args.self.now in
    let f = frame_of c.args.frame in
    let k = function_of c.args.function.now in
    let step = c.in-Some.step.now in
    let at : slice_get k.steps f.place ≡ Some (step_of step) =
    ap (λ xs. slice_get (map step_of xs) f.place) (sym c.deref.ensures.value) ∙ seen_at step_of c.deref.result.now f.place step c.in-Some.ensures.lookup.3.0 c.in-Some.ensures.lookup.1 in
    done c.perform.new.self _ _ _ c.perform.ensures
    (sym (ap (performs (functions_of c.args.context.now.functions.now) c.args.context.now.pid c.args.context.now.child q k f q.frames) at))

pub perform-requires : goal.perform-requires
perform-requires g c = omega (arith, c.in-Some.ensures.lookup.3.0, c.deref.ensures.len, c.args.function.now.steps.small)

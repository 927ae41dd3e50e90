use Rattle.std.proofs.Common.{ap, map, sym, ◌∙◌}
use Rattle.def_node.specs.Process.{enters_at}
use Rattle.tn_term.specs.SharedTree.{shared_tree}
use Rattle.tn_script.specs.Views.{function_of, functions_of}
use Rattle.tn_process.specs.StepAnswers.{enters_in, manner_of}
use Rattle.tn_process.specs.Views.{process_seen}
use Rattle.tn_process.proofs.Lookup.{seen_at, none_at}
use Rattle.tn_process.proofs.Acts.{ended, done}
use Rattle.tn_process.proofs.process.Process.enter.Goals as goal

pub returns-in_default : goal.returns-in_default
returns-in_default g c =
    ended c.args.self.now _ _ _ c.ends_with.ensures (sym (ap (enters_in c.args.context.now c.args.self.now c.args.calling) c.in_default.is))

pub returns-in_default-get : goal.returns-in_default-get
returns-in_default-get g c =
    let ks = c.args.context.now.functions.now in
    let q = process_seen c.args.self.now in
    let k = c.args.calling in
    let i = c.in-Some.number in
    ended c.args.self.now _ _ _ c.ends_with-in_default-get.ensures
    (sym (ap (enters_at (functions_of ks) c.args.context.now.pid q q.frames (manner_of k) (map shared_tree k.args.items) i) (none_at function_of ks i c.in_default-get.ensures.lookup.3))
    ∙ sym (ap (enters_in c.args.context.now c.args.self.now k) c.in-Some.is))

pub returns : goal.returns
returns g c =
    let ks = c.args.context.now.functions.now in
    let q = process_seen c.args.self.now in
    let k = c.args.calling in
    let i = c.in-Some.number in
    let at = c.in-Some-get.ensures.lookup in
    let here = seen_at function_of ks i c.in-Some-get.function.now at.3.0 at.1 in
    done c.enter_function.new.self _ _ _ c.enter_function.ensures
    (sym (ap (enters_at (functions_of ks) c.args.context.now.pid q q.frames (manner_of k) (map shared_tree k.args.items) i) here)
    ∙ sym (ap (enters_in c.args.context.now c.args.self.now k) c.in-Some.is))

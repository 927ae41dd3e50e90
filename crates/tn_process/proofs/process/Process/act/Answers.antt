use Rattle.std.proofs.Common.{ap, ap₂, sym, ◌∙◌, map, Some, None}
use Rattle.std.specs.Option.{option_map}
use Rattle.def_script.specs.Program.{entry_mfa, number_from}
use Rattle.def_node.specs.Process.{act_after, begins, exits, remotely, runs}
use Rattle.tn_term.specs.Views.{tree_of}
use Rattle.tn_flags.specs.Views.{event_of}
use Rattle.tn_script.specs.Views.{entry_of, functions_of}
use Rattle.tn_process.specs.Functions.{functions_in}
use Rattle.tn_process.specs.Views.{process_seen}
use Rattle.tn_process.proofs.Acts.{done, enters_after}
use Rattle.tn_process.proofs.process.Process.act.Goals as goal

pub returns-in-Some : goal.returns-in-Some
returns-in-Some g c =
    ap (λ es. exits c.args.self.now.links (tree_of c.in-Some.reason) (map event_of es)) c.new.ensures.items
    ∙ ap (λ s. act_after (functions_in c.args.functions.now) c.args.pid c.args.child (process_seen c.args.self.now) (option_map tree_of s)) (sym c.in-Some.is ∙ c.take.ensures.value)

pub returns-in-Some-take : goal.returns-in-Some-take
returns-in-Some-take g c =
    let ks = functions_in c.args.functions.now in
    let listed = ap functions_of (c.as_slice.ensures.value ∙ ap (λ v. v.items) c.deref.ensures) in
    let q = process_seen c.args.self.now in
    let e = entry_of c.in-Some-take.entry in
    let signal = c.take.ensures.after ∙ sym c.in_default.is ∙ c.take.ensures.value in
    done c.begin.new.self _ _ _ c.begin.ensures
    (ap (λ fs. begins fs c.args.pid None (record q { entry = option_map entry_of c.take-2.new.self; signal = option_map tree_of c.take.new.self }) (Some e)) listed
    ∙ ap (λ s. begins ks c.args.pid None (record q { entry = option_map entry_of c.take-2.new.self; signal = option_map tree_of s }) (Some e)) signal
    ∙ enters_after ks c.args.pid q (option_map entry_of c.take-2.new.self) q.frames (remotely None) e.args (number_from 0 ks (entry_mfa e))
    ∙ ap (λ o. begins ks c.args.pid c.args.child q (option_map entry_of o)) (sym c.in-Some-take.is ∙ c.take-2.ensures.value)
    ∙ ap (λ s. act_after ks c.args.pid c.args.child q (option_map tree_of s)) (sym c.in_default.is ∙ c.take.ensures.value))

pub returns-in-None : goal.returns-in-None
returns-in-None g c =
    let ks = functions_in c.args.functions.now in
    let listed = ap functions_of (c.as_slice.ensures.value ∙ ap (λ v. v.items) c.deref.ensures) in
    let q = process_seen c.args.self.now in
    let signal = c.take.ensures.after ∙ sym c.in_default.is ∙ c.take.ensures.value in
    let entry = c.take-2.ensures.after ∙ sym c.in-None.is ∙ c.take-2.ensures.value in
    done c.run.new.self _ _ _ c.run.ensures
    (ap (λ fs. runs fs c.args.pid c.args.child (record q { entry = option_map entry_of c.take-2.new.self; signal = option_map tree_of c.take.new.self }) q.frames) listed
    ∙ ap₂ (λ s o. runs ks c.args.pid c.args.child (record q { entry = option_map entry_of o; signal = option_map tree_of s }) q.frames) signal entry
    ∙ ap (λ o. begins ks c.args.pid c.args.child q (option_map entry_of o)) (sym c.in-None.is ∙ c.take-2.ensures.value)
    ∙ ap (λ s. act_after ks c.args.pid c.args.child q (option_map tree_of s)) (sym c.in_default.is ∙ c.take.ensures.value))

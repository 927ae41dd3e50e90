use Rattle.std.proofs.Common.{ap, ap₂, sym, ◌∙◌, None}
use Rattle.def_node.specs.Values.{all_fit, instance_of}
use Rattle.def_outlook.specs.Outlook.{error_calling, error_past}
use Rattle.tn_term.specs.Views.{tree_of}
use Rattle.tn_script.specs.Views.{functions_of}
use Rattle.tn_process.specs.Outlooks.{error_calling_in, error_of_step_in}
use Rattle.tn_process.specs.Views.{env_of}
use Rattle.tn_process.proofs.Templates.{map_twice}
use Rattle.tn_process.proofs.process.Frame.error_of_step.Goals as goal

pub returns-in-Send : goal.returns-in-Send
returns-in-Send g c =
    c.error_sending.ensures ∙ sym (ap (error_of_step_in c.args.self.now c.args.functions.now c.args.child c.args.function.now c.args.count) c.in-Send.is)

pub returns-in-CallRemote : goal.returns-in-CallRemote
returns-in-CallRemote g c =
    let f = c.args.self.now in
    let a = c.in-CallRemote in
    c.error_calling.ensures ∙ ap₂ (λ m n. error_calling_in f c.args.functions.now c.args.count m n a.args) c.text.ensures.text c.text-in-CallRemote.ensures.text
    ∙ ap (error_calling (functions_of c.args.functions.now) c.args.count a.home a.name) (map_twice tree_of (instance_of (env_of f.env)) a.args.terms.items)
    ∙ sym (ap (error_of_step_in f c.args.functions.now c.args.child c.args.function.now c.args.count) a.is)

pub returns-in-CallLocal : goal.returns-in-CallLocal
returns-in-CallLocal g c =
    let f = c.args.self.now in
    let a = c.in-CallLocal in
    c.error_calling-in-CallLocal.ensures ∙ ap₂ (λ m n. error_calling_in f c.args.functions.now c.args.count m n a.args) c.text-in-CallLocal.ensures.text c.text-in-CallLocal-2.ensures.text
    ∙ ap (error_calling (functions_of c.args.functions.now) c.args.count c.args.function.now.module a.name) (map_twice tree_of (instance_of (env_of f.env)) a.args.terms.items)
    ∙ sym (ap (error_of_step_in f c.args.functions.now c.args.child c.args.function.now c.args.count) a.is)

pub returns-in-Catch : goal.returns-in-Catch
returns-in-Catch g c =
    let f = c.args.self.now in
    let a = c.in-Catch in
    c.error_calling-in-Catch.ensures ∙ ap₂ (λ m n. error_calling_in f c.args.functions.now c.args.count m n a.args) c.text-in-Catch.ensures.text c.text-in-Catch-2.ensures.text
    ∙ ap (error_calling (functions_of c.args.functions.now) c.args.count a.home a.name) (map_twice tree_of (instance_of (env_of f.env)) a.args.terms.items)
    ∙ sym (ap (error_of_step_in f c.args.functions.now c.args.child c.args.function.now c.args.count) a.is)

pub returns-in-Spawn : goal.returns-in-Spawn
returns-in-Spawn g c =
    let f = c.args.self.now in
    let a = c.in-Spawn in
    c.error_past.ensures
    ∙ ap₂ error_past (c.all_fit.ensures ∙ ap all_fit (map_twice tree_of (instance_of (env_of f.env)) a.args.terms.items)) c.error_without_child.ensures
    ∙ sym (ap (error_of_step_in f c.args.functions.now c.args.child c.args.function.now c.args.count) a.is)

pub returns-in-Raise : goal.returns-in-Raise
returns-in-Raise g c =
    c.error_past-in-Raise.ensures ∙ ap (λ b. error_past b None) c.fits-in-Raise.ensures
    ∙ sym (ap (error_of_step_in c.args.self.now c.args.functions.now c.args.child c.args.function.now c.args.count) c.in-Raise.is)

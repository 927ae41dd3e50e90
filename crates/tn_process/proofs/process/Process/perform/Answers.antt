use Rattle.std.proofs.Common.{ap, sym, ◌∙◌, Some}
use Rattle.def_node.specs.Values.{instance_of}
use Rattle.def_node.specs.Process.{calls, catch_manner, locally, remotely, spawns_with}
use Rattle.tn_term.specs.Views.{tree_of}
use Rattle.tn_script.specs.Views.{functions_of, step_of}
use Rattle.tn_process.specs.StepAnswers.{performs_in}
use Rattle.tn_process.specs.Views.{frame_of, process_seen}
use Rattle.tn_process.proofs.Acts.{done}
use Rattle.tn_process.proofs.Templates.{map_twice}
use Rattle.tn_process.proofs.process.Process.perform.Goals as goal

pub returns-in-Send : goal.returns-in-Send
returns-in-Send g c =
    done c.send.new.self _ _ _ c.send.ensures
    (sym (ap (λ s. performs_in c.args.context.now c.args.self.now c.args.function.now c.args.frame (Some (step_of s))) c.in-Send.is))

pub returns-in-Receive : goal.returns-in-Receive
returns-in-Receive g c =
    done c.receive.new.self _ _ _ c.receive.ensures
    (sym (ap (λ s. performs_in c.args.context.now c.args.self.now c.args.function.now c.args.frame (Some (step_of s))) c.in-Receive.is))

pub returns-in-CallRemote : goal.returns-in-CallRemote
returns-in-CallRemote g c =
    let q = process_seen c.args.self.now in
    let f = frame_of c.args.frame in
    let a = c.in-CallRemote in
    done c.call.new.self _ _ _ c.call.ensures
    (ap (λ ts. calls (functions_of c.args.context.now.functions.now) c.args.context.now.pid q f q.frames (remotely a.target) a.home a.name ts) (map_twice tree_of (instance_of f.env) a.templates.terms.items)
    ∙ sym (ap (λ s. performs_in c.args.context.now c.args.self.now c.args.function.now c.args.frame (Some (step_of s))) a.is))

pub returns-in-CallLocal : goal.returns-in-CallLocal
returns-in-CallLocal g c =
    let q = process_seen c.args.self.now in
    let f = frame_of c.args.frame in
    let a = c.in-CallLocal in
    done c.call-in-CallLocal.new.self _ _ _ c.call-in-CallLocal.ensures
    (ap (λ ts. calls (functions_of c.args.context.now.functions.now) c.args.context.now.pid q f q.frames (locally a.target) c.args.function.now.module a.name ts) (map_twice tree_of (instance_of f.env) a.templates.terms.items)
    ∙ sym (ap (λ s. performs_in c.args.context.now c.args.self.now c.args.function.now c.args.frame (Some (step_of s))) a.is))

pub returns-in-Catch : goal.returns-in-Catch
returns-in-Catch g c =
    let q = process_seen c.args.self.now in
    let f = frame_of c.args.frame in
    let a = c.in-Catch in
    done c.call-in-Catch.new.self _ _ _ c.call-in-Catch.ensures
    (ap (λ ts. calls (functions_of c.args.context.now.functions.now) c.args.context.now.pid q f q.frames (catch_manner a.target) a.home a.name ts) (map_twice tree_of (instance_of f.env) a.templates.terms.items)
    ∙ sym (ap (λ s. performs_in c.args.context.now c.args.self.now c.args.function.now c.args.frame (Some (step_of s))) a.is))

pub returns-in-Spawn : goal.returns-in-Spawn
returns-in-Spawn g c =
    let q = process_seen c.args.self.now in
    let f = frame_of c.args.frame in
    let a = c.in-Spawn in
    done c.spawn.new.self _ _ _ c.spawn.ensures
    (ap (λ ts. spawns_with q f q.frames a.target a.home a.name ts c.args.context.now.child) (map_twice tree_of (instance_of f.env) a.templates.terms.items)
    ∙ sym (ap (λ s. performs_in c.args.context.now c.args.self.now c.args.function.now c.args.frame (Some (step_of s))) a.is))

pub returns-in-Link : goal.returns-in-Link
returns-in-Link g c =
    done c.relink.new.self _ _ _ c.relink.ensures
    (sym (ap (λ s. performs_in c.args.context.now c.args.self.now c.args.function.now c.args.frame (Some (step_of s))) c.in-Link.is))

pub returns-in-Unlink : goal.returns-in-Unlink
returns-in-Unlink g c =
    done c.relink-in-Unlink.new.self _ _ _ c.relink-in-Unlink.ensures
    (sym (ap (λ s. performs_in c.args.context.now c.args.self.now c.args.function.now c.args.frame (Some (step_of s))) c.in-Unlink.is))

pub returns-in-Return : goal.returns-in-Return
returns-in-Return g c =
    done c.give_back.new.self _ _ _ c.give_back.ensures
    (sym (ap (λ s. performs_in c.args.context.now c.args.self.now c.args.function.now c.args.frame (Some (step_of s))) c.in-Return.is))

pub returns-in-Raise : goal.returns-in-Raise
returns-in-Raise g c =
    done c.raise.new.self _ _ _ c.raise.ensures
    (sym (ap (λ s. performs_in c.args.context.now c.args.self.now c.args.function.now c.args.frame (Some (step_of s))) c.in-Raise.is))

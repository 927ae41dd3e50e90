use Rattle.std.proofs.Common.{ap, ap₂, sym, ◌∙◌, ◌∷◌, map, List, ℕ}
use Rattle.std.specs.Option.{option_map}
use Rattle.def_term.specs.Tree as Tree
use Rattle.def_script.specs.Program.{Entry}
use Rattle.def_node.specs.Values.{rebound_target}
use Rattle.def_node.specs.Process.{Process, Frame, spawns, spawns_at, next_step, with_env, with_frames}
use Rattle.tn_term.specs.Views.{tree_of}
use Rattle.tn_term.specs.SharedTree.{shared_tree}
use Rattle.tn_term.proofs.Views.{tree_of_pid}
use Rattle.tn_script.specs.Views.{args_of}
use Rattle.tn_process.specs.Views.{process_seen, frame_of}
use Rattle.tn_process.proofs.Acts.{ended, within_none, within_some}
use Rattle.tn_process.proofs.process.Process.spawn.Goals as goal

pub returns-in_default : goal.returns-in_default
returns-in_default g c =
    ended c.args.self.now _ _ _ c.over_limit.ensures
    (within_none (process_seen c.args.self.now).links _ _ (ap (option_map args_of) (sym c.in_default.is) ∙ c.in_ok-args.ensures))

pub returns-in_default-child : goal.returns-in_default-child
returns-in_default-child g c =
    let q = process_seen c.args.self.now in
    let k = c.args.callee.now in
    let args = args_of c.in-Some.args in
    ended c.args.self.now _ _ _ c.over_limit-in_default-child.ensures
    (within_some q.links _ _ args _ (ap (option_map args_of) (sym c.in-Some.is) ∙ c.in_ok-args.ensures)
    (sym (ap (λ o. spawns_at q (frame_of c.args.frame) q.frames k.target.now k.home.now k.name.now args o) c.in_default-child.is)))

pub returns : goal.returns
returns g c =
    let q = process_seen c.args.self.now in
    let f = frame_of c.args.frame in
    let x = c.args.callee.now.target.now in
    let child = c.in-Some-child.child in
    let args = c.in-Some.args in
    let own = shared_tree {A = g.row.A.Denot} c.in_ok-pid.pid in
    let framed = c.in_ok-bind.ensures
    ∙ ap (λ (fr : Frame). with_env fr (rebound_target x own fr.env)) c.advance.ensures
    ∙ ap (λ (t : Tree.Tree). with_env (next_step f) (rebound_target x t f.env)) (c.in_ok-pid.ensures ∙ tree_of_pid g.row.A.Denot child) in
    let process = c.in_ok-push_frame.ensures ∙ ap (λ (fr : Frame). with_frames q (fr ∷ q.frames)) framed in
    let E : List ℕ → List ℕ → Entry = λ m n. record { module_name = m; function_name = n; args = map tree_of args.terms.items } in
    within_some q.links _ _ (map tree_of args.terms.items) _
    (sym (ap (option_map (λ v. map tree_of v.terms.items)) c.in-Some.is) ∙ c.in_ok-args.ensures)
    (ap₂ (λ (p : Process) (e : Entry). spawns p child e) process (ap₂ E c.in_ok-copy_into.ensures c.in_ok-copy_into-2.ensures)
    ∙ sym (ap (λ o. spawns_at q f q.frames x c.args.callee.now.home.now c.args.callee.now.name.now (map tree_of args.terms.items) o) c.in-Some-child.is))

use Rattle.std.proofs.Common.{◌∙◌, ◌++◌, Some, sym, ap}
use Rattle.def_state.specs.ProcessTexts.{process_text}
use Rattle.tn_node.specs.Worlds.{slot_of}
use Rattle.tn_process.specs.Views.{process_seen}
use Rattle.tn_script.specs.Views.{functions_of}
use Rattle.tn_text.proofs.Growth.{on_done}
use Rattle.tn_state.proofs.process.put_process.Goals as goal

pub returns-in-None : goal.returns-in-None
returns-in-None g c =
    on_done c.put_exited_process.result (λ text. text ∙ ap (λ s. c.args.out.now.items ++ process_text (functions_of c.args.functions.now) c.args.pid (slot_of s)) (sym c.in-None.is)) c.put_exited_process.ensures

pub returns-in-Some : goal.returns-in-Some
returns-in-Some g c =
    let before = c.args.out.now.items in
    let ks = functions_of c.args.functions.now in
    on_done c.put_living_process.result
    (λ text. text ∙ ap (λ p. before ++ process_text ks c.args.pid (Some (process_seen p))) c.deref.ensures ∙ ap (λ s. before ++ process_text ks c.args.pid (slot_of s)) (sym c.in-Some.is))
    c.put_living_process.ensures

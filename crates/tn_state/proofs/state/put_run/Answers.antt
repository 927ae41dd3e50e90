use Rattle.std.proofs.Common.{◌∙◌, ◌++◌, length, map, sym, ap, subst, arith}
use Rattle.std.proofs.lemmas.List.{length-map}
use Rattle.std.proofs.lemmas.Result.{on_ok_weaker}
use Rattle.std.specs.Option.{option_map}
use Rattle.def_run.specs.Run.{events}
use Rattle.def_state.specs.ProcessTexts.{processes_text}
use Rattle.tn_flags.specs.Views.{command_of}
use Rattle.tn_node.specs.Worlds.{slot_of}
use Rattle.tn_program.specs.Views.{program_of}
use Rattle.tn_state.specs.Sessions.{AreSlotsAfter}
use Rattle.tn_state.proofs.SessionLemmas.{run_written, slots_after, taken_of}
use Rattle.tn_state.proofs.state.put_run.Goals as goal

pub put_sessions-requires : goal.put_sessions-requires
put_sessions-requires g c = let many = sym (length-map c.commands.result.now (command_of {A = g.row.A.Denot})) ∙ ap length c.commands.ensures in omega (arith, many)

pub returns : goal.returns
returns g c = λ limit picks h.
    let p = program_of c.args.program.now in
    let n = c.node-node.result.now in
    let at = c.node-node.ensures ∙ h.node in
    let slots = map slot_of c.in-Some.processes.now in
    let seen = sym (ap (option_map (λ ss. map slot_of ss.now)) c.in-Some.is) ∙ c.processes.ensures in
    let taken = taken_of p picks c.in-Some-commands_taken.taken n at (sym c.in-Some-commands_taken.is ∙ c.commands_taken.ensures) in
    let recorded = subst (λ r. AreSlotsAfter p (events p picks) r.slots.items) (sym c.observer.ensures) (slots_after p picks c.args.run.now.observer h.seen) in
    let sessions = subst (λ xs. AreSlotsAfter p (events p picks) xs) (sym c.deref.ensures.value) recorded in
    let middle = c.put_sessions.new.out.items in
    on_ok_weaker c.put_processes.result
    (λ last. run_written p picks (option_map (λ s. s.now) c.args.asked) slots n c.args.out.now.items middle c.put_processes.new.out.items at seen
    (c.in_ok-put_sessions.ensures (events p picks) sessions taken) (last ∙ ap (λ ks. middle ++ processes_text ks 100 slots) c.functions.ensures))
    c.put_processes.ensures

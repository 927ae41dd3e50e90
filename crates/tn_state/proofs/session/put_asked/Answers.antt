use Rattle.std.proofs.Common.{◌∙◌, if◌then◌else◌, [], ◌++◌, sym, ap, append-nil}
use Rattle.std.proofs.lemmas.Result.{on_ok_weaker}
use Rattle.def_term.specs.Names.{Name}
use Rattle.def_state.specs.States.{session_text}
use Rattle.tn_state.specs.Sessions.{program_in, view_of}
use Rattle.tn_state.proofs.session.put_asked.Goals as goal

pub returns-then-asks_for : goal.returns-then-asks_for
returns-then-asks_for g c = λ items h shown.
    let s : Name × Name = (c.args.slot.now.name, c.args.tracer.now) in
    let text = session_text s (view_of (program_in c.args.context.now) items c.args.slot.now.name) in
    on_ok_weaker c.put_session.result
    (λ e. e ∙ ap (λ b. c.args.out.now.items ++ (if b then text else [])) (sym (sym c.asks_for.ensures ∙ c.if-asks_for.true)))
    (c.put_session.ensures items h shown)

pub returns-else-asks_for : goal.returns-else-asks_for
returns-else-asks_for g c = λ items h shown.
    let s : Name × Name = (c.args.slot.now.name, c.args.tracer.now) in
    let text = session_text s (view_of (program_in c.args.context.now) items c.args.slot.now.name) in
    sym (append-nil c.args.out.now.items) ∙ ap (λ b. c.args.out.now.items ++ (if b then text else [])) (sym (sym c.asks_for.ensures ∙ c.if-asks_for.false))

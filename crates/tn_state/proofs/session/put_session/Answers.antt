use Rattle.std.proofs.Common.{◌∙◌, sym, ap, take}
use Rattle.std.proofs.lemmas.List.{take-map}
use Rattle.std.proofs.lemmas.Result.{on_ok_weaker}
use Rattle.std.specs.Option.{option_map}
use Rattle.tn_flags.specs.Views.{command_of}
use Rattle.tn_session.specs.Looks.{look_seen}
use Rattle.tn_state.specs.Sessions.{program_in}
use Rattle.tn_state.proofs.SessionLemmas.{absent_session_written, created_session_written}
use Rattle.tn_state.proofs.session.put_session.Goals as goal

pub returns-in_default : goal.returns-in_default
returns-in_default g c = λ items h shown.
    on_ok_weaker c.put_absent.result
    (absent_session_written (program_in c.args.context.now) items (c.args.slot.now.name, c.args.tracer.now) c.args.context.now.taken shown c.args.slot.now c.args.out.now.items c.put_header.new.out.items c.put_absent.new.out.items c.in_default.is h
    c.in_ok-put_header.ensures)
    c.put_absent.ensures

pub returns : goal.returns
returns g c = λ items h shown.
    let p = program_in c.args.context.now in
    let n = c.args.context.now.taken in
    let commands = c.commands.result.now in
    let front = sym (take-map (command_of {A = g.row.A.Denot}) n commands) ∙ ap (take n) c.commands.ensures in
    on_ok_weaker c.put_created.result
    (created_session_written p items (c.args.slot.now.name, c.args.tracer.now) n shown c.args.slot.now c.in-Some.session c.in-Some-look.look (take n commands) c.args.out.now.items c.put_header.new.out.items c.put_created.new.out.items
    c.in-Some.is (sym (ap (option_map look_seen) c.in-Some-look.is) ∙ c.look.ensures) h front c.in_ok-put_header.ensures)
    c.put_created.ensures

use Rattle.std.proofs.Common.{◌∙◌, sym, ap}
use Rattle.def_script.specs.Exports.{exports_of}
use Rattle.def_state.specs.SettingTerms.{after_creation}
use Rattle.def_state.specs.SessionTexts.{live_text}
use Rattle.tn_program.specs.Views.{program_of}
use Rattle.tn_session.specs.Looks.{look_seen}
use Rattle.tn_text.proofs.Growth.{written_as}
use Rattle.tn_state.specs.Commands.{own_commands}
use Rattle.tn_state.proofs.SessionLemmas.{destroyed_written, live_written}
use Rattle.tn_state.proofs.session.put_created.Goals as goal

pub returns-then-not-is_live : goal.returns-then-not-is_live
returns-then-not-is_live g c =
    written_as c.put_destroyed.result c.args.out.now.items c.put_destroyed.new.out.items
    (destroyed_written (exports_of (program_of c.args.program.now)) c.args.look.now (after_creation (own_commands c.args.name.now c.args.commands.now)) (sym c.is_live.ensures ∙ c.if-not-is_live.true))
    c.put_destroyed.ensures

pub returns : goal.returns
returns g c =
    let o = exports_of (program_of c.args.program.now) in
    written_as c.put_live.result c.args.out.now.items c.put_live.new.out.items
    (live_written o c.args.look.now (after_creation (own_commands c.args.name.now c.args.commands.now)) (sym c.is_live.ensures ∙ c.if-not-is_live.false) ∙ ap (live_text o (look_seen c.args.look.now)) (sym c.since_creation-later.ensures))
    c.put_live.ensures

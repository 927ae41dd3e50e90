use Rattle.std.proofs.Common.{◌++◌, codes}
use Rattle.def_term.specs.Text.{w}
use Rattle.def_explain.specs.Accounts.{said}
use Rattle.def_explain.specs.ReasonTexts.{reason_after_reply}
use Rattle.tn_term.specs.Views.{tree_of}
use Rattle.tn_command_reason.specs.CommandReasons.{command_reasons_seen}
use Rattle.tn_explain.proofs.LineTexts.{line, both}
use Rattle.tn_explain.proofs.line.put_command_line.Goals as goal

pub returns-clause-ok : goal.returns-clause-ok
returns-clause-ok g c =
    let told = w (tree_of c.args.reply.now) in
    let why = reason_after_reply (command_reasons_seen c.args.why) in
    let begun = c.begin.new.out.items in
    let first = c.extend_from_slice.new.self.items in
    let next = c.write_term.new.out.items in
    let last = c.put_reason_after_reply.new.out.items in
    line c.args.name.now (said (codes "replies " ++ told ++ why)) c.args.out.now.items begun last c.push.new.self.items c.in_ok-begin.ensures.ok
    (both begun next last (codes "replies " ++ told) why (both begun first next (codes "replies ") told c.in_ok-extend_from_slice.ensures.items c.in_ok-write_term.ensures.ok) c.in_ok-put_reason_after_reply.ensures.ok)
    c.in_ok-push.ensures.items

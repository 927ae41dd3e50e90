use Rattle.std.proofs.Common.{◌∙◌, codes, sym, ap}
use Rattle.def_term.specs.Text.{w}
use Rattle.def_explain.specs.CommandReasons.{reply_of}
use Rattle.tn_command_reason.specs.CommandReasons.{command_reason_seen}
use Rattle.tn_verdict.proofs.Pieces.{read_as, put_ok}
use Rattle.tn_command_reason.proofs.ReplyTexts.{zero_text}
use Rattle.tn_command_reason.proofs.command_reason_texts.put_reply.Goals as goal

pub returns-in-NoMatch-clause-ok : goal.returns-in-NoMatch-clause-ok
returns-in-NoMatch-clause-ok g c =
    let o = c.args.out.now.items in
    let last = c.extend_from_slice.new.self.items in
    let done = c.extend_from_slice.result in
    read_as done o (codes "0") (w (reply_of (command_reason_seen c.args.why.now))) last (sym (ap (λ r. w (reply_of (command_reason_seen r))) c.in-NoMatch.is ∙ zero_text)) (put_ok done o (codes "0") last c.extend_from_slice.ensures.items)

pub returns-in-NoExportedMatch-clause-ok : goal.returns-in-NoExportedMatch-clause-ok
returns-in-NoExportedMatch-clause-ok g c =
    let o = c.args.out.now.items in
    let last = c.extend_from_slice-in-NoExportedMatch.new.self.items in
    let done = c.extend_from_slice-in-NoExportedMatch.result in
    read_as done o (codes "0") (w (reply_of (command_reason_seen c.args.why.now))) last (sym (ap (λ r. w (reply_of (command_reason_seen r))) c.in-NoExportedMatch.is ∙ zero_text)) (put_ok done o (codes "0") last c.extend_from_slice-in-NoExportedMatch.ensures.items)

use Rattle.std.proofs.Common.{◌∙◌, ◌++◌, codes, sym, ap}
use Rattle.def_term.specs.Text.{w, atom_text}
use Rattle.def_session.specs.Commands.{fault_term}
use Rattle.def_explain.specs.SpecReasons.{reason_fault}
use Rattle.tn_reason.specs.SpecReasons.{spec_reason_seen}
use Rattle.tn_verdict.proofs.Pieces.{behind, after_ok, read_as, put_ok}
use Rattle.tn_command_reason.proofs.ReplyTexts.{badarg_text, unsupported_text}
use Rattle.tn_command_reason.proofs.command_reason_texts.put_fault.Goals as goal

pub returns-in_ok-write_atom-in-Some-clause-ok : goal.returns-in_ok-write_atom-in-Some-clause-ok
returns-in_ok-write_atom-in-Some-clause-ok g c =
    let o = c.args.out.now.items in
    let name = c.in-Some.name.now in
    let first = c.extend_from_slice.new.self.items in
    let next = c.write_atom.new.out.items in
    let last = c.extend_from_slice-in-Some.new.self.items in
    let done = c.extend_from_slice-in-Some.result in
    let front = codes "{unsupported," ++ atom_text name in
    read_as done o (front ++ codes "}") (w (fault_term (reason_fault (spec_reason_seen c.args.why)))) last (sym (ap (λ f. w (fault_term f)) c.in-Some.ensures ∙ unsupported_text name))
    (after_ok done o front (codes "}") next last (behind o (codes "{unsupported,") (atom_text name) first next c.in_ok-extend_from_slice-in-Some.ensures.items c.in_ok-write_atom-in-Some.ensures.ok)
    (put_ok done next (codes "}") last c.extend_from_slice-in-Some.ensures.items))

pub returns-in-None-clause-ok : goal.returns-in-None-clause-ok
returns-in-None-clause-ok g c =
    let o = c.args.out.now.items in
    let last = c.extend_from_slice-in-None.new.self.items in
    let done = c.extend_from_slice-in-None.result in
    read_as done o (codes "badarg") (w (fault_term (reason_fault (spec_reason_seen c.args.why)))) last (sym (ap (λ f. w (fault_term f)) c.in-None.ensures ∙ badarg_text)) (put_ok done o (codes "badarg") last c.extend_from_slice-in-None.ensures.items)

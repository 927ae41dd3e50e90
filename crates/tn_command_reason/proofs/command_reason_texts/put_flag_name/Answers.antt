use Rattle.std.proofs.Common.{◌++◌, codes, ap}
use Rattle.def_explain.specs.ReasonTexts.{flags_text, dbg_flag_text, flag_name_text}
use Rattle.tn_command_reason.proofs.Choices.{where_true, where_false}
use Rattle.tn_verdict.proofs.Pieces.{behind, after_ok, read_as}
use Rattle.tn_command_reason.proofs.command_reason_texts.put_flag_name.Goals as goal

pub returns-then-is_other_flag-clause-ok : goal.returns-then-is_other_flag-clause-ok
returns-then-is_other_flag-clause-ok g c =
    let o = c.args.out.now.items in
    let s = c.args.text.now in
    let modelled = codes ": it is a flag of OTP 27 that isn't modelled" in
    let last = c.put_flags.new.out.items in
    read_as c.put_flags.result o (modelled ++ flags_text) (flag_name_text s) last (where_true _ c.is_other_flag.ensures c.if-is_other_flag.true)
    (after_ok c.put_flags.result o modelled flags_text c.extend_from_slice.new.self.items last c.in_ok-extend_from_slice.ensures.items c.put_flags.ensures.ok)

pub returns-clause-ok : goal.returns-clause-ok
returns-clause-ok g c =
    let o = c.args.out.now.items in
    let s = c.args.text.now in
    let flags = c.in-Some.flags.now in
    let first = c.extend_from_slice-2.new.self.items in
    let next = c.extend_from_slice-3.new.self.items in
    let last = c.put_flags-2.new.out.items in
    read_as c.put_flags-2.result o ((codes ": in dbg it is " ++ flags) ++ flags_text) (flag_name_text s) last (where_false _ c.is_other_flag.ensures c.if-is_other_flag.false (ap (dbg_flag_text s) c.in-Some.ensures))
    (after_ok c.put_flags-2.result o (codes ": in dbg it is " ++ flags) flags_text next last
    (behind o (codes ": in dbg it is ") flags first next c.in_ok-extend_from_slice-2.ensures.items c.in_ok-extend_from_slice-3.ensures.items) c.put_flags-2.ensures.ok)

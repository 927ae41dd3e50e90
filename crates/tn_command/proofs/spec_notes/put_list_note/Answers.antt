use Rattle.std.proofs.Common.{◌++◌, suc, codes, decimal}
use Rattle.tn_verdict.proofs.Pieces.{behind, after_ok, put_ok}
use Rattle.tn_command.specs.SpecNotes.{list_words}
use Rattle.tn_command.specs.SpecNoteViews.{list_as_call_seen}
use Rattle.tn_command.proofs.spec_notes.put_list_note.Goals as goal

pub returns : goal.returns
returns g c =
    let done = c.extend_from_slice-2.result in
    let d = c.extend_from_slice-2.new.self.items in
    let o = c.args.out.now.items in
    let one = c.extend_from_slice.new.self.items in
    let two = c.write_next.new.out.items in
    let three = c.put_list_words.new.out.items in
    let number = decimal (suc c.args.clause) in
    let words = list_words (list_as_call_seen c.args.list) in
    let numbered = behind o (codes "note: clause ") number one two c.in_ok-extend_from_slice.ensures.items c.in_ok-write_next.ensures.ok in
    let listed = behind o (codes "note: clause " ++ number) words two three numbered c.in_ok-put_list_words.ensures.ok in
    record { ok = after_ok done o (codes "note: clause " ++ number ++ words) (codes "\n") three d listed (put_ok done three (codes "\n") d c.extend_from_slice-2.ensures.items) }

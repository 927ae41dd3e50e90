use Rattle.std.proofs.Common.{◌≡◌, ◌∙◌, if◌then◌else◌, [], ◌++◌, flat_map, true, false, sym, ap, append-nil}
use Rattle.def_term.specs.Alive.{is_alive}
use Rattle.def_session.specs.State.{mark_of}
use Rattle.def_state.specs.SessionTexts.{depths, frame_mark_text}
use Rattle.tn_session.specs.Looks.{look_seen}
use Rattle.tn_text.proofs.Growth.{written_as}
use Rattle.tn_state.proofs.marks.put_marks_at.Goals as goal

pub returns-then-has : goal.returns-then-has
returns-then-has g c =
    let s = look_seen c.args.look.now in
    let n = c.args.pid in
    let text = flat_map (λ d. frame_mark_text n d (mark_of s n d)) depths in
    let lives : is_alive s.alive n ≡ true = sym (ap (λ a. is_alive a n) c.alive.ensures) ∙ sym c.has.ensures ∙ c.if-has.true in
    written_as c.put_marks_of.result c.args.out.now.items c.put_marks_of.new.out.items (ap (λ b. if b then text else []) lives) c.put_marks_of.ensures

pub returns-else-has : goal.returns-else-has
returns-else-has g c =
    let s = look_seen c.args.look.now in
    let n = c.args.pid in
    let text = flat_map (λ d. frame_mark_text n d (mark_of s n d)) depths in
    let ended : is_alive s.alive n ≡ false = sym (ap (λ a. is_alive a n) c.alive.ensures) ∙ sym c.has.ensures ∙ c.if-has.false in
    sym (append-nil c.args.out.now.items) ∙ ap (λ b. c.args.out.now.items ++ (if b then text else [])) (sym ended)

use Rattle.std.proofs.Common.{◌∙◌, ◌∷◌, map, sym, ap}
use Rattle.std.specs.Option.{option_map}
use Rattle.def_state.specs.Lines.{terms_line}
use Rattle.def_state.specs.SessionTexts.{frame_mark_text, frame_term, mark_term}
use Rattle.def_term.specs.Tree.{pid}
use Rattle.tn_session.specs.Views.{mark_kind_seen}
use Rattle.tn_term.specs.Views.{tree_of}
use Rattle.tn_text.proofs.Growth.{written_as}
use Rattle.tn_state.proofs.LineLemmas.{pid_line, two_terms}
use Rattle.tn_state.proofs.marks.put_mark.Goals as goal

pub returns : goal.returns
returns g c =
    let frame = frame_term c.args.depth in
    let mark = mark_term (mark_kind_seen c.in-Some.kind) in
    written_as c.put_line.result c.args.out.now.items c.put_line.new.out.items
    (ap (λ k. frame_mark_text c.args.pid c.args.depth (option_map mark_kind_seen k)) c.in-Some.is
    ∙ sym (ap (λ ts. terms_line (pid c.args.pid ∷ ts))
    (two_terms tree_of c.new-others.result.items c.push.new.self.items c.in_ok-frame_term.field-0 frame c.push-2.new.self.items c.deref.result.now c.in_ok-mark_term.field-0 mark
    c.new-others.ensures.items c.in_ok-push.ensures.items c.in_ok-push-2.ensures.items c.deref.ensures.value c.in_ok-frame_term.ensures c.in_ok-mark_term.ensures))
    ∙ pid_line g.row.A.Denot c.args.pid (map tree_of c.deref.result.now))
    c.put_line.ensures

use Rattle.std.proofs.Common.{◌∙◌, ◌++◌, map, refl, sym, ap, subst}
use Rattle.def_run.specs.Run.{event_item}
use Rattle.def_run.specs.History.{all_after}
use Rattle.def_picture.specs.Picture.{reports_of}
use Rattle.tn_term.specs.Views.{alive_of}
use Rattle.tn_flags.specs.Views.{event_of}
use Rattle.tn_trace.specs.Slots.{EachPair}
use Rattle.tn_picture.specs.Slots.{IsSlotOf}
use Rattle.tn_picture.specs.Views.{report_seen}
use Rattle.tn_picture.specs.declared.row.Row.{Row}
use Rattle.tn_picture.proofs.PaintedMoves.{row_is, row_added}
use Rattle.tn_picture.proofs.painter.Painter.put_event.Goals as goal

pub returns : goal.returns
returns g c = λ o ss h.
    let x = event_item (event_of c.args.event.now) in
    let n = c.args.number in
    let made = c.in_ok-report_each.ensures o (alive_of c.args.self.now.living) ss h in
    let row : Row _ = record { move_number = n; shape = c.shape_of_event.result; label = c.in_ok-event_label.field-0; reports = c.report_each.new.reports } in (
      subst (λ living. EachPair (IsSlotOf o living) (all_after o ss x) c.report_each.new.slots.items) (sym c.living_after-self.ensures) made.0,
      row_added n ss x row c.args.rows.now c.push.new.self c.in_ok-push.ensures.items
          (row_is n ss x row refl c.shape_of_event.ensures c.in_ok-event_label.ensures (made.1 ∙ ap (λ rs. map report_seen rs ++ reports_of 1 ss x) c.new-reports.ensures.items)),
    )

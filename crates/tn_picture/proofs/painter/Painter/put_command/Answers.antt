use Rattle.std.proofs.Common.{◌∙◌, map, refl, sym, ap}
use Rattle.def_script.specs.Exports.{visible}
use Rattle.def_run.specs.Run.{command_item}
use Rattle.tn_flags.specs.Views.{command_of}
use Rattle.tn_picture.specs.Views.{report_seen}
use Rattle.tn_picture.specs.declared.row.Row.{Row}
use Rattle.tn_picture.specs.declared.shape.Shape.TheVariants.{CommandLine}
use Rattle.tn_picture.proofs.SlotMessages.{no_reports}
use Rattle.tn_picture.proofs.PaintedMoves.{row_is, row_added}
use Rattle.tn_picture.proofs.painter.Painter.put_command.Goals as goal

pub returns : goal.returns
returns g c = λ o fs ss h.
    let k = command_of c.args.command.now in
    let n = c.args.number in
    let row : Row _ = record { move_number = n; shape = CommandLine; label = c.in_ok-command_label.field-0; reports = c.new.result } in (
      c.in_ok-obey_each.ensures o (fs ∙ sym (ap visible c.functions-functions.ensures)) ss h,
      row_added n ss (command_item k) row c.args.rows.now c.push.new.self c.in_ok-push.ensures.items
          (row_is n ss (command_item k) row refl refl c.in_ok-command_label.ensures (ap (map report_seen) c.new.ensures.items ∙ sym (no_reports 1 ss k))),
    )

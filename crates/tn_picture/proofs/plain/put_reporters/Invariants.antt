use Rattle.std.proofs.Common.{◌≡◌, ◌++◌, map, drop}
use Rattle.def_picture.specs.Plain.{reporters_text}
use Rattle.tn_picture.specs.Views.{report_seen}
use Rattle.tn_picture.proofs.plain.put_reporters.Given as goal

abbrev pub invariant-loop-report : goal.invariant-loop-report
invariant-loop-report g l =
    l.out.items ++ reporters_text (map report_seen (drop l.report-index l.reports)) ≡ l.fn.out.items ++ reporters_text (map report_seen l.reports)

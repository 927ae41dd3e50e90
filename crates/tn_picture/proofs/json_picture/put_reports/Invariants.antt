use Rattle.std.proofs.Common.{◌≡◌, ◌++◌, ◌∷◌, map, drop}
use Rattle.json.specs.Token.{begin_array}
use Rattle.json.specs.Tree.{items_tokens}
use Rattle.def_formats.specs.JsonRows.{items_from}
use Rattle.def_picture.specs.JsonPicture.{report_value}
use Rattle.tn_picture.specs.Views.{report_seen}
use Rattle.tn_picture.proofs.json_picture.put_reports.Given as goal

-- what was written and the messages that are left are all of them
abbrev pub invariant-loop-report : goal.invariant-loop-report
invariant-loop-report g l =
    (l.writer.tokens ++ items_tokens (items_from (map report_value (map report_seen (drop l.report-index l.reports))))
    ≡ l.fn.writer.tokens ++ begin_array ∷ items_tokens (items_from (map report_value (map report_seen l.reports))))
    × (l.writer.before ≡ l.fn.writer.before)

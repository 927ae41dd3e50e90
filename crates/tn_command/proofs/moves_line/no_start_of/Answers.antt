use Rattle.std.proofs.Common.{map, ap, ◌∙◌}
use Rattle.def_notice.specs.MovesTexts.{no_start}
use Rattle.tn_command.proofs.EntryNames.{names_of_entries}
use Rattle.tn_command.proofs.moves_line.no_start_of.Goals as goal

pub returns : goal.returns
returns c = ap (no_start c.args.name.now) (names_of_entries c.entries-entries.result.now ∙ ap (map (λ e. e.function_name)) c.entries-entries.ensures.value)

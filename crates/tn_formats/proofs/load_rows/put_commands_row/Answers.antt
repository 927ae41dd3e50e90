use Rattle.std.proofs.Common.{◌∙◌, ◌++◌, [], ◌∷◌, codes, refl, ap}
use Rattle.std.proofs.lemmas.Result.{IfOk-weaker}
use Rattle.def_formats.specs.JsonRows.{number_value}
use Rattle.def_formats.specs.LoadRows.{commands_row}
use Rattle.tn_formats.proofs.MemberTokens.{row_written}
use Rattle.tn_formats.proofs.load_rows.put_commands_row.Goals as goal

pub returns : goal.returns
returns g c =
    let row = row_written c.in_ok-writer.writer c.put_number_member.new.writer [] ((codes "commands", number_value c.args.count) ∷ []) (commands_row c.args.count) c.in_ok-writer.ensures.before c.in_ok-writer.ensures.tokens c.in_ok-put_number_member.ensures refl in
    IfOk-weaker c.end_row.result _ _ (λ v h. h ∙ ap (λ text. c.args.out.lines.items ++ text) row) c.end_row.ensures

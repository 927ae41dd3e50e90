use Rattle.std.proofs.Common.{◌∙◌, ◌++◌, [], ◌∷◌, codes, ap}
use Rattle.std.proofs.lemmas.Result.{IfOk-weaker}
use Rattle.def_formats.specs.JsonRows.{number_value}
use Rattle.def_picture.specs.JsonPicture.{pid_value}
use Rattle.tn_formats.specs.Tokens.{json_member}
use Rattle.tn_picture.specs.JsonTokens.{span_tokens}
use Rattle.tn_picture.specs.Views.{life_seen}
use Rattle.tn_picture.proofs.JsonMembers.{three_written}
use Rattle.tn_picture.proofs.json_picture.put_life.Goals as goal

pub returns : goal.returns
returns g c =
    let life = life_seen c.args.life in
    let row = three_written c.in_ok-writer.writer c.put_pid_member.new.writer c.put_span.new.writer c.put_number_member.new.writer
    (json_member (codes "pid") (pid_value life.pid)) (span_tokens life) (json_member (codes "depth") (number_value life.depth))
    c.in_ok-writer.ensures.before c.in_ok-writer.ensures.tokens c.in_ok-put_pid_member.ensures c.in_ok-put_span.ensures c.in_ok-put_number_member.ensures in
    IfOk-weaker c.end_row.result _ _ (λ v h. h ∙ ap (λ text. c.args.out.lines.items ++ (text ++ 10 ∷ [])) row) c.end_row.ensures

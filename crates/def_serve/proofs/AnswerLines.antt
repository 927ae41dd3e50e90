-- An answer and an error are one line each.
use Rattle.std.proofs.Common.{false}
use Rattle.json.specs.Tree.{json_tokens}
use Rattle.def_notice.proofs.LineFeeds.{decimal_has_none}
use Rattle.def_serve.specs.Answers.{serve_answer_row, serve_error_row}
use Rattle.def_serve.specs.Laws.{AnswerIsALine, ErrorIsALine}
use Rattle.def_serve.proofs.JsonLines.{print_none}

pub answer_is_a_line : AnswerIsALine
answer_is_a_line status output errors =
    print_none false (json_tokens (serve_answer_row status output errors)) (tt, (tt, (decimal_has_none status, (tt, (tt, (tt, (tt, (tt, tt))))))))

pub error_is_a_line : ErrorIsALine
error_is_a_line fault = print_none false (json_tokens (serve_error_row fault)) (tt, (tt, (tt, (tt, tt))))

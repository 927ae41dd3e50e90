-- An answer and an error are read as their objects.
use Rattle.std.proofs.Common.{ap, arith}
use Rattle.std.proofs.lemmas.Str.{utf8_lossy-IsUtf8}
use Rattle.json.specs.Json.{string}
use Rattle.json.proofs.Printed.Trees.{document-print}
use Rattle.json.proofs.Printed.Decimals.{IsNumber-decimal}
use Rattle.def_serve.specs.Answers.{serve_answer_row, serve_error_row}
use Rattle.def_serve.specs.Laws.{AnswerIsRead, ErrorIsRead, TextIsKept}

pub answer_is_read : AnswerIsRead
answer_is_read status output errors small =
    document-print (serve_answer_row status output errors) (IsNumber-decimal status small, (tt, (tt, tt))) (omega arith)

pub error_is_read : ErrorIsRead
error_is_read fault = document-print (serve_error_row fault) (tt, tt) (omega arith)

pub text_is_kept : TextIsKept
text_is_kept text u = ap string (utf8_lossy-IsUtf8 text u)

-- Worked rows of summaries: outputs, and what they come to, worked out by hand.
use Rattle.std.proofs.Common.{◌≡◌, List, ℕ, codes, refl}
use Rattle.std.specs.Fmt.{digits}
use Rattle.def_formats.specs.Summaries.{summary_of}

-- one message, two commands and four moves
abbrev pub one_send : List ℕ
one_send = codes "== session s1 tracer t1\n{trace,<0.100.0>,send,{hi,1},<0.101.0>}\n== replies\n{session,s1}\n2\n== journal\n0 0 100 100\n"

one_send_summary : summary_of one_send ≡ codes "== session s1 tracer t1\nsend: messages 1, bytes 39\ntotal: messages 1, bytes 39\ngreatest: bytes 39, line 1, {trace,<0.100.0>,send,{hi,1},<0.101.0>}\n== run\ncommands: 2\nmoves: 4\n"
unfolding digits
one_send_summary = refl

-- no session, no command and no move
no_run_summary : summary_of (codes "== replies\n== journal\n\n") ≡ codes "== run\ncommands: 0\nmoves: 0\n"
unfolding digits
no_run_summary = refl

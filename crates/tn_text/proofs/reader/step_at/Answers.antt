use Rattle.std.proofs.Common.{drop, true}
use Rattle.def_text.specs.Reading.{step}
use Rattle.tn_text.specs.Stack.{read_state_of}
use Rattle.tn_text.proofs.TokenKinds.{span_token, span_kind, refused_at}
use Rattle.tn_text.proofs.reader.step_at.Goals as goal

pub returns-in-Ok : goal.returns-in-Ok
returns-in-Ok g c = λ at s.
    let bytes = c.args.bytes.now in
    let v = c.args.token in
    c.in-Ok.ensures (drop v.to bytes) s.spanned.token (span_token bytes at v s) (span_kind bytes at v s)

pub returns-in-Err : goal.returns-in-Err
returns-in-Err g c = λ at s.
    let bytes = c.args.bytes.now in
    let v = c.args.token in
    refused_at c.in-Err.error c.fault_at.result v.from (step 32 true (read_state_of c.args.progress) s.spanned.token) c.fault_at.ensures
    (c.in-Err.ensures (drop v.to bytes) s.spanned.token (span_token bytes at v s) (span_kind bytes at v s))

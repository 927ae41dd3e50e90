use Rattle.std.proofs.Common.{ap, ◌∙◌, arith}
use Rattle.std.proofs.lemmas.Result.{err_from_is_err_and}
use Rattle.tn_fun.specs.Tokens.{next_spans}
use Rattle.tn_fun.specs.FunStates.{fun_state_seen}
use Rattle.tn_fun.proofs.FunRuns.{led_nowhere, led_further, refuses, reads, too_long_text}
use Rattle.tn_fun.proofs.reader.read_fun.Goals as goal

pub returns-then-bytes-gt-MAX_TEXT : goal.returns-then-bytes-gt-MAX_TEXT
returns-then-bytes-gt-MAX_TEXT g c = too_long_text c.args.bytes.now (omega (arith, c.if-bytes-gt-MAX_TEXT.true))

pub loop-token-init : goal.loop-token-init
loop-token-init g c = record { within = omega arith; counted = tt; led = led_nowhere c.args.bytes.now }

pub loop-token-preserved : goal.loop-token-preserved
loop-token-preserved g c =
    let there = c.in-Some.ensures in
    let further = c.in_ok-state.ensures in
    record {
      within = there.within.fits;
      counted = further.1;
      led = led_further c.args.bytes.now c.loop-token.at c.in-Some.token (fun_state_seen c.args.bytes.now c.loop-token.state) c.loop-token.invariant.led there.next (fun_state_seen c.args.bytes.now c.in_ok-state.state) further.0;
    }

pub returns-in_err-state : goal.returns-in_err-state
returns-in_err-state g c =
    let there = c.in-Some.ensures in
    let p = err_from_is_err_and c.from_residual.result c.from_residual.ensures.1 in
    rw (p.1, p.2) (refuses c.args.bytes.now c.loop-token.at c.in-Some.token (fun_state_seen c.args.bytes.now c.loop-token.state) c.loop-token.invariant.led there.next c.in_err-state.field-0.0 (omega (arith, c.if-bytes-gt-MAX_TEXT.false)) c.in_err-state.ensures)

pub returns : goal.returns
returns g c =
    reads c.args.bytes.now c.loop-token.at (fun_state_seen c.args.bytes.now c.loop-token.state) c.loop-token.invariant.led (c.next_at.ensures.next ∙ ap (next_spans c.args.bytes.now) c.in_default.is) (omega (arith, c.if-bytes-gt-MAX_TEXT.false)) c.finish.result (c.finish.ensures c.args.bytes.now)

use Rattle.std.proofs.Common.{arith}
use Rattle.std.proofs.lemmas.Result.{err_from_is_err_and}
use Rattle.tn_text.specs.Stack.{read_state_of}
use Rattle.tn_text.proofs.Listing.{end_there}
use Rattle.tn_text.proofs.TokenReads.{read_more, shallow, refused_bytes, answers_refused, answers_ended}
use Rattle.tn_text.proofs.reader.read_term.Goals as goal

pub returns-in-End : goal.returns-in-End
returns-in-End g c = answers_ended c.args.bytes.now c.loop-at.at (read_state_of c.loop-at.progress) c.finish.result (omega arith) c.loop-at.invariant.read c.in-End.ensures c.finish.ensures

pub returns-in-Bad : goal.returns-in-Bad
returns-in-Bad g c = refused_bytes c.args.bytes.now c.loop-at.at c.in-Bad.from (read_state_of c.loop-at.progress) (omega arith) c.loop-at.invariant.read c.in-Bad.ensures

pub step_at-requires-clause-shallow : goal.step_at-requires-clause-shallow
step_at-requires-clause-shallow g c = shallow c.args.bytes.now c.loop-at.at (read_state_of c.loop-at.progress) c.loop-at.invariant.read

pub returns-in_err-progress-in-Token : goal.returns-in_err-progress-in-Token
returns-in_err-progress-in-Token g c =
    let there = c.in-Token.ensures in
    let p = err_from_is_err_and c.from_residual.result c.from_residual.ensures.1 in
    rw (p.1, p.2) (answers_refused c.args.bytes.now c.loop-at.at c.in-Token.token (read_state_of c.loop-at.progress) c.in_err-progress-in-Token.field-0.0 (omega arith) c.loop-at.invariant.read there (c.in_err-progress-in-Token.ensures c.loop-at.at there))

pub loop-at-preserved : goal.loop-at-preserved
loop-at-preserved g c =
    let there = c.in-Token.ensures in
    record {
      within = there.fits;
      read = read_more c.args.bytes.now c.loop-at.at c.in-Token.token (read_state_of c.loop-at.progress) (read_state_of c.in_ok-progress-in-Token.progress) c.loop-at.invariant.read there (c.in_ok-progress-in-Token.ensures c.loop-at.at there);
    }

pub returns : goal.returns
returns g c =
    answers_ended c.args.bytes.now c.loop-at.at (read_state_of c.loop-at.progress) c.finish-2.result (omega arith) c.loop-at.invariant.read (end_there c.args.bytes.now c.loop-at.at (omega arith)) c.finish-2.ensures

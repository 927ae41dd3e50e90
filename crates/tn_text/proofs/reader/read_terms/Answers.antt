use Rattle.std.proofs.Common.{map, arith}
use Rattle.std.proofs.lemmas.Result.{err_from_is_err_and}
use Rattle.tn_term.specs.Views.{tree_of}
use Rattle.def_text.specs.ScriptReading.{reading}
use Rattle.tn_text.specs.Stack.{read_state_of}
use Rattle.tn_text.proofs.Listing.{end_there}
use Rattle.tn_text.proofs.Scripts.{script_more, script_shallow, script_refused_bytes, script_answers_refused, script_answers_ended}
use Rattle.tn_text.proofs.reader.read_terms.Goals as goal

pub returns-in-End : goal.returns-in-End
returns-in-End g c =
    let s = reading (map tree_of c.loop-at.terms.items) (read_state_of c.loop-at.progress) in
    script_answers_ended c.args.bytes.now c.loop-at.at s c.all_finished.result (omega arith) c.loop-at.invariant.read c.in-End.ensures c.all_finished.ensures

pub returns-in-Bad : goal.returns-in-Bad
returns-in-Bad g c =
    let s = reading (map tree_of c.loop-at.terms.items) (read_state_of c.loop-at.progress) in
    script_refused_bytes c.args.bytes.now c.loop-at.at c.in-Bad.from s (omega arith) c.loop-at.invariant.read c.in-Bad.ensures

pub script_step_at-requires-clause-shallow : goal.script_step_at-requires-clause-shallow
script_step_at-requires-clause-shallow g c = script_shallow c.args.bytes.now c.loop-at.at (map tree_of c.loop-at.terms.items) (read_state_of c.loop-at.progress) c.loop-at.invariant.read

pub returns-in_err-progress-in-Token : goal.returns-in_err-progress-in-Token
returns-in_err-progress-in-Token g c =
    let there = c.in-Token.ensures in
    let s = reading (map tree_of c.loop-at.terms.items) (read_state_of c.loop-at.progress) in
    let p = err_from_is_err_and c.from_residual.result c.from_residual.ensures.1 in
    rw (p.1, p.2) (script_answers_refused c.args.bytes.now c.loop-at.at c.in-Token.token s c.in_err-progress-in-Token.field-0.0 (omega arith) c.loop-at.invariant.read there (c.in_err-progress-in-Token.ensures c.loop-at.at there))

pub loop-at-preserved : goal.loop-at-preserved
loop-at-preserved g c =
    let there = c.in-Token.ensures in
    let s = reading (map tree_of c.loop-at.terms.items) (read_state_of c.loop-at.progress) in
    let z = reading (map tree_of c.script_step_at.new.terms.items) (read_state_of c.in_ok-progress-in-Token.progress) in
    record {
      within = there.fits;
      read = script_more c.args.bytes.now c.loop-at.at c.in-Token.token s z c.loop-at.invariant.read there (c.in_ok-progress-in-Token.ensures c.loop-at.at there);
    }

pub returns : goal.returns
returns g c =
    let s = reading (map tree_of c.loop-at.terms.items) (read_state_of c.loop-at.progress) in
    script_answers_ended c.args.bytes.now c.loop-at.at s c.all_finished-2.result (omega arith) c.loop-at.invariant.read (end_there c.args.bytes.now c.loop-at.at (omega arith)) c.all_finished-2.ensures

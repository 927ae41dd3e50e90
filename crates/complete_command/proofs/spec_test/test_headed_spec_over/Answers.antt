use Rattle.complete_command.proofs.SameSpecTests.{headed_is_one, same_spec_test_failed, same_spec_test_flushed, same_spec_test_gain, same_spec_test_status, tried_alike}
use Rattle.complete_command.proofs.spec_test.test_headed_spec_over.Goals as goal

pub returns-clause-answer : goal.returns-clause-answer
returns-clause-answer g c = tried_alike _ _ (headed_is_one c.args.question.now c.args.format) _ _ _ _ _ c.test_headed_spec_over-first.result.answer c.test_headed_spec_over-second.result.answer c.test_headed_spec_over-first.ensures.done c.test_headed_spec_over-second.ensures.done

pub returns-clause-status : goal.returns-clause-status
returns-clause-status g c = same_spec_test_status _ _ c.test_headed_spec_over-first.result.answer c.test_headed_spec_over-second.result.answer c.test_headed_spec_over-first.ensures.answer c.test_headed_spec_over-second.ensures.answer

pub returns-clause-written : goal.returns-clause-written
returns-clause-written g c =
    same_spec_test_gain _ _ (headed_is_one c.args.question.now c.args.format) _ _ _ _ _ c.test_headed_spec_over-first.result.answer c.test_headed_spec_over-second.result.answer c.requires.reported c.test_headed_spec_over-first.ensures.done c.test_headed_spec_over-second.ensures.done

pub returns-clause-writer : goal.returns-clause-writer
returns-clause-writer g c =
    same_spec_test_failed _ _ (headed_is_one c.args.question.now c.args.format) _ _ _ _ _ c.test_headed_spec_over-first.result.answer c.test_headed_spec_over-second.result.answer c.requires.failed c.test_headed_spec_over-first.ensures.done c.test_headed_spec_over-second.ensures.done

pub returns-clause-flushed : goal.returns-clause-flushed
returns-clause-flushed g c =
    same_spec_test_flushed _ _ (headed_is_one c.args.question.now c.args.format) _ _ _ _ _ c.test_headed_spec_over-first.result.answer c.test_headed_spec_over-second.result.answer c.requires.flushed c.test_headed_spec_over-first.ensures.done c.test_headed_spec_over-second.ensures.done

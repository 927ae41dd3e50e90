-- Runs whose listings alone have more bytes than the output may have.
use Rattle.std.proofs.Common.{◌≡◌, ℕ, ◌<◌, List, Result, Err, IsErrOf, refl, ap, arith}
use Rattle.std.specs.Result.{IsErrAnd}
use Rattle.std.proofs.lemmas.Result.{err_from_is_err_and}
use Rattle.def_script.specs.Program.{Program}
use Rattle.def_run.specs.Listing.{program_output}
use Rattle.tn_trace.specs.Transcripts.{listing_bytes}
use Rattle.tn_trace.specs.declared.transcript_fault.TranscriptFault.{TranscriptFault}
use Rattle.tn_trace.specs.declared.transcript_fault.TranscriptFault.TheVariants.{TooLong}
use Rattle.tn_listing.proofs.OutputLengths.{output_has_the_listings}
use Rattle.tn_moves.specs.Schedules.{ArePicks, schedule_seen}
use Rattle.tn_moves.specs.declared.schedule.Schedule.{Schedule}
use Rattle.tn_run.specs.Answers.{run_by}
use Rattle.tn_run.specs.Jobs.{GivesMore}
use Rattle.tn_run.specs.declared.outcome.Outcome.TheVariants.{Listed}

-- a fault that is handed on says so only where it did
pub long_before : {X Y : Type 0} (fault : TranscriptFault) (result : Result X TranscriptFault) → IsErrAnd result (λ e. e ≡ fault) → IsErrOf result TooLong → IsErrOf {T = Y} (Err fault) TooLong
long_before fault result on is =
    let found = err_from_is_err_and result on in
    let named : fault ≡ TooLong = cc (found.1, found.2, is) in
    ap Err named

-- of the picks that are asked
pub longer_run : (most : ℕ) (schedule : Schedule) (p : Program) (picks : List ℕ) → ArePicks (schedule_seen schedule) p picks → most < listing_bytes p picks → GivesMore most (run_by schedule) p
longer_run most schedule p picks given long = record {
  outcome = Listed;
  output = program_output p picks;
  given = record { picks = picks; given = given; listing = refl };
  exceeds = omega (arith, long, output_has_the_listings p picks);
}

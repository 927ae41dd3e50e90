use Rattle.std.proofs.Common.{decimal, ap, sym, ◌∙◌}
use Rattle.std.proofs.Output.{has_written_of_eq}
use Rattle.def_notice.specs.FaultTexts.{fault_text}
use Rattle.tn_notice.specs.FaultViews.{command_fault_seen}
use Rattle.tn_notice.proofs.Pieces.{pieces_of_output, pieces_of_listings, pieces_of_expectation}
use Rattle.tn_notice.proofs.fault.CommandFaultDisplay.fmt.Goals as goal

pub returns-in-Bytes-clause-writes : goal.returns-in-Bytes-clause-writes
returns-in-Bytes-clause-writes g c p ok =
    let text = ap (λ x. fault_text (command_fault_seen x)) c.in-Bytes.is ∙ pieces_of_output (decimal c.in-Bytes.bytes) c.in-Bytes.most in
    has_written_of_eq _ _ _ _ _ (sym text) (c.write-in-Bytes.ensures.writes p ok)

pub returns-in-Listings-clause-writes : goal.returns-in-Listings-clause-writes
returns-in-Listings-clause-writes g c p ok =
    let text = ap (λ x. fault_text (command_fault_seen x)) c.in-Listings.is ∙ pieces_of_listings c.in-Listings.most in
    has_written_of_eq _ _ _ _ _ (sym text) (c.write-in-Listings.ensures.writes p ok)

pub returns-in-Expectation-clause-writes : goal.returns-in-Expectation-clause-writes
returns-in-Expectation-clause-writes g c p ok =
    let text = ap (λ x. fault_text (command_fault_seen x)) c.in-Expectation.is ∙ pieces_of_expectation c.in-Expectation.most in
    has_written_of_eq _ _ _ _ _ (sym text) (c.write-in-Expectation.ensures.writes p ok)

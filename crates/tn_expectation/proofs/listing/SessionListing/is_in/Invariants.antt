use Rattle.std.proofs.Common.{◌≡◌, length}
use Rattle.def_formats.specs.Lines.{text_lines}
use Rattle.tn_expectation.specs.Expectations.{has_listing}
use Rattle.tn_expectation.proofs.listing.SessionListing.is_in.Given as goal

-- what is left has the listing just where the whole has it
abbrev pub invariant-loop-rest : goal.invariant-loop-rest
invariant-loop-rest l =
    has_listing l.self.head.now (text_lines l.rest) (text_lines l.self.lines.now) ≡ has_listing l.self.head.now (text_lines l.output) (text_lines l.self.lines.now)

abbrev pub decreases-loop-rest : goal.decreases-loop-rest
decreases-loop-rest l = length l.rest

-- What the output of a request must be, by the words of the command line (own).
use Rattle.std.specs.Prelude.{◌≡◌, Option, option_map, MatchOption, Some, None, IsSomeAnd, ◌⊎◌}
use Rattle.tn_expectation.specs.declared.expectation.Expectation.{Expectation}
use Rattle.tn_expectation.specs.declared.listing.SessionListing.{SessionListing}
use Rattle.tn_request.specs.declared.output.ExpectedTexts.{ExpectedTexts}
use Rattle.tn_request.specs.declared.request.ExpectationArgs.{ExpectationArgs}
use Rattle.tn_request.specs.declared.request.SessionArgs.{SessionArgs}

-- the listing of the session of this name, with the lines that were read
pub record IsListingAsked (texts : ExpectedTexts) (words : SessionArgs) (listing : SessionListing) : Type 0 where
  pub name : listing.name ≡ words.name
  pub head : listing.head.now ≡ texts.head.items
  pub lines : option_map (λ v. v.items) texts.listing ≡ Some listing.lines.now

-- where a session is named, and its listing was read
abbrev pub IsSessionAsked : ExpectationArgs → ExpectedTexts → Option SessionListing → Type 0
IsSessionAsked words texts o =
    MatchOption o ((words.session ≡ None) ⊎ (texts.listing ≡ None)) (λ listing. IsSomeAnd words.session (λ s. IsListingAsked texts s listing))

-- the output that was read, the lines that it must have and must not have, and whether each command must be done
pub record IsExpectationAsked (words : ExpectationArgs) (texts : ExpectedTexts) (e : Expectation) : Type 0 where
  pub output : option_map (λ bytes. bytes.now) e.output ≡ option_map (λ v. v.items) texts.output
  pub session : IsSessionAsked words texts e.session
  pub lines : e.lines ≡ words.lines
  pub no_lines : e.no_lines ≡ words.no_lines
  pub strict : e.strict ≡ words.strict

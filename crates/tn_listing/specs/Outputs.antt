-- The parts of an output, and what adds them to a text.
use Rattle.std.specs.Prelude.{◌≡◌, ◌≤◌, ℕ, List, ◌++◌, length, Option, Result, IfOk, option_to_list, slice_get}
use Rattle.std.specs.Option.{option_map}
use Rattle.std.specs.declared.vec.Vec.{Vec}
use Rattle.def_script.specs.Program.{Program}
use Rattle.def_script.specs.Script.{creations}
use Rattle.def_run.specs.Listing.{messages, listings_text, program_output}
use Rattle.tn_program.specs.declared.parts.Program as code
use Rattle.tn_program.specs.Views.{program_of}
use Rattle.tn_trace.specs.Transcripts.{TranscriptValue, transcript_of, listing_bytes}

-- the new text is the old one with these bytes after it
abbrev pub AddsText : {A : Type 0} → List ℕ → Vec ℕ A → Vec ℕ A → Type 0
AddsText bytes old new = new.items ≡ old.items ++ bytes

-- the listing of the session with this number, from 0; nothing where there is none
abbrev pub listing_numbered : Program → List ℕ → ℕ → List ℕ
listing_numbered p picks n = listings_text (λ s. messages s p picks) (option_to_list (slice_get (creations p.commands) n))

-- the listings of all sessions
abbrev pub all_listings : Program → List ℕ → List ℕ
all_listings p picks = listings_text (λ s. messages s p picks) (creations p.commands)

-- an output has at least as many bytes as the lines of all sessions together
abbrev pub OutputHasTheListings : Type 0
OutputHasTheListings = (p : Program) (picks : List ℕ) → listing_bytes p picks ≤ length (program_output p picks)

-- this is so of the program and of whichever picks of it the transcript is of
abbrev pub OnItsPicks : {A : Type 0} → code.Program A → TranscriptValue → (Program → List ℕ → Type 0) → Type 0
OnItsPicks p t IsSo = (picks : List ℕ) → t ≡ transcript_of (program_of p) picks → IsSo (program_of p) picks

-- after a call that went well the listing with this number stands after the old text, where these are its lines
abbrev pub AppendsListing : {A X E : Type 0} → code.Program A → ℕ → Option (Vec ℕ A) → Result X E → Vec ℕ A → Vec ℕ A → Type 0
AppendsListing p n lines result old new = (picks : List ℕ) →
    option_map (λ v. v.items) lines ≡ slice_get (transcript_of (program_of p) picks).listings n →
    IfOk result (λ _. AddsText (listing_numbered (program_of p) picks n) old new)

-- the transcript has the replies and the journal that it had, whichever lines have left it
abbrev pub SaysTheRest : TranscriptValue → TranscriptValue → Type 0
SaysTheRest old new = (new.replied ≡ old.replied) × (new.journal ≡ old.journal)

-- a call that went well added this text of the program and of whichever picks of it the transcript is of
abbrev pub Outputs : {A X E : Type 0} → (Program → List ℕ → List ℕ) → code.Program A → TranscriptValue → Result X E → Vec ℕ A → Vec ℕ A → Type 0
Outputs bytes p t result old new = OnItsPicks p t (λ q picks. IfOk result (λ _. AddsText (bytes q picks) old new))

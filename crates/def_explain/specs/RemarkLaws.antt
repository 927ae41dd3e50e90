-- What is promised of remarks (own).
-- Depends on remarks and on the replies of a run.
use Rattle.std.specs.Prelude.{◌≡◌, ◌≢◌, ◌↔◌, ◌⊎◌, ℕ, suc, true, false, List, [], ◌∷◌, ◌++◌, slice_get, Some}
use Rattle.std.specs.List.{AllByRecursion}
use Rattle.def_script.specs.Program.{Program}
use Rattle.def_run.specs.Run.{moves}
use Rattle.def_run.specs.Listing.{replies, lines_of}
use Rattle.def_explain.specs.EmptyScripts.{HasNoForms, is_gap}
use Rattle.def_explain.specs.CommandReasons.{CommandReason, reply_of}
use Rattle.def_explain.specs.Remarks.{Remark, run_reasons, remarks, has_traps, has_reason_line}

-- it is one of these
abbrev pub IsRemarked : Remark → List Remark → Type 0
IsRemarked r [] = ⊥
IsRemarked r (q ∷ qs) = (r ≡ q) ⊎ IsRemarked r qs

-- a command is remarked of exactly where it has a reason, which is that
abbrev pub RemarkIsOfReason : Type 0
RemarkIsOfReason =
    (p : Program) (picks : List ℕ) (n : ℕ) (r : CommandReason)
    → (slice_get (run_reasons p picks) n ≡ Some (Some r)) ↔ IsRemarked (record { command = suc n; reason = r }) (remarks p picks)

-- a command that is remarked of has the reply of its reason
abbrev pub RemarkHasItsReply : Type 0
RemarkHasItsReply =
    (p : Program) (picks : List ℕ) (n : ℕ) (r : CommandReason)
    → slice_get (run_reasons p picks) n ≡ Some (Some r) → slice_get (replies p picks) n ≡ Some (reply_of r)

-- where no reply's line begins so, and no specification has a trap, nothing is remarked
abbrev pub NoReasonLineNoRemark : Type 0
NoReasonLineNoRemark =
    (p : Program) (picks : List ℕ) → has_reason_line true (lines_of (replies p picks)) ≡ false → has_traps p ≡ false → remarks p picks ≡ []

-- the pick is no command
abbrev pub TakesNoCommand : ℕ → Type 0
TakesNoCommand pick = pick ≢ 0

-- after the last command nothing is remarked
abbrev pub NothingAfterCommands : Type 0
NothingAfterCommands = (p : Program) (picks rest : List ℕ) → AllByRecursion TakesNoCommand rest → remarks p (picks ++ rest) ≡ remarks p picks

-- the same is remarked by the picks that moved
abbrev pub MovesHaveTheRemarks : Type 0
MovesHaveTheRemarks = (p : Program) (picks : List ℕ) → remarks p (moves p picks) ≡ remarks p picks

-- a script has no forms exactly where its text is blanks and comments
abbrev pub EmptyScriptIsGap : Type 0
EmptyScriptIsGap = (bytes : List ℕ) → (is_gap false bytes ≡ true) ↔ HasNoForms bytes

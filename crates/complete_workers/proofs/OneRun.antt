-- The bytes of a script and what is asked of it have one outcome and one output.
use Rattle.std.proofs.Common.{◌≡◌, ◌∙◌, ◌⊎◌, inl, inr, ℕ, ◌≤◌, List, length, IfSome, Result, Ok, Err, refl, sym, ap, ap₂, subst, arith}
use Rattle.def_script.specs.Program.{Program}
use Rattle.def_script.specs.Rules as rules
use Rattle.def_script.specs.Script as script
use Rattle.def_script.specs.Script.{Refusal, IsScript, IsRefused}
use Rattle.def_script.proofs.OneScript.{not_both, one_program, refused_once}
use Rattle.def_run.specs.Listing.{program_output}
use Rattle.def_run.specs.Output.{refusal_text}
use Rattle.def_run.proofs.Outputs.{picks_are_one}
use Rattle.tn_program.specs.declared.parts.Program as code
use Rattle.tn_program.specs.Views.{program_of}
use Rattle.tn_refusal.specs.Refusals.{refusal_of}
use Rattle.tn_refusal.specs.declared.refusal.Denial.{Denial}
use Rattle.tn_refusal.specs.declared.refusal.Denial.TheVariants as denial
use Rattle.def_moves.specs.Directives.{Directive}
use Rattle.def_moves.specs.Texts.{StandsFor}
use Rattle.def_moves.proofs.Texts.{picks_of_moves_are_one, moves_fault_is_alone, moves_fault_is_one}
use Rattle.tn_moves.specs.Readings.{IsMovesRefusal}
use Rattle.tn_moves.specs.Schedules.{ScheduleView, by_picks, by_moves, by_round, by_control_first, by_workers, ArePicks, AreBadMoves, HasPicks}
use Rattle.tn_moves.specs.declared.text.MovesRefusal.{MovesRefusal}
use Rattle.tn_moves.specs.declared.text.MovesRefusal.TheVariants as moves
use Rattle.tn_run.specs.Answers.{IsRunListing, run_for}
use Rattle.tn_run.specs.Jobs.{Gives, OfScript}
use Rattle.tn_run.specs.Scripts.{IsAccepted}
use Rattle.tn_run.proofs.JobLemmas.{refused_by}
use Rattle.tn_run.specs.declared.outcome.Outcome.{Outcome}
use Rattle.tn_run.specs.declared.outcome.Outcome.TheVariants.{Listed, Refused}
use Rattle.tn_run.specs.declared.outcome.RunRefusal.{RunRefusal}
use Rattle.tn_run.specs.declared.outcome.RunRefusal.TheVariants.{Text, Moves}
use Rattle.tn_refusal.specs.declared.refusal.Refusal as reported
use Rattle.tn_refusal.specs.declared.refusal.Refusal.TheVariants.{TooLong, Token, TooDeep, TooLarge, Form as Shapeless, TooManyForms, Duplicate, Undeclared, NotExported, Unbound, TracerTaken, Arity, Limit, BadPicks}
use Rattle.complete_scripts.specs.Agreement.{Agree, answer_of}
use Rattle.complete_scripts.proofs.Agreements.{agree_by}
use Rattle.complete_workers.specs.Runs.{denial_seen}

-- ---- refusals

-- the code's refusal that stands for a refusal
abbrev told_of : Refusal → reported.Refusal
told_of script.too_long = TooLong
told_of (script.token at) = Token at
told_of (script.too_deep at) = TooDeep at
told_of (script.too_large at) = TooLarge at
told_of (script.form n) = Shapeless n
told_of script.too_many_forms = TooManyForms
told_of (script.broken rules.duplicate n) = Duplicate n
told_of (script.broken rules.undeclared n) = Undeclared n
told_of (script.broken rules.not_exported n) = NotExported n
told_of (script.broken rules.unbound n) = Unbound n
told_of (script.broken rules.tracer_taken n) = TracerTaken n
told_of (script.broken rules.wrong_arity n) = Arity n
told_of (script.broken rules.past_limit n) = Limit n
told_of script.bad_picks = BadPicks

told_back : (r : reported.Refusal) → told_of (refusal_of r) ≡ r
told_back TooLong = refl
told_back (Token at) = refl
told_back (TooDeep at) = refl
told_back (TooLarge at) = refl
told_back (Shapeless n) = refl
told_back TooManyForms = refl
told_back (Duplicate n) = refl
told_back (Undeclared n) = refl
told_back (NotExported n) = refl
told_back (Unbound n) = refl
told_back (TracerTaken n) = refl
told_back (Arity n) = refl
told_back (Limit n) = refl
told_back BadPicks = refl

same_refusal : (r s : reported.Refusal) → refusal_of r ≡ refusal_of s → r ≡ s
same_refusal r s e = sym (told_back r) ∙ ap told_of e ∙ told_back s

-- ---- accepted texts

abbrev ComesTo : List ℕ → Result Program reported.Refusal → Type 0
ComesTo bytes (Ok p) = IsScript bytes p
ComesTo bytes (Err r) = IsRefused bytes (refusal_of r)

one_answer : (bytes : List ℕ) (x y : Result Program reported.Refusal) → ComesTo bytes x → ComesTo bytes y → x ≡ y
one_answer bytes (Ok p) (Ok q) h i = ap Ok (one_program bytes p q h i)
one_answer bytes (Ok p) (Err r) h i = absurd (not_both bytes p (refusal_of r) h i)
one_answer bytes (Err r) (Ok p) h i = absurd (not_both bytes p (refusal_of r) i h)
one_answer bytes (Err r) (Err s) h i = ap Err (same_refusal r s (refused_once bytes (refusal_of r) (refusal_of s) h i))

comes_to : {A : Type 0} (bytes : List ℕ) (r : Result (code.Program A) Denial) → IsAccepted bytes r → IfSome (answer_of program_of denial_seen r) (ComesTo bytes)
comes_to bytes (Ok p) h = h
comes_to bytes (Err (denial.Refused r)) h = h
comes_to bytes (Err denial.OutOfMemory) h = tt

pub same_accepted : {A : Type 0} (bytes other : List ℕ) (r q : Result (code.Program A) Denial) → bytes ≡ other → IsAccepted bytes r → IsAccepted other q
    → Agree (answer_of program_of denial_seen r) (answer_of program_of denial_seen q)
same_accepted {A} bytes other r q e h i =
    agree_by (ComesTo bytes) (one_answer bytes) _ _ (comes_to bytes r h) (comes_to bytes q (subst (λ b. IsAccepted {A = A} b q) (sym e) i))

-- ---- texts of moves

pub one_moves_refusal : (p : Program) (text : List ℕ) (r s : MovesRefusal) → IsMovesRefusal p text r → IsMovesRefusal p text s → r ≡ s
one_moves_refusal p text moves.TooLong moves.TooLong h i = refl
one_moves_refusal p text moves.TooLong (moves.NoDirective at) h i = let short = i.0 in absurd (omega (arith, h, short))
one_moves_refusal p text (moves.NoDirective at) moves.TooLong h i = let short = h.0 in absurd (omega (arith, i, short))
one_moves_refusal p text (moves.NoDirective at) (moves.NoDirective other) h i = ap moves.NoDirective (moves_fault_is_one p text at other h.1 i.1)

pub no_directives : (p : Program) (text : List ℕ) (ds : List Directive) (r : MovesRefusal) → length text ≤ 1048576 → StandsFor p text ds → IsMovesRefusal p text r → ⊥
no_directives p text ds moves.TooLong short stands h = absurd (omega (arith, h, short))
no_directives p text ds (moves.NoDirective at) short stands h = moves_fault_is_alone p text at ds h.1 stands

-- ---- schedules

-- the picks that are asked are given
pub given : (a : ScheduleView) (p : Program) (picks : List ℕ) → ArePicks a p picks → HasPicks a
given (by_picks text) p picks h = (picks, h)
given (by_moves text) p picks h = tt
given (by_round limit) p picks h = tt
given (by_control_first limit) p picks h = tt
given (by_workers made) p picks h = tt

pub one_picks : (a : ScheduleView) (p : Program) (picks others : List ℕ) → ArePicks a p picks → ArePicks a p others → picks ≡ others
one_picks (by_picks text) p picks others h i = picks_are_one text picks others h i
one_picks (by_moves text) p picks others h i = picks_of_moves_are_one p text picks others h i
one_picks (by_round limit) p picks others h i = h ∙ sym i
one_picks (by_control_first limit) p picks others h i = h ∙ sym i
one_picks (by_workers made) p picks others h i = h.0 ∙ sym i.0

-- where moves are refused, no text of picks is asked for
bad_has : (a : ScheduleView) (p : Program) (r : MovesRefusal) → AreBadMoves a p r → HasPicks a
bad_has (by_picks text) p r h = absurd h
bad_has (by_moves text) p r h = tt
bad_has (by_round limit) p r h = absurd h
bad_has (by_control_first limit) p r h = absurd h
bad_has (by_workers made) p r h = absurd h

pub not_bad : (a : ScheduleView) (p : Program) (picks : List ℕ) (r : MovesRefusal) → ArePicks a p picks → AreBadMoves a p r → ⊥
not_bad (by_picks text) p picks r h i = i
not_bad (by_moves text) p picks r h i = no_directives p text h.directives r h.short h.stands i
not_bad (by_round limit) p picks r h i = i
not_bad (by_control_first limit) p picks r h i = i
not_bad (by_workers made) p picks r h i = i

pub one_bad : (a : ScheduleView) (p : Program) (r s : MovesRefusal) → AreBadMoves a p r → AreBadMoves a p s → r ≡ s
one_bad (by_picks text) p r s h i = absurd h
one_bad (by_moves text) p r s h i = one_moves_refusal p text r s h i
one_bad (by_round limit) p r s h i = absurd h
one_bad (by_control_first limit) p r s h i = absurd h
one_bad (by_workers made) p r s h i = absurd h

-- ---- runs

-- why a run is refused: there are no picks, or the bytes are no script
abbrev Cause : List ℕ → ScheduleView → Refusal → Type 0
Cause bytes a r = ((HasPicks a → ⊥) × (r ≡ script.bad_picks)) ⊎ (HasPicks a × IsRefused bytes r)

one_cause : (bytes : List ℕ) (a : ScheduleView) (r s : Refusal) → Cause bytes a r → Cause bytes a s → r ≡ s
one_cause bytes a r s (inl h) (inl i) = h.1 ∙ sym i.1
one_cause bytes a r s (inl h) (inr i) = absurd (h.0 i.0)
one_cause bytes a r s (inr h) (inl i) = absurd (i.0 h.0)
one_cause bytes a r s (inr h) (inr i) = refused_once bytes r s h.1 i.1

abbrev IsListingOf : List ℕ → ScheduleView → List ℕ → Type 0
IsListingOf bytes a output = OfScript bytes (λ p. IsRunListing a p output)

not_caused : (bytes : List ℕ) (a : ScheduleView) (p : Program) (r : Refusal) → IsScript bytes p → HasPicks a → Cause bytes a r → ⊥
not_caused bytes a p r accepted has (inl i) = i.0 has
not_caused bytes a p r accepted has (inr i) = not_both bytes p r accepted i.1

one_listing : (bytes : List ℕ) (a : ScheduleView) (x y : List ℕ) → IsListingOf bytes a x → IsListingOf bytes a y → x ≡ y
one_listing bytes a x y h i =
    let program : i.program ≡ h.program = one_program bytes i.program h.program i.accepted h.accepted in
    let picks : h.output.picks ≡ i.output.picks = one_picks a h.program h.output.picks i.output.picks h.output.given (subst (λ p. ArePicks a p i.output.picks) program i.output.given) in
    h.output.listing ∙ ap₂ program_output (sym program) picks ∙ sym i.output.listing

-- a run is refused for a text, or for its moves
cause_of : (bytes : List ℕ) (a : ScheduleView) (r : reported.Refusal) (x : List ℕ) → Gives (run_for a) bytes (Refused (Text r)) x → Cause bytes a (refusal_of r)
cause_of bytes a r x h = refused_by (HasPicks a) bytes (refusal_of r) h.0

abbrev IsBadRun : List ℕ → ScheduleView → MovesRefusal → Type 0
IsBadRun bytes a r = OfScript bytes (λ p. AreBadMoves a p r)

bad_run : (bytes : List ℕ) (a : ScheduleView) (r : MovesRefusal) (x : List ℕ) → Gives (run_for a) bytes (Refused (Moves r)) x → IsBadRun bytes a r
bad_run bytes a r x h = record { program = h.program; accepted = h.accepted; output = h.output.0 }

-- no run is of a script with such picks and refused
pub not_refused : (bytes : List ℕ) (a : ScheduleView) (p : Program) (picks : List ℕ) (r : RunRefusal) (y : List ℕ) → IsScript bytes p → ArePicks a p picks → Gives (run_for a) bytes (Refused r) y → ⊥
not_refused bytes a p picks (Text r) y accepted asked h = not_caused bytes a p (refusal_of r) accepted (given a p picks asked) (cause_of bytes a r y h)
not_refused bytes a p picks (Moves r) y accepted asked h = not_bad a p picks r asked (subst (λ q. AreBadMoves a q r) (one_program bytes h.program p h.accepted accepted) h.output.0)

not_both_refusals : (bytes : List ℕ) (a : ScheduleView) (r : reported.Refusal) (s : MovesRefusal) (x y : List ℕ) → Gives (run_for a) bytes (Refused (Text r)) x → Gives (run_for a) bytes (Refused (Moves s)) y → ⊥
not_both_refusals bytes a r s x y h i = not_caused bytes a i.program (refusal_of r) i.accepted (bad_has a i.program s i.output.0) (cause_of bytes a r x h)

-- it has one refusal
pub one_refusal : (bytes : List ℕ) (a : ScheduleView) (r s : RunRefusal) (x y : List ℕ) → Gives (run_for a) bytes (Refused r) x → Gives (run_for a) bytes (Refused s) y → (r ≡ s) × (x ≡ y)
one_refusal bytes a (Text r) (Text s) x y h i =
    let e : refusal_of r ≡ refusal_of s = one_cause bytes a (refusal_of r) (refusal_of s) (cause_of bytes a r x h) (cause_of bytes a s y i) in
    (ap Text (same_refusal r s e), h.1 ∙ ap refusal_text e ∙ sym i.1)
one_refusal bytes a (Text r) (Moves s) x y h i = absurd (not_both_refusals bytes a r s x y h i)
one_refusal bytes a (Moves r) (Text s) x y h i = absurd (not_both_refusals bytes a s r y x i h)
one_refusal bytes a (Moves r) (Moves s) x y h i =
    let program : i.program ≡ h.program = one_program bytes i.program h.program i.accepted h.accepted in
    (ap Moves (one_bad a h.program r s h.output.0 (subst (λ p. AreBadMoves a p s) program i.output.0)), h.output.1 ∙ sym i.output.1)

pub one_run : (bytes : List ℕ) (a : ScheduleView) (o u : Outcome) (x y : List ℕ) → Gives (run_for a) bytes o x → Gives (run_for a) bytes u y → (o ≡ u) × (x ≡ y)
one_run bytes a Listed Listed x y h i = (refl, one_listing bytes a x y h i)
one_run bytes a Listed (Refused s) x y h i = absurd (not_refused bytes a h.program h.output.picks s y h.accepted h.output.given i)
one_run bytes a (Refused r) Listed x y h i = absurd (not_refused bytes a i.program i.output.picks r x i.accepted i.output.given h)
one_run bytes a (Refused r) (Refused s) x y h i = let same = one_refusal bytes a r s x y h i in (ap Refused same.0, same.1)

-- a run has the picks that are asked, or there are none
with_or_without : (a : ScheduleView) (bytes : List ℕ) (r : Refusal) → Cause bytes a r → HasPicks a ⊎ (HasPicks a → ⊥)
with_or_without a bytes r (inl h) = inr h.0
with_or_without a bytes r (inr h) = inl h.0

pub refused_or_not : (a : ScheduleView) (bytes : List ℕ) (r : RunRefusal) (x : List ℕ) → Gives (run_for a) bytes (Refused r) x → HasPicks a ⊎ (HasPicks a → ⊥)
refused_or_not a bytes (Text r) x h = with_or_without a bytes (refusal_of r) (cause_of bytes a r x h)
refused_or_not a bytes (Moves r) x h = inl (bad_has a h.program r h.output.0)

pub reads_or_not : (a : ScheduleView) (bytes : List ℕ) (o : Outcome) (x : List ℕ) → Gives (run_for a) bytes o x → HasPicks a ⊎ (HasPicks a → ⊥)
reads_or_not a bytes Listed x h = inl (given a h.program h.output.picks h.output.given)
reads_or_not a bytes (Refused r) x h = refused_or_not a bytes r x h

-- ---- runs by workers

-- whatever picks workers make, the outcome is one
refused_for : (bytes made : List ℕ) (r : Refusal) → Cause bytes (by_workers made) r → IsRefused bytes r
refused_for bytes made r (inl h) = absurd (h.0 tt)
refused_for bytes made r (inr h) = h.1

refused_with : (bytes made : List ℕ) (r : reported.Refusal) (x : List ℕ) → Gives (run_for (by_workers made)) bytes (Refused (Text r)) x → IsRefused bytes (refusal_of r)
refused_with bytes made r x h = refused_for bytes made (refusal_of r) (cause_of bytes (by_workers made) r x h)

no_bad_workers : (bytes made : List ℕ) (r : MovesRefusal) (x : List ℕ) → Gives (run_for (by_workers made)) bytes (Refused (Moves r)) x → ⊥
no_bad_workers bytes made r x h = h.output.0

refusal_with : (bytes made : List ℕ) (r : RunRefusal) (x : List ℕ) → Gives (run_for (by_workers made)) bytes (Refused r) x → (s : reported.Refusal) × (r ≡ Text s) × IsRefused bytes (refusal_of s)
refusal_with bytes made (Text r) x h = (r, refl, refused_with bytes made r x h)
refusal_with bytes made (Moves r) x h = absurd (no_bad_workers bytes made r x h)

pub one_outcome : (bytes made other : List ℕ) (o u : Outcome) (x y : List ℕ) → Gives (run_for (by_workers made)) bytes o x → Gives (run_for (by_workers other)) bytes u y → o ≡ u
one_outcome bytes made other Listed Listed x y h i = refl
one_outcome bytes made other Listed (Refused s) x y h i = let refused = refusal_with bytes other s y i in absurd (not_both bytes h.program (refusal_of refused.0) h.accepted refused.2)
one_outcome bytes made other (Refused r) Listed x y h i = let refused = refusal_with bytes made r x h in absurd (not_both bytes i.program (refusal_of refused.0) i.accepted refused.2)
one_outcome bytes made other (Refused r) (Refused s) x y h i =
    let one = refusal_with bytes made r x h in
    let two = refusal_with bytes other s y i in
    ap Refused (one.1 ∙ ap Text (same_refusal one.0 two.0 (refused_once bytes (refusal_of one.0) (refusal_of two.0) one.2 two.2)) ∙ sym two.1)

-- A run is as defined.
use Rattle.std.proofs.Common.{◌≡◌, ◌∙◌, ◌⊎◌, inl, inr, ℕ, ◌<◌, ◌≤◌, List, length, ap, sym, subst, arith}
use Rattle.def_text.specs.Spelling.{LENGTH}
use Rattle.def_script.specs.Program.{Program}
use Rattle.def_script.specs.Script.{Refusal, IsRefused, bad_picks}
use Rattle.def_run.specs.Listing.{program_output}
use Rattle.def_run.specs.Picks.{SpellsPicks}
use Rattle.def_run.specs.Output.{IsOutput, IsRoundOutput, lists, refuses, refuses_picks, lists_round, refuses_round, refusal_text}
use Rattle.def_moves.specs.Outputs.{HasBadMoves, IsControlFirstOutput, IsMovesOutput, lists_control_first, lists_moves, refuses_control_first, refuses_moves, refuses_script}
use Rattle.def_moves.proofs.Texts.{moves_fault_is_alone}
use Rattle.tn_refusal.specs.Refusals.{refusal_of}
use Rattle.tn_moves.specs.Readings.{IsMovesRefusal}
use Rattle.tn_moves.specs.Schedules.{by_picks, HasPicks}
use Rattle.tn_moves.specs.declared.text.MovesRefusal.{MovesRefusal}
use Rattle.tn_moves.specs.declared.text.MovesRefusal.TheVariants.{TooLong, NoDirective}
use Rattle.tn_run.specs.declared.outcome.Outcome.TheVariants.{Listed, Refused}
use Rattle.tn_run.specs.declared.outcome.RunRefusal.TheVariants.{Text, Moves}
use Rattle.tn_run.specs.Laws.{RunIsAsDefined, MovesRunIsAsDefined, RoundIsAsDefined, ControlFirstIsAsDefined, WorkersRunAsDefined}
use Rattle.tn_run.proofs.JobLemmas.{refused_by}

abbrev Cause : Type 0 → List ℕ → Refusal → Type 0
Cause reads bytes r = ((reads → ⊥) × (r ≡ bad_picks)) ⊎ (reads × IsRefused bytes r)

refused_run : (bytes text output : List ℕ) (r : Refusal) → Cause (HasPicks (by_picks text)) bytes r → output ≡ refusal_text r → IsOutput bytes text output
refused_run bytes text output r (inl h) e = refuses_picks (λ picks spells. h.0 (picks, spells)) (e ∙ ap refusal_text h.1)
refused_run bytes text output r (inr h) e = refuses r h.0.0 h.1 h.0.1 e

pub run_is_as_defined : RunIsAsDefined
run_is_as_defined bytes text Listed output h = lists h.program h.output.picks h.accepted h.output.given h.output.listing
run_is_as_defined bytes text (Refused (Text r)) output h = refused_run bytes text output (refusal_of r) (refused_by _ bytes (refusal_of r) h.0) h.1
run_is_as_defined bytes text (Refused (Moves r)) output h = absurd h.output.0

-- where there always are picks, only the bytes are refused
refused_bytes : (bytes : List ℕ) (r : Refusal) → Cause (Unit {0}) bytes r → IsRefused bytes r
refused_bytes bytes r (inl h) = absurd (h.0 tt)
refused_bytes bytes r (inr h) = h.1

-- a text of moves that is refused says none
bad_moves : (p : Program) (text : List ℕ) (r : MovesRefusal) → IsMovesRefusal p text r → HasBadMoves p text
bad_moves p text TooLong h = λ picks m. omega (arith, h, m.short)
bad_moves p text (NoDirective at) h = λ picks m. moves_fault_is_alone p text at m.directives h.1 m.stands

pub moves_run_is_as_defined : MovesRunIsAsDefined
moves_run_is_as_defined bytes text Listed output h = lists_moves h.program h.output.picks h.accepted h.output.given h.output.listing
moves_run_is_as_defined bytes text (Refused (Text r)) output h = refuses_script (refusal_of r) (refused_bytes bytes (refusal_of r) (refused_by _ bytes (refusal_of r) h.0)) h.1
moves_run_is_as_defined bytes text (Refused (Moves r)) output h = refuses_moves h.program h.accepted (bad_moves h.program text r h.output.0) h.output.1

pub round_is_as_defined : RoundIsAsDefined
round_is_as_defined bytes limit Listed output h = lists_round h.program h.accepted (h.output.listing ∙ ap (program_output h.program) h.output.given)
round_is_as_defined bytes limit (Refused (Text r)) output h = refuses_round (refusal_of r) (refused_bytes bytes (refusal_of r) (refused_by _ bytes (refusal_of r) h.0)) h.1
round_is_as_defined bytes limit (Refused (Moves r)) output h = absurd h.output.0

pub control_first_is_as_defined : ControlFirstIsAsDefined
control_first_is_as_defined bytes limit Listed output h = lists_control_first h.program h.accepted (h.output.listing ∙ ap (program_output h.program) h.output.given)
control_first_is_as_defined bytes limit (Refused (Text r)) output h = refuses_control_first (refusal_of r) (refused_bytes bytes (refusal_of r) (refused_by _ bytes (refusal_of r) h.0)) h.1
control_first_is_as_defined bytes limit (Refused (Moves r)) output h = absurd h.output.0

pub workers_run_as_defined : WorkersRunAsDefined
workers_run_as_defined bytes text made Listed output spelt h = lists h.program h.output.picks h.accepted (subst (SpellsPicks text) (sym h.output.given.0) spelt) h.output.listing
workers_run_as_defined bytes text made (Refused (Text r)) output spelt h = refuses (refusal_of r) made (refused_bytes bytes (refusal_of r) (refused_by _ bytes (refusal_of r) h.0)) spelt h.1
workers_run_as_defined bytes text made (Refused (Moves r)) output spelt h = absurd h.output.0

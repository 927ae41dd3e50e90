-- What the code's refusals of texts of moves stand for.
-- Depends on why a text of moves is refused.
use Rattle.std.specs.Prelude.{map}
use Rattle.def_term.specs.Names.{Name}
use Rattle.def_notice.specs.MovesTexts as texts
use Rattle.tn_script.specs.declared.form.Entry.{Entry}
use Rattle.tn_notice.specs.declared.moves.MovesReason.{MovesReason}
use Rattle.tn_notice.specs.declared.moves.MovesReason.TheVariants.{NoMover, NoNumber, NoCount, NoStart, ManyStarts, NoProgram}
use Rattle.tn_notice.specs.declared.moves.BadMoves.{BadMoves}
use Rattle.tn_notice.specs.declared.moves.BadMoves.TheVariants.{TooManyBytes, NoDirective}

-- the function in which a process starts
abbrev pub entry_name : {A : Type 0} → Entry A → Name
entry_name e = e.name

abbrev pub moves_reason_seen : {A : Type 0} → MovesReason A → texts.MovesReason
moves_reason_seen (NoMover found) = texts.no_mover found.now
moves_reason_seen (NoNumber found) = texts.no_number found.now
moves_reason_seen (NoCount mover amount) = texts.no_count mover.now amount.now
moves_reason_seen (NoStart name entries) = texts.no_start name.now (map entry_name entries.now)
moves_reason_seen (ManyStarts name pids) = texts.many_starts name.now pids.now
moves_reason_seen NoProgram = texts.no_program

abbrev pub bad_moves_seen : {A : Type 0} → BadMoves A → texts.BadMoves
bad_moves_seen TooManyBytes = texts.too_many_bytes
bad_moves_seen (NoDirective line column reason) = texts.no_directive_at (record { line = line; column = column }) (moves_reason_seen reason)

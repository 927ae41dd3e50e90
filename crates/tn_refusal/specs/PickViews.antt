-- What the code's faults of picks stand for.
-- Depends on what is wrong with a text of picks.
use Rattle.def_wording.specs.PickTexts as texts
use Rattle.tn_refusal.specs.declared.picks.PickFault.{PickFault}
use Rattle.tn_refusal.specs.declared.picks.PickFault.TheVariants.{NoBytes, CarriageReturn, LineFeed, OfMoves, NoDecimal, LeadingZero, TooGreat}
use Rattle.tn_refusal.specs.declared.picks.WrongPick.{WrongPick}

abbrev pub pick_fault_seen : PickFault → texts.PickFault
pick_fault_seen NoBytes = texts.no_bytes
pick_fault_seen CarriageReturn = texts.carriage_return
pick_fault_seen LineFeed = texts.line_feed
pick_fault_seen OfMoves = texts.of_moves
pick_fault_seen NoDecimal = texts.no_decimal
pick_fault_seen LeadingZero = texts.leading_zero
pick_fault_seen TooGreat = texts.too_great

abbrev pub wrong_pick_seen : WrongPick → texts.WrongPick
wrong_pick_seen x = record { number = x.number; piece = x.piece.now; fault = pick_fault_seen x.fault }

-- What the code's faults stand for.
-- Depends on faults.
use Rattle.std.specs.Prelude.{ℕ, List, Option}
use Rattle.std.specs.Option.{option_map}
use Rattle.std.specs.declared.io.ErrorKind.{ErrorKind}
use Rattle.std.specs.declared.io.ErrorKind.TheVariants as kinds
use Rattle.def_notice.specs.FaultTexts as texts
use Rattle.tn_notice.specs.declared.fault.CommandFault.{CommandFault}
use Rattle.tn_notice.specs.declared.fault.CommandFault.TheVariants as faults
use Rattle.tn_notice.specs.declared.fault.SystemReason.{SystemReason}
use Rattle.tn_notice.specs.declared.fault.SystemReason.TheVariants as reasons

abbrev pub command_fault_seen : CommandFault → texts.FaultSaid
command_fault_seen faults.Read = texts.of_reading
command_fault_seen (faults.Write written) = texts.of_writing written
command_fault_seen faults.Memory = texts.of_memory
command_fault_seen faults.Workers = texts.of_workers
command_fault_seen (faults.Bytes bytes most) = texts.of_bytes bytes most
command_fault_seen (faults.Listings most) = texts.of_listings most
command_fault_seen (faults.Expectation most) = texts.of_expectation most

abbrev pub system_reason_seen : SystemReason → texts.SystemReason
system_reason_seen reasons.BrokenPipe = texts.broken_pipe
system_reason_seen reasons.NoMemory = texts.refused_memory
system_reason_seen (reasons.Words words) = texts.in_words words.now

abbrev pub system_reasons_seen : Option SystemReason → Option texts.SystemReason
system_reasons_seen r = option_map system_reason_seen r

-- why a call of the system failed, by the kind of its error, which has these words
abbrev pub reason_of_kind : ErrorKind → (words : List ℕ) → texts.SystemReason
reason_of_kind kinds.BrokenPipe words = texts.broken_pipe
reason_of_kind kinds.OutOfMemory words = texts.refused_memory
reason_of_kind k words = texts.in_words words

-- A fault, and the line that says it (own): the exit status is 3.
-- Depends on nothing.
use Rattle.std.specs.Prelude.{ℕ, List, ◌++◌, codes, decimal}

-- why a command has no output, or not all of it
pub data FaultSaid : Type 0 where
  -- 18: the script, the picks or the file of the output that is expected can't be read
  of_reading : FaultSaid
  -- 19: standard output took so many bytes, and no more
  of_writing : (written : ℕ) → FaultSaid
  -- the system refused memory, and while workers ran the node
  of_memory : FaultSaid
  of_workers : FaultSaid
  -- the output has so many bytes, and may have so many
  of_bytes : (bytes most : ℕ) → FaultSaid
  -- the listings alone have more bytes than the output may have
  of_listings : (most : ℕ) → FaultSaid
  -- the file of the output that is expected has more bytes than an output may have
  of_expectation : (most : ℕ) → FaultSaid

-- how many bytes the output has, and how many it may have
abbrev pub output_text : List ℕ → ℕ → List ℕ
output_text bytes most = codes "fault output: the output has " ++ bytes ++ codes " bytes, and --max-output is " ++ decimal most

-- the line of a fault
abbrev pub fault_text : FaultSaid → List ℕ
fault_text of_reading = codes "fault 18 read"
fault_text (of_writing written) = codes "fault 19 write after " ++ decimal written ++ codes " bytes"
fault_text of_memory = codes "fault memory"
fault_text of_workers = codes "fault workers"
fault_text (of_bytes bytes most) = output_text (decimal bytes) most
fault_text (of_listings most) = output_text (codes "more than " ++ decimal most) most
fault_text (of_expectation most) = codes "fault expect: the file has more than " ++ decimal most ++ codes " bytes, and --max-output is " ++ decimal most

-- why a read or a write failed
pub data SystemReason : Type 0 where
  -- whoever read the output is gone
  broken_pipe : SystemReason
  -- the system refused memory
  refused_memory : SystemReason
  -- any other, in the system's words
  in_words : List ℕ → SystemReason

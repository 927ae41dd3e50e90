-- How many messages the code's sessions sent.
-- Depends on listings, and on the code's sessions.
use Rattle.std.specs.Prelude.{◌≡◌, ◌⊎◌, ◌<◌, ◌≤◌, ℕ, if◌then◌else◌, List, [], ◌∷◌, length, Option, Some, None}
use Rattle.std.specs.Str.{bytes_eq}
use Rattle.def_term.specs.Tree.{Tree}
use Rattle.def_term.specs.Names.{Name}
use Rattle.def_script.specs.Program.{Program}
use Rattle.def_run.specs.Listing.{messages}
use Rattle.tn_trace.specs.declared.slot.Slot.{Slot}
use Rattle.tn_message_choice.specs.declared.count.Count.{Count}

-- the largest count
abbrev pub MOST : ℕ
MOST = 18446744073709551615

-- the count of so many, or the largest one of more
abbrev pub IsCountUpTo : ℕ → ℕ → Type 0
IsCountUpTo n count = (count ≤ n) × (count < MOST → count ≡ n)

-- these were counted
abbrev pub AreSoMany : Count → List Tree → Type 0
AreSoMany count ts = IsCountUpTo (length ts) count.sent

-- how many messages of the session of this name were counted
abbrev pub sent_in : {A : Type 0} → Name → List (Slot A Count) → ℕ
sent_in n [] = 0
sent_in n (s ∷ slots) = if bytes_eq n s.name then s.kept.sent else sent_in n slots

-- a message of this number, from 1, is among so many
abbrev pub HasNumber : ℕ → ℕ → Type 0
HasNumber k sent = (0 < k) × (k ≤ sent)

-- or it isn't
abbrev pub HasNoNumber : ℕ → ℕ → Type 0
HasNoNumber k sent = (k ≤ MOST) × ((k ≡ 0) ⊎ (sent < k))

-- the session sends so many messages, where they are fewer than can be counted
abbrev pub IsMessageCount : Name → Program → List ℕ → Option ℕ → Type 0
IsMessageCount n p picks None = MOST ≤ length (messages n p picks)
IsMessageCount n p picks (Some count) = (count < MOST) × (count ≡ length (messages n p picks))

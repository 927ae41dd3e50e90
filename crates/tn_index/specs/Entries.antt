-- What the entries of the index keep.
use Rattle.std.specs.Prelude.{◌≡◌, ℕ, Bool, List, Option, Some, None, reverse, slice_get, if◌then◌else◌}
use Rattle.def_term.specs.Names.{Mfa}
use Rattle.tn_term.specs.Views.{mfa_seen}
use Rattle.tn_index.specs.declared.function_setting.FunctionSetting.{FunctionSetting}
use Rattle.tn_index.specs.declared.entry.Entry.{Entry}
use Rattle.tn_index.specs.Views.{covers}
use Rattle.tn_index.specs.Newest.{newest_setting}

-- the entry is that of the function, exported or not
abbrev pub IsEntryOf : {A : Type 0} → Mfa → Bool → Entry A → Type 0
IsEntryOf f exported e = (mfa_seen e.function ≡ f) × (e.exported ≡ exported)

-- no command has set it
abbrev pub IsUnset : {A : Type 0} → Entry A → Type 0
IsUnset e = e.newest ≡ None

-- the entry, where the command at this place is the newest
abbrev pub renew : {S A : Type 0} → FunctionSetting S A → ℕ → Entry A → Entry A
renew k place e = if covers k (mfa_seen e.function) e.exported then record e { newest = Some place } else e

-- the newest of these commands for a function is the one at this place, or there is none
abbrev pub IsAtPlace : {S A : Type 0} → List (FunctionSetting S A) → Option (FunctionSetting S A) → Option ℕ → Type 0
IsAtPlace ks found None = found ≡ None
IsAtPlace {S} {A} ks found (Some place) = (k : FunctionSetting S A) × (found ≡ Some k) × (slice_get ks place ≡ Some k)

-- the entry knows the newest of these commands, of which the last is the newest
abbrev pub IsRight : {S A : Type 0} → List (FunctionSetting S A) → Entry A → Type 0
IsRight ks e = IsAtPlace ks (newest_setting (reverse ks) (mfa_seen e.function) e.exported) e.newest

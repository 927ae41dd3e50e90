-- What a process gives on, and what it keeps.
use Rattle.std.specs.Prelude.{◌≡◌, Bool}
use Rattle.def_spec.specs.Flags.{Flag, only, union, given_and_kept}
use Rattle.tn_flags.specs.Views.{flags_of}
use Rattle.tn_flags.specs.declared.flags.Flags.{Flags}

-- the pair is what the flags give and keep, where `always` and `first` say whether the two flags are among them
abbrev pub GivesAndKeeps : Flags → Bool → Bool → Flags → Flags × Flags → Type 0
GivesAndKeeps flags always first both pair =
    (a f : Flag) → flags_of both ≡ union (only a) (only f) → always ≡ flags_of flags a → first ≡ flags_of flags f →
    (flags_of pair.0, flags_of pair.1) ≡ given_and_kept a f (flags_of flags)

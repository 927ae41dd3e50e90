-- The flag `silent` alone, flag by flag.
use Rattle.std.proofs.Common.{◌≡◌, refl}
use Rattle.def_spec.specs.Flags.{Flag, only, send_flag, receive_flag, call_flag, procs_flag, silent_flag, arity_flag, set_on_spawn, set_on_first_spawn, set_on_link, set_on_first_link}
use Rattle.tn_flags.specs.Views.{flags_of}
use Rattle.tn_flags.specs.declared.flags.TheConstants.{SILENT}

one : (x : Flag) → flags_of SILENT x ≡ only silent_flag x
one send_flag = refl
one receive_flag = refl
one call_flag = refl
one procs_flag = refl
one silent_flag = refl
one arity_flag = refl
one set_on_spawn = refl
one set_on_first_spawn = refl
one set_on_link = refl
one set_on_first_link = refl

pub silent_only : flags_of SILENT ≡ only silent_flag
silent_only = λ i x. one x i

-- One flag set where none is.
use Rattle.std.proofs.Common.{◌≡◌, true, refl, ap}
use Rattle.def_spec.specs.Flags.{Flag, send_flag, receive_flag, call_flag, procs_flag, silent_flag, arity_flag, set_on_spawn, set_on_first_spawn, set_on_link, set_on_first_link, no_flags, only}
use Rattle.tn_flags.specs.declared.flags.Flags.{Flags}
use Rattle.tn_flags.specs.Views.{flags_of}

call_set : (s : Flags) → flags_of s ≡ no_flags → (x : Flag) → flags_of (record s { call = true }) x ≡ only call_flag x
call_set s e send_flag = ap (λ g. g send_flag) e
call_set s e receive_flag = ap (λ g. g receive_flag) e
call_set s e call_flag = refl
call_set s e procs_flag = ap (λ g. g procs_flag) e
call_set s e silent_flag = ap (λ g. g silent_flag) e
call_set s e arity_flag = ap (λ g. g arity_flag) e
call_set s e set_on_spawn = ap (λ g. g set_on_spawn) e
call_set s e set_on_first_spawn = ap (λ g. g set_on_first_spawn) e
call_set s e set_on_link = ap (λ g. g set_on_link) e
call_set s e set_on_first_link = ap (λ g. g set_on_first_link) e

pub only_call : (s : Flags) → flags_of s ≡ no_flags → flags_of (record s { call = true }) ≡ only call_flag
only_call s e = λ i x. call_set s e x i

send_set : (s : Flags) → flags_of s ≡ no_flags → (x : Flag) → flags_of (record s { send = true }) x ≡ only send_flag x
send_set s e send_flag = refl
send_set s e receive_flag = ap (λ g. g receive_flag) e
send_set s e call_flag = ap (λ g. g call_flag) e
send_set s e procs_flag = ap (λ g. g procs_flag) e
send_set s e silent_flag = ap (λ g. g silent_flag) e
send_set s e arity_flag = ap (λ g. g arity_flag) e
send_set s e set_on_spawn = ap (λ g. g set_on_spawn) e
send_set s e set_on_first_spawn = ap (λ g. g set_on_first_spawn) e
send_set s e set_on_link = ap (λ g. g set_on_link) e
send_set s e set_on_first_link = ap (λ g. g set_on_first_link) e

pub only_send : (s : Flags) → flags_of s ≡ no_flags → flags_of (record s { send = true }) ≡ only send_flag
only_send s e = λ i x. send_set s e x i

receive_set : (s : Flags) → flags_of s ≡ no_flags → (x : Flag) → flags_of (record s { receive = true }) x ≡ only receive_flag x
receive_set s e send_flag = ap (λ g. g send_flag) e
receive_set s e receive_flag = refl
receive_set s e call_flag = ap (λ g. g call_flag) e
receive_set s e procs_flag = ap (λ g. g procs_flag) e
receive_set s e silent_flag = ap (λ g. g silent_flag) e
receive_set s e arity_flag = ap (λ g. g arity_flag) e
receive_set s e set_on_spawn = ap (λ g. g set_on_spawn) e
receive_set s e set_on_first_spawn = ap (λ g. g set_on_first_spawn) e
receive_set s e set_on_link = ap (λ g. g set_on_link) e
receive_set s e set_on_first_link = ap (λ g. g set_on_first_link) e

pub only_receive : (s : Flags) → flags_of s ≡ no_flags → flags_of (record s { receive = true }) ≡ only receive_flag
only_receive s e = λ i x. receive_set s e x i

-- The term of a command.
use Rattle.std.proofs.Common.{◌∙◌, ap}
use Rattle.std.specs.Option.{option_map}
use Rattle.def_term.specs.Tree.{atom}
use Rattle.def_script.specs.Program.{create, destroy, set_processes, set_function, set_send, set_receive}
use Rattle.def_script.specs.Shapes.{both, name_in}
use Rattle.def_explain.specs.RunLaws.{CommandTermIsRead}

pub command_term_is_read : CommandTermIsRead
command_term_is_read (create s t) h = ap (λ x. both create x (name_in (atom t))) h.0 ∙ ap (option_map (create s)) h.1
command_term_is_read (destroy s) h = ap (option_map destroy) h
command_term_is_read (set_processes s procs how flags) h = ap (option_map (λ n. set_processes n procs how flags)) h
command_term_is_read (set_function s mfa spec options) h = ap (option_map (λ n. set_function n mfa spec options)) h
command_term_is_read (set_send s spec) h = ap (option_map (λ n. set_send n spec)) h
command_term_is_read (set_receive s spec) h = ap (option_map (λ n. set_receive n spec)) h

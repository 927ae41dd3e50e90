-- What the code's processes of a command stand for.
use Rattle.std.specs.Prelude.{Option, Some, None}
use Rattle.def_term.specs.Tree.{Tree, int, atom, pid, tuple, list}
use Rattle.def_session.specs.Commands as commands
use Rattle.tn_session.specs.declared.command.Procs.{Procs}
use Rattle.tn_session.specs.declared.command.Procs.TheVariants.{One, Existing, New, All}

abbrev pub procs_seen : Procs → commands.Procs
procs_seen (One n) = commands.one_process n
procs_seen Existing = commands.existing
procs_seen New = commands.new_processes
procs_seen All = commands.all_processes

-- the process of a pid; no other term is one
abbrev pub only_pid : Tree → Option commands.Procs
only_pid (int z) = None
only_pid (atom s) = None
only_pid (pid n) = Some (commands.one_process n)
only_pid (tuple ts) = None
only_pid (list ts) = None

-- A spawn comes only where fewer than 64 processes were started.
use Rattle.std.proofs.Common.{◌≡◌, ℕ, ◌+◌, ◌<◌, Bool, List, length, Option, Some, sym, ◌∙◌, arith, subst}
use Rattle.std.proofs.lemmas.List.{length-map}
use Rattle.def_script.specs.Program.{Function}
use Rattle.def_node.specs.Process.{Process, act}
use Rattle.def_node.specs.Node.{next_pid}
use Rattle.def_node.specs.Limits.{IsOwnAct}
use Rattle.def_node.proofs.Acts.{act_own}
use Rattle.def_node.proofs.Steps.{pid_left}
use Rattle.tn_process.specs.Views.{act_seen}
use Rattle.tn_process.specs.declared.act.Act as code
use Rattle.tn_process.specs.declared.act.Act.TheVariants.{Waits, Continues, Sends, LinksTo, UnlinksFrom, Spawns, Exits}
use Rattle.tn_node.specs.Worlds.{world_of, slot_of, IsRoomFor}
use Rattle.tn_node.specs.declared.world.World.{World}

spawned_pid : {A : Type 0} (most : ℕ) (ls : List Bool) (child : Option ℕ) (size : ℕ) (r : Process) (a : code.Act A) → IsOwnAct most ls child (act_seen r a)
    → ((c : ℕ) → child ≡ Some c → size < 64) → IsRoomFor a size
spawned_pid most ls child size r Waits own room = tt
spawned_pid most ls child size r (Continues es) own room = tt
spawned_pid most ls child size r (Sends to t) own room = tt
spawned_pid most ls child size r (LinksTo n) own room = tt
spawned_pid most ls child size r (UnlinksFrom n) own room = tt
spawned_pid most ls child size r (Spawns c e) own room = room c own.1
spawned_pid most ls child size r (Exits t es) own room = tt

pub room_left : {A : Type 0} (ks : List Function) (w : World A) (n : ℕ) (child : Option ℕ) (q r : Process) (a : code.Act A) (size : ℕ)
    → child ≡ next_pid (world_of w) → act_seen r a ≡ act ks n child q → size ≡ length w.slots.items → IsRoomFor a size
room_left {A = A} ks w n child q r a size is acts same =
    let most = 64 + length q.frames in
    let own = act_own most (omega arith) ks n child q (omega arith) in
    spawned_pid most q.links child size r a (subst (IsOwnAct most q.links child) (sym acts) own)
    (λ c e. let few = pid_left (world_of w) c (sym is ∙ e) in omega (arith, few, same, length-map w.slots.items (slot_of {A = A})))

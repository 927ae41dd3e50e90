-- An act, seen with the process that did it.
use Rattle.std.proofs.Common.{◌≡◌, refl}
use Rattle.tn_process.specs.Views.{process_seen, act_seen, act_of}
use Rattle.tn_process.specs.declared.process.Process.{Process}
use Rattle.tn_process.specs.declared.act.Act.{Act}
use Rattle.tn_process.specs.declared.act.Act.TheVariants.{Waits, Continues, Sends, LinksTo, UnlinksFrom, Spawns, Exits}

pub seen_of : {A : Type 0} (p : Process A) (a : Act A) → act_seen (process_seen p) a ≡ act_of p a
seen_of p Waits = refl
seen_of p (Continues es) = refl
seen_of p (Sends to t) = refl
seen_of p (LinksTo n) = refl
seen_of p (UnlinksFrom n) = refl
seen_of p (Spawns child e) = refl
seen_of p (Exits r es) = refl

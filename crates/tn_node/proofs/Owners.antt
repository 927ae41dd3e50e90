-- A process that is changed through its owner.
use Rattle.std.proofs.Common.{◌≡◌, ◌⊎◌, inl, inr, Some, Option, ap, sym, ◌∙◌}
use Rattle.std.specs.Option.{option_map}
use Rattle.std.specs.Arc.{arc_value}
use Rattle.std.specs.declared.sync.Arc.{Arc}
use Rattle.def_node.specs.Process as process
use Rattle.tn_process.specs.Views.{process_seen}
use Rattle.tn_process.specs.declared.process.Process.{Process}
use Rattle.tn_node.specs.Worlds.{slot_of}

-- it is the process that was there, or a copy of that
pub same_process : {A : Type 0} (p q : Process A) → (q ≡ p) ⊎ (process_seen q ≡ process_seen p) → process_seen q ≡ process_seen p
same_process p q (inl e) = ap process_seen e
same_process p q (inr e) = e

-- the slot with the process r in place of p is the slot that was there, changed: q is the process that was given out
pub owner_changed : {A : Type 0} (s : Option (Arc (Process A) A)) (p n : Arc (Process A) A) (q r : Process A) (f : process.Process → process.Process) → s ≡ Some p
    → (q ≡ arc_value p) ⊎ (process_seen q ≡ process_seen (arc_value p)) → process_seen r ≡ f (process_seen q) → arc_value n ≡ r → slot_of (Some n) ≡ option_map f (slot_of s)
owner_changed s p n q r f there copied changed held =
    ap (λ x. Some (process_seen x)) held ∙ ap Some (changed ∙ ap f (same_process (arc_value p) q copied)) ∙ sym (ap (λ x. option_map f (slot_of x)) there)

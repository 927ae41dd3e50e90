use Rattle.std.proofs.Common.{◌≡◌, ap, ap₂, ◌∙◌, ◌∷◌, ◌++◌, [], map, rules, List, Option, Some}
use Rattle.std.proofs.lemmas.List.{map-append}
use Rattle.def_node.specs.Process.{Process}
use Rattle.def_node.specs.Node.{World, moved}
use Rattle.tn_process.specs.Views.{process_seen}
use Rattle.tn_node.specs.Worlds.{slot_of}
use Rattle.tn_node.proofs.world.World.start.Goals as goal

pub returns : goal.returns
returns g c =
    let old = c.args.self.now.slots.items in
    let p = c.in_ok-owner.owner in
    let pushed : c.push.new.self.items ≡ old ++ Some p ∷ [] = search rules in
    let slots = ap (map slot_of) pushed ∙ map-append slot_of old (Some p ∷ []) ∙ ap (λ (q : Process). map slot_of old ++ Some q ∷ []) (ap process_seen c.in_ok-owner.ensures.ok ∙ c.new-process.ensures) in
    let W : List (Option Process) → World = λ ss. record { slots = ss } in
    ap₂ moved (ap W slots) c.in_ok-events.ensures

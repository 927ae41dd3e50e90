use Rattle.std.proofs.Common.{◌≡◌, ℕ, List, ap, sym, ◌∙◌, length}
use Rattle.std.proofs.lemmas.List.{length-map}
use Rattle.def_script.specs.Program.{Function}
use Rattle.def_node.specs.Node.{World, opening_world}
use Rattle.tn_flags.specs.Views.{command_of}
use Rattle.tn_node.specs.Nodes.{NodeValue}
use Rattle.tn_node.proofs.node.State.new.Goals as goal

-- the node of these functions, so many commands and these processes, before any pick
abbrev opening : List Function → ℕ → World → NodeValue
opening functions commands w = record { functions = functions; commands = commands; state = record { world = w; taken = 0 } }

same_opening : {f g : List Function} {m n : ℕ} {v w : World} → f ≡ g → m ≡ n → v ≡ w → opening f m v ≡ opening g n w
same_opening d e h i = opening (d i) (e i) (h i)

pub returns : goal.returns
returns g c =
    same_opening (c.in_ok-functions.ensures ∙ c.in_ok-share_functions.ensures) (sym (length-map c.commands.result.now command_of) ∙ ap length c.commands.ensures)
    (c.in_ok-world.ensures ∙ ap opening_world c.entries.ensures.value)

-- What is known of the next step of a process, in the words of the definitions.
use Rattle.std.specs.Prelude.{ℕ, Option, Some, None}
use Rattle.std.specs.Option.{option_map}
use Rattle.def_outlook.specs.Outlook as definition
use Rattle.def_outlook.specs.Outlook.{outlook, nothing_ahead}
use Rattle.tn_process.specs.Outlooks.{error_seen, own_link_seen}
use Rattle.tn_node.specs.Nodes.{NodeValue}
use Rattle.tn_node.specs.declared.outlook.Outlook.{Outlook}

abbrev pub outlook_seen : Outlook → definition.Outlook
outlook_seen l = record {
  error = option_map error_seen l.error;
  caught_at = l.caught_at;
  is_awaited = l.is_awaited;
  own_link = option_map own_link_seen l.own_link;
}

-- of a node, nothing once it was refused memory
abbrev pub outlook_in : Option NodeValue → ℕ → definition.Outlook
outlook_in (Some n) pick = outlook n.functions n.state.world pick
outlook_in None pick = nothing_ahead

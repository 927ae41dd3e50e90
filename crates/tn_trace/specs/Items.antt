-- What the code keeps of messages, and what it hands out.
use Rattle.std.specs.Prelude.{◌≡◌, List, map}
use Rattle.def_term.specs.Tree.{Tree}
use Rattle.def_run.specs.Listing.{Item as DefinedItem, lines_of}
use Rattle.tn_text.specs.WrittenTrees.{written_tree}
use Rattle.tn_trace.specs.declared.item.Item.{Item}
use Rattle.tn_trace.specs.declared.sinks.Terms.{Terms}
use Rattle.tn_trace.specs.declared.sinks.Lines.{Lines}

abbrev pub item_seen : {A : Type 0} → Item A → DefinedItem
item_seen i = record { session = i.session; index = i.index; message = written_tree i.message }

-- messages kept as terms
abbrev pub AreTerms : {A : Type 0} → Terms A → List Tree → Type 0
AreTerms k ts = map written_tree k.terms.items ≡ ts

-- messages kept as text, each with a line feed
abbrev pub AreTexts : {A : Type 0} → Lines A → List Tree → Type 0
AreTexts k ts = k.text.items ≡ lines_of ts

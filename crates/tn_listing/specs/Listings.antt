-- The text of one session's listing.
use Rattle.std.specs.Prelude.{ℕ, List, map}
use Rattle.def_term.specs.Names.{Name}
use Rattle.def_run.specs.Listing as definition
use Rattle.tn_text.specs.WrittenTrees.{written_tree}
use Rattle.tn_text.specs.declared.written_term.WrittenTerm.{WrittenTerm}

-- the header and the messages
abbrev pub listing_of : {A : Type 0} → Name → Name → List (WrittenTerm A) → List ℕ
listing_of name tracer messages = definition.listing_text name tracer (map written_tree messages)

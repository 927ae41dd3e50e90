-- Where messages are in the listings.
use Rattle.std.specs.Prelude.{◌≡◌, ℕ, zero, suc, Bool, IsTrue, ◌↔◌, List, [], ◌∷◌, ◌++◌, map, Option, Some, None, slice_get}
use Rattle.def_term.specs.Tree.{Tree}
use Rattle.def_term.specs.Names.{Name}
use Rattle.def_script.specs.Program.{Program}
use Rattle.def_run.specs.Listing.{Item as DefinedItem, answer, messages}
use Rattle.tn_trace.specs.Items.{item_seen}
use Rattle.tn_trace.specs.Cores.{CoreValue, creation_numbered}
use Rattle.tn_trace.specs.declared.item.Item.{Item}
use Rattle.tn_text.specs.WrittenTrees.{written_tree}
use Rattle.tn_text.specs.declared.written_term.WrittenTerm.{WrittenTerm}
use Rattle.std.specs.Option.{option_map}
use denote.Ref.{Bor}
use Rattle.tn_live.specs.declared.entry.ItemPlace.{ItemPlace}

-- where a message is
abbrev pub item_place : DefinedItem → ItemPlace
item_place x = record { session = x.session; index = x.index }

-- where the messages are that each of the first n moves adds
abbrev pub item_places : Program → List ℕ → ℕ → List (List ItemPlace)
item_places program picks zero = []
item_places program picks (suc n) = item_places program picks n ++ map item_place (answer program picks n) ∷ []

-- a message, if any, as the item of this place
abbrev pub reported_message : ItemPlace → Option Tree → Option DefinedItem
reported_message place None = None
reported_message place (Some m) = Some (record { session = place.session; index = place.index; message = m })

abbrev pub message_of_place : Program → List ℕ → ℕ → Option (Name × Name) → Option Tree
message_of_place program picks index None = None
message_of_place program picks index (Some s) = slice_get (messages s.0 program picks) index

-- the message at a place of the listings, where there is one
abbrev pub message_at : Program → List ℕ → ItemPlace → Option Tree
message_at program picks place = message_of_place program picks place.index (creation_numbered program place.session)

-- the item of the message at a place of the listings
abbrev pub reported_at : Program → List ℕ → ItemPlace → Option DefinedItem
reported_at program picks place = reported_message place (message_at program picks place)

-- the items are the messages at these places, in order
abbrev pub AreTold : {A : Type 0} → Program → List ℕ → List ItemPlace → List (Item A) → Type 0
AreTold program picks places items = map (reported_at program picks) places ≡ map (λ x. Some (item_seen x)) items

-- the test is true exactly where this holds of the core's program and journal
abbrev pub TellsWhether : CoreValue → Bool → (Program → List ℕ → Type 0) → Type 0
TellsWhether core result Holds = (picks : List ℕ) → core.journal ≡ Some picks → IsTrue result ↔ Holds core.program picks

-- this is the message at the place in the listings of the core's program and journal
abbrev pub IsMessageAt : {A : Type 0} → CoreValue → ItemPlace → Option (Bor (WrittenTerm A)) → Type 0
IsMessageAt core place result =
    (picks : List ℕ) → core.journal ≡ Some picks → option_map (λ t. written_tree t.now) result ≡ message_at core.program picks place

use Rattle.std.proofs.Common.{◌≡◌, drop, map}
use Rattle.std.specs.Prelude.{string_bytes}
use Rattle.json.specs.Value.{items_view}
use Rattle.def_serve.specs.Requests.{words_in}
use Rattle.tn_serve.proofs.ReadMembers.{words_before}
use Rattle.tn_serve.proofs.request.words_of.Given as goal

-- the rest is read after what was read so far
abbrev pub invariant-loop-item : goal.invariant-loop-item
invariant-loop-item l = words_in (items_view l.items) ≡ words_before (map string_bytes l.words.items) (words_in (items_view (drop l.item-index l.items)))

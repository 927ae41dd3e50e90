use Rattle.std.proofs.Common.{◌≡◌, ◌+◌, ◌++◌, ◌∷◌, map, length}
use Rattle.std.specs.Option.{option_map_or}
use Rattle.json.specs.Token.{begin_array}
use Rattle.json.specs.Tree.{items_tokens}
use Rattle.def_formats.specs.JsonRows.{items_from, numeral_value}
use Rattle.def_formats.specs.Summaries.{picks_in}
use Rattle.tn_formats.specs.Pieces.{pieces_left}
use Rattle.tn_formats.proofs.picks.put_picks.Given as goal

-- what was written and the picks that are left are all of them
abbrev pub invariant-loop-rest : goal.invariant-loop-rest
invariant-loop-rest g l =
    (l.writer.tokens ++ items_tokens (items_from (map numeral_value (pieces_left l.rest))) ≡ l.fn.writer.tokens ++ begin_array ∷ items_tokens (items_from (map numeral_value (picks_in l.line))))
    × (l.writer.before ≡ l.fn.writer.before)

abbrev pub decreases-loop-rest : goal.decreases-loop-rest
decreases-loop-rest g l = option_map_or (λ r. length r.now + 1) l.rest 0

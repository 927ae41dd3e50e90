use Rattle.std.proofs.Common.{◌≡◌, ◌++◌, ◌∷◌, map, drop}
use Rattle.json.specs.Token.{begin_array}
use Rattle.json.specs.Tree.{items_tokens}
use Rattle.def_formats.specs.JsonRows.{items_from, number_value}
use Rattle.tn_formats.proofs.values.put_numbers.Given as goal

-- what was written and the numbers that are left are all of them
abbrev pub invariant-loop-number : goal.invariant-loop-number
invariant-loop-number g l =
    (l.writer.tokens ++ items_tokens (items_from (map number_value (drop l.number-index l.numbers))) ≡ l.fn.writer.tokens ++ begin_array ∷ items_tokens (items_from (map number_value l.numbers)))
    × (l.writer.before ≡ l.fn.writer.before)

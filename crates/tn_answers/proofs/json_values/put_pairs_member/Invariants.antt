use Rattle.std.proofs.Common.{◌≡◌, ◌++◌, ◌∷◌, codes, drop, map}
use Rattle.json.specs.Token.{begin_array, key}
use Rattle.json.specs.Tree.{items_tokens}
use Rattle.def_formats.specs.JsonRows.{items_from}
use Rattle.def_compare.specs.AnswerRows.{pair_row}
use Rattle.tn_renaming.specs.Pairs.{pair_seen}
use Rattle.tn_answers.proofs.json_values.put_pairs_member.Given as goal

-- what was written and the pairs that are left are all of them
abbrev pub invariant-loop-pair : goal.invariant-loop-pair
invariant-loop-pair g l =
    (l.writer.tokens ++ items_tokens (items_from (map pair_row (map pair_seen (drop l.pair-index l.pairs)))) ≡ l.fn.writer.tokens ++ key (codes "pids") ∷ begin_array ∷ items_tokens (items_from (map pair_row (map pair_seen l.pairs))))
    × (l.writer.before ≡ l.fn.writer.before)

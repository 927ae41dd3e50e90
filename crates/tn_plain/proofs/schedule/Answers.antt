use Rattle.std.proofs.Common.{rules, string_bytes, inl, inr, ◌∙◌, refl}
use Rattle.tn_plain.proofs.Words.{one_behind, three_behind}
use Rattle.tn_plain.proofs.schedule.Goals as goal
use Rattle.tn_plain.proofs.schedule.Goals.{in_default-via-in-replay-0+in_default, in_default-via-in-round-0+in_default, in_default-via-in_default}

pub returns-then-eq-clause-some : goal.returns-then-eq-clause-some
returns-then-eq-clause-some c =
    inl (one_behind string_bytes c.args.words.now c.index-words-1.result (search rules) (search rules) ∙ search rules, refl)

pub returns-then-eq-2-clause-some : goal.returns-then-eq-2-clause-some
returns-then-eq-2-clause-some c =
    inr (inl (one_behind string_bytes c.args.words.now c.index-words-1-then-words-eq2-2.result (search rules) (search rules) ∙ search rules, refl))

pub returns-in_ok-limit-in-round-text-clause-some :
    goal.returns-in_ok-limit-in-round-text-clause-some
returns-in_ok-limit-in-round-text-clause-some c =
    let words = three_behind string_bytes c.args.words.now c.index-words-1-2.result c.index-words-2.result c.index-words-3.result
    (search rules) (search rules) (search rules) (search rules) in
    inr (inr (inr (string_bytes c.index-words-3.result, words ∙ search rules, search rules, search rules)))

pub returns-in_default-clause-none : goal.returns-in_default-clause-none
returns-in_default-clause-none c a =
    let words = three_behind string_bytes c.args.words.now c.index-words-1-2.result c.index-words-2.result c.index-words-3.result
    (search rules) (search rules) (search rules) (search rules) in
    elim c.in_default.branch [
      | in_default-via-in-replay-0+in_default w ↦ search rules
      | in_default-via-in-round-0+in_default w ↦ search rules
      | in_default-via-in_default w ↦ search rules
    ]

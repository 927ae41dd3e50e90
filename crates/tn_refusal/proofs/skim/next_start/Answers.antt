use Rattle.std.proofs.Common.{◌+◌, ap, ◌∙◌}
use Rattle.std.proofs.lemmas.List.{take_rest}
use Rattle.tn_refusal.proofs.Skims.{next_offset}
use Rattle.tn_refusal.proofs.skim.next_start.Goals as goal

pub returns-clause-tokens : goal.returns-clause-tokens
returns-clause-tokens c = λ xs h.
    let value = rw (take_rest c.args.text.now c.args.from) at c.gap_len.ensures.value in
    ap (λ g. c.args.from + g) value ∙ next_offset c.args.text.now c.args.from xs c.requires h

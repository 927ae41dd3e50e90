use Rattle.std.proofs.Common.{◌++◌, ◌∙◌, sym, ap, option_to_list}
use Rattle.std.proofs.lemmas.List.{append-nil}
use Rattle.tn_pool.proofs.workers.add_token.Goals as goal

pub returns-in-None-clause-items : goal.returns-in-None-clause-items
returns-in-None-clause-items g c = sym (append-nil c.args.tokens.now.items) ∙ ap (λ k. c.args.tokens.now.items ++ option_to_list k) (sym c.in-None.is)

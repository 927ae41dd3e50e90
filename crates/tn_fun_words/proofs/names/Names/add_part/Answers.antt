use Rattle.std.proofs.Common.{◌∙◌, ap, option_to_list}
use Rattle.def_fun.specs.Variables.{with_name, with_names}
use Rattle.tn_text.proofs.Growth.{on_done}
use Rattle.tn_fun_words.specs.Views.{head_names_seen}
use Rattle.tn_fun_words.proofs.names.Names.add_part.Goals as goal

pub returns-in_ok-name_of-in-Some-clause-numbers : goal.returns-in_ok-name_of-in-Some-clause-numbers
returns-in_ok-name_of-in-Some-clause-numbers g c =
    let ns = head_names_seen c.args.self.now in
    on_done c.add.result (λ h. h ∙ ap (with_name ns.of_whole ns.numbers) c.in_ok-name_of-in-Some.ensures ∙ ap (λ o. with_names ns.of_whole ns.numbers (option_to_list o)) (c.in-Some.ensures c.args.bytes.now)) c.add.ensures.numbers

pub returns-in-None-clause-numbers : goal.returns-in-None-clause-numbers
returns-in-None-clause-numbers g c =
    let ns = head_names_seen c.args.self.now in
    ap (λ o. with_names ns.of_whole ns.numbers (option_to_list o)) (c.in-None.ensures c.args.bytes.now)

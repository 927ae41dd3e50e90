use Rattle.std.proofs.Common.{◌++◌, codes}
use Rattle.def_explain.specs.ReasonTexts.{found_text, option_hint_text}
use Rattle.tn_term.specs.Views.{tree_of}
use Rattle.tn_verdict.proofs.Pieces.{after_ok, read_as, put_ok}
use Rattle.tn_command_reason.proofs.command_reason_texts.put_no_options.Goals as goal

pub returns-clause-ok : goal.returns-clause-ok
returns-clause-ok g c =
    let t = tree_of c.args.term.now in
    let next = c.put_found.new.out.items in
    let last = c.extend_from_slice.new.self.items in
    let done = c.extend_from_slice.result in
    after_ok done c.args.out.now.items (codes "Opts is [], [global] or [local]" ++ found_text t) (option_hint_text t) next last c.in_ok-put_found.ensures.ok
    (read_as done next c.option_hint.result.now (option_hint_text t) last c.option_hint.ensures (put_ok done next c.option_hint.result.now last c.extend_from_slice.ensures.items))

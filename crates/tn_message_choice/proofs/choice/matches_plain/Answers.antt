use Rattle.std.proofs.lemmas.Result.{IfOk-weaker}
use Rattle.std.proofs.Common.{◌≡◌, [], refl}
use Rattle.def_session.specs.Messages.{elements_of}
use Rattle.def_explore.specs.Words.{is_match}
use Rattle.tn_flags.specs.Views.{event_of}
use Rattle.tn_spec.specs.Views.{pattern_seen}
use Rattle.tn_term.specs.Views.{tree_of}
use Rattle.def_message_choice.specs.MessageChoices.{flag_message}
use Rattle.tn_message_choice.proofs.Matches.{without_last}
use Rattle.tn_message_choice.proofs.choice.matches_plain.Goals as goal

pub returns : goal.returns
returns g c =
    let a = pattern_seen c.args.pattern.now.pattern in
    let e = event_of c.args.event.now in
    IfOk-weaker c.matches.result (λ b. b ≡ is_match a (tree_of c.in_ok-term.term)) (λ b. b ≡ is_match a (flag_message c.args.short e))
    (λ b h. without_last a b (tree_of c.in_ok-term.term) (elements_of c.args.short e) [] refl c.in_ok-term.ensures h) c.matches.ensures

use Rattle.std.proofs.Common.{◌≡◌, ◌∙◌, map, sym}
use Rattle.def_outlook.specs.Outlook.{nothing_ahead}
use Rattle.def_run.specs.Run.{event_item}
use Rattle.def_run.specs.History.{all_after_items}
use Rattle.tn_flags.specs.Views.{event_of}
use Rattle.complete_message_choice.specs.SameChoosers.{ChooseAlike}
use Rattle.complete_message_choice.proofs.Both.{if_both}
use Rattle.complete_message_choice.proofs.choosers.see.Goals as goal

pub returns-clause-answer : goal.returns-clause-answer
returns-clause-answer g c =
    let same = c.requires in
    if_both c.see.result c.see-2.result _ _ (λ b d. b ≡ d) (λ b d h i. h.1 0 0 nothing_ahead ∙ sym (i.1 0 0 nothing_ahead))
    (c.see.ensures same.exports same.sessions same.one_is) (c.see-2.ensures same.exports same.sessions same.other_is)

pub returns-clause-after : goal.returns-clause-after
returns-clause-after g c =
    let same = c.requires in
    if_both c.see.result c.see-2.result _ _ (λ b d. ChooseAlike c.see.new.self c.see-2.new.self)
    (λ b d h i. record {
      exports = same.exports;
      sessions = all_after_items same.exports same.sessions (map event_item (map event_of c.args.events.now.items));
      one_is = h.0;
      other_is = i.0;
    })
    (c.see.ensures same.exports same.sessions same.one_is) (c.see-2.ensures same.exports same.sessions same.other_is)

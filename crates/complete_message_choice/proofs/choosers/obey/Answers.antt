use Rattle.def_run.specs.Run.{command_item}
use Rattle.def_run.specs.History.{all_after}
use Rattle.tn_flags.specs.Views.{command_of}
use Rattle.complete_message_choice.specs.SameChoosers.{ChooseAlikeOver}
use Rattle.complete_message_choice.proofs.Both.{on_both}
use Rattle.complete_message_choice.proofs.choosers.obey.Goals as goal

pub returns : goal.returns
returns g c =
    let same = c.requires in
    on_both c.obey.result c.obey-2.result _ _ (ChooseAlikeOver c.args.functions.now c.obey.new.self c.obey-2.new.self)
    (λ h i. record {
      exports = same.exports;
      sessions = all_after same.exports same.sessions (command_item (command_of c.args.command.now));
      are_functions = same.are_functions;
      one_is = h;
      other_is = i;
    })
    (c.obey.ensures same.exports same.are_functions same.sessions same.one_is) (c.obey-2.ensures same.exports same.are_functions same.sessions same.other_is)

use Rattle.std.proofs.Common.{sym, subst}
use Rattle.def_script.specs.Program.{Program}
use Rattle.def_script.specs.Exports.{exports_of}
use Rattle.def_run.specs.History.{named_sessions}
use Rattle.tn_program.specs.Views.{program_of}
use Rattle.tn_message_choice.specs.Choosers.{AreChoosers}
use Rattle.complete_message_choice.specs.SameChoosers.{ChooseAlike}
use Rattle.complete_message_choice.proofs.Both.{if_both}
use Rattle.complete_message_choice.proofs.choosers.new.Goals as goal

pub returns : goal.returns
returns g c =
    let p = program_of c.args.one.now in
    if_both c.new.result c.new-2.result _ _ (λ x y. ChooseAlike x y)
    (λ x y h i. record {
      exports = exports_of p;
      sessions = named_sessions p;
      one_is = h;
      other_is = subst (λ (q : Program). AreChoosers (exports_of q) (named_sessions q) y) (sym c.requires) i;
    })
    c.new.ensures c.new-2.ensures

use Rattle.std.proofs.Common.{map}
use Rattle.std.specs.Option.{option_map}
use Rattle.tn_head.specs.Views.{bindings_seen}
use Rattle.tn_action.specs.Views.{effect_seen}
use Rattle.tn_fun_words.specs.Views.{clause_words_seen, name_list_seen}
use Rattle.tn_fun_words.proofs.Fronts.{fired_ok}
use Rattle.tn_fun_words.proofs.test_lines.put_fired.Goals as goal

pub returns : goal.returns
returns g c =
    fired_ok c.put_bindings.result (option_map clause_words_seen c.args.words) (name_list_seen c.in_ok-names.names.items) c.args.before (bindings_seen c.args.bindings.now) (map effect_seen c.args.effects.now) c.args.out.now.items c.put_fires.new.out.items c.put_bindings.new.out.items
    c.in_ok-names.ensures c.in_ok-put_fires.ensures c.put_bindings.ensures

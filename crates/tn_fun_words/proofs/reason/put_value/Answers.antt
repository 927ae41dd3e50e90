use Rattle.std.specs.Option.{option_map}
use Rattle.tn_guard.specs.Views.{value_seen}
use Rattle.tn_verdict.specs.Views.{bound_seen}
use Rattle.tn_fun_words.specs.Views.{clause_words_seen, name_list_seen}
use Rattle.tn_fun_words.proofs.BoundNames.{value_ok}
use Rattle.tn_fun_words.proofs.reason.put_value.Goals as goal

pub returns : goal.returns
returns g c =
    value_ok c.put_bound_within.result (option_map clause_words_seen c.args.words) (name_list_seen c.in_ok-names.names.items) (value_seen c.args.value) (bound_seen c.args.bound) c.args.out.now.items c.extend_from_slice.new.self.items c.write_value.new.out.items c.put_bound_within.new.out.items
    c.in_ok-names.ensures c.in_ok-extend_from_slice.ensures.items c.in_ok-write_value.ensures.ok c.put_bound_within.ensures

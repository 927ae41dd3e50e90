use Rattle.std.proofs.Common.{◌≡◌, drop}
use Rattle.def_term.specs.Text.{is_among}
use Rattle.tn_fun_words.specs.Views.{name_list_seen}
use Rattle.tn_fun_words.proofs.names.is_among.Given as goal

abbrev pub invariant-loop-other : goal.invariant-loop-other
invariant-loop-other g l = is_among (name_list_seen (drop l.other-index l.other-items)) l.name ≡ is_among (name_list_seen l.names.items) l.name

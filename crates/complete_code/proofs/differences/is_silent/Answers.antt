use Rattle.std.proofs.Common.{◌∙◌, sym, ap}
use Rattle.def_explain.specs.Differences.{later_silent}
use Rattle.complete_code.proofs.differences.is_silent.Goals as goal

pub returns : goal.returns
returns g c = c.is_silent-first.ensures ∙ ap (later_silent c.args.self_pid c.args.before) c.requires ∙ sym c.is_silent-second.ensures

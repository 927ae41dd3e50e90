use Rattle.std.proofs.Common.{ap}
use Rattle.def_spec.specs.Flags.{flags_by_name}
use Rattle.def_explain.specs.Texts.{said_of_each}
use Rattle.complete_code.proofs.Alike.{appended_alike}
use Rattle.complete_code.proofs.effects.put_flags.Goals as goal

pub returns : goal.returns
returns g c = appended_alike _ _ _ _ _ _ _ _ c.requires.texts (ap (λ f. said_of_each c.args.verb.now f flags_by_name) c.requires.flags) c.put_flags-first.ensures.ok c.put_flags-second.ensures.ok

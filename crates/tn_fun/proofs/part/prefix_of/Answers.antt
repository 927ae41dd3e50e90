use Rattle.std.proofs.Common.{ap, sym, ◌∙◌}
use Rattle.std.specs.Option.{option_copied}
use Rattle.tn_fun.specs.States.{prefix_in_front}
use Rattle.tn_fun.proofs.PartEnds.{prefix_is, no_prefix_is, none_in_front}
use Rattle.tn_fun.proofs.part.prefix_of.Goals as goal

pub returns-in-Prefix : goal.returns-in-Prefix
returns-in-Prefix g c = λ text. prefix_is text c.args.parts.now c.in-Some.part.now c.in-Prefix.field-0 c.in-Prefix.operator (ap option_copied (sym c.in-Some.is) ∙ c.last.ensures.value) c.in-Prefix.is

pub returns-in_default-part : goal.returns-in_default-part
returns-in_default-part g c = λ text. no_prefix_is text c.args.parts.now c.in-Some.part.now (ap option_copied (sym c.in-Some.is) ∙ c.last.ensures.value) (λ at o e. c.in_default-part.not-Prefix at o e)

pub returns-in_default : goal.returns-in_default
returns-in_default g c = λ text. sym (ap prefix_in_front (none_in_front text c.args.parts.now (ap option_copied (sym c.in_default.is) ∙ c.last.ensures.value)))

use Rattle.std.proofs.Common.{ap, sym, ◌∙◌}
use Rattle.std.specs.Option.{option_copied}
use Rattle.tn_fun.specs.States.{left_in_front}
use Rattle.tn_fun.proofs.PartEnds.{left_is, no_left_is, none_in_front}
use Rattle.tn_fun.proofs.part.left_of.Goals as goal

pub returns-in-Left : goal.returns-in-Left
returns-in-Left g c = λ text. left_is text c.args.parts.now c.in-Some.part.now c.in-Left.field-0 c.in-Left.operator c.in-Left.field-2 (ap option_copied (sym c.in-Some.is) ∙ c.last.ensures.value) c.in-Left.is

pub returns-in_default-part : goal.returns-in_default-part
returns-in_default-part g c = λ text. no_left_is text c.args.parts.now c.in-Some.part.now (ap option_copied (sym c.in-Some.is) ∙ c.last.ensures.value) (λ at o l e. c.in_default-part.not-Left at o l e)

pub returns-in_default : goal.returns-in_default
returns-in_default g c = λ text. sym (ap left_in_front (none_in_front text c.args.parts.now (ap option_copied (sym c.in_default.is) ∙ c.last.ensures.value)))

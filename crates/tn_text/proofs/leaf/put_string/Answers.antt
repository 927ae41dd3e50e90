use Rattle.std.proofs.Common.{◌∙◌}
use Rattle.def_term.specs.Tree.{list}
use Rattle.def_text.specs.Grammar.{of_codes}
use Rattle.tn_text.specs.Stack.{frames_of}
use Rattle.tn_text.proofs.Leaves.{quoted_here}
use Rattle.tn_text.proofs.leaf.put_string.Goals as goal

pub returns-in-Some : goal.returns-in-Some
returns-in-Some g c = λ s h. quoted_here 34 c.put_codes.result c.args.bytes.now s c.in-Some.codes.now (λ x. list (of_codes x)) (frames_of c.args.frames.items) h c.in-Some.ensures c.put_codes.ensures

pub returns-in-Ok : goal.returns-in-Ok
returns-in-Ok g c = λ s h.
    quoted_here 34 c.put_codes-in-Ok.result c.args.bytes.now s c.as_slice.result.now (λ x. list (of_codes x)) (frames_of c.args.frames.items) h (c.as_slice.ensures.value ∙ c.in-Ok.ensures) c.put_codes-in-Ok.ensures

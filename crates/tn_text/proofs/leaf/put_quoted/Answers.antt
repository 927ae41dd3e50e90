use Rattle.std.proofs.Common.{◌∙◌}
use Rattle.def_term.specs.Tree.{atom}
use Rattle.tn_text.specs.Stack.{frames_of}
use Rattle.tn_text.proofs.Leaves.{quoted_here}
use Rattle.tn_text.proofs.leaf.put_quoted.Goals as goal

pub returns-in-Some : goal.returns-in-Some
returns-in-Some g c = λ s h. quoted_here 39 c.put_atom.result c.args.bytes.now s c.in-Some.text.now atom (frames_of c.args.frames.items) h c.in-Some.ensures c.put_atom.ensures

pub returns-in-Ok : goal.returns-in-Ok
returns-in-Ok g c = λ s h.
    quoted_here 39 c.put_atom-in-Ok.result c.args.bytes.now s c.as_slice.result.now atom (frames_of c.args.frames.items) h (c.as_slice.ensures.value ∙ c.in-Ok.ensures) c.put_atom-in-Ok.ensures

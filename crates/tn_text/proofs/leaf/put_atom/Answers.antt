use Rattle.std.proofs.Common.{subst}
use Rattle.def_term.specs.Atoms.{IsAtomText}
use Rattle.tn_text.specs.Stack.{frames_of}
use Rattle.tn_text.proofs.Leaves.{atom_large, printable_text}
use Rattle.tn_text.proofs.leaf.put_atom.Goals as goal

pub returns-in-Ok-None : goal.returns-in-Ok-None
returns-in-Ok-None g c = λ printable.
    let none = rw c.in-Ok-None.field-0-is at c.in-Ok-None.ensures in
    let s = c.args.text.now in
    atom_large s (frames_of c.args.frames.items) c.requires printable (subst (λ x. IsAtomText x → ⊥) c.in-Ok.ensures.cases.0 none)

pub returns-in-Err : goal.returns-in-Err
returns-in-Err g c = λ printable. absurd (c.in-Err.ensures.cases.0 (printable_text c.args.text.now printable))

use Rattle.std.proofs.Common.{◌∙◌, ◌++◌, codes, append_assoc}
use Rattle.def_term.specs.Text.{atom_text}
use Rattle.tn_refusal.proofs.Writes.{after_ok, grown}
use Rattle.tn_refusal.proofs.sessions.put_tracer.Goals as goal

pub returns : goal.returns
returns g c =
    let o = c.args.out.now.items in
    let named = atom_text c.args.tracer.now in
    let first = c.put_atom.new.out.items in
    let words = codes " is the tracer of session " in
    after_ok c.put_atom-2.result o ((codes ": " ++ named) ++ words) (atom_text c.args.session.now) (first ++ words) c.put_atom-2.new.out.items
    (grown o (codes ": " ++ named) first words (c.in_ok-put_atom.ensures ∙ append_assoc o (codes ": ") named)) c.put_atom-2.ensures

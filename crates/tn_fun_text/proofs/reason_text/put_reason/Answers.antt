use Rattle.std.proofs.Common.{◌++◌, codes, sym, ap, ◌∙◌, append_assoc}
use Rattle.def_term.specs.Text.{atom_text}
use Rattle.def_fun.specs.FunTexts.{no_fun_text, empty_body}
use Rattle.tn_fun_text.specs.Reasons.{no_fun_reason_seen}
use Rattle.tn_fun_text.proofs.LastWrites.{on_extended, on_last}
use Rattle.tn_fun_text.proofs.reason_text.put_reason.Goals as goal

pub returns-in-DollarAtom : goal.returns-in-DollarAtom
returns-in-DollarAtom g c =
    let o = c.args.out.now.items in
    let words = codes "no expression of a fun is " in
    let name = atom_text c.in-DollarAtom.name.now in
    on_last c.put_with_atom-in-DollarAtom.result (o ++ words) c.put_with_atom-in-DollarAtom.new.out.items name _ c.put_with_atom-in-DollarAtom.ensures
    (append_assoc o words name ∙ ap (λ q. o ++ no_fun_text (no_fun_reason_seen q)) (sym c.in-DollarAtom.is))

pub returns-in-EmptyBody : goal.returns-in-EmptyBody
returns-in-EmptyBody g c =
    let o = c.args.out.now.items in
    on_extended c.extend_from_slice.result o c.extend_from_slice.new.self.items (no_fun_text empty_body) _ c.extend_from_slice.ensures.items (ap (λ q. o ++ no_fun_text (no_fun_reason_seen q)) (sym c.in-EmptyBody.is))

use Rattle.std.proofs.Common.{[], ◌∷◌, codes}
use Rattle.tn_text.proofs.Growth.{on_done}
use Rattle.def_term.specs.Text.{atom_text}
use Rattle.def_picture.specs.Templates.{fill}
use Rattle.def_picture.specs.Plain.{session_plain}
use Rattle.tn_picture.proofs.Texts.{three_texts}
use Rattle.tn_picture.proofs.plain.put_session.Goals as goal

pub returns : goal.returns
unfolding session_plain
returns g c =
    on_done c.put_text.result
    (λ h.
    three_texts c.args.out.now.items (fill (codes "=>@ session ") (c.args.number ∷ [])) (atom_text c.args.name.now) (codes "\n") c.put_filled.new.out.items c.put_atom.new.out.items c.put_text.new.out.items
    c.in_ok-put_filled.ensures c.in_ok-put_atom.ensures h)
    c.put_text.ensures

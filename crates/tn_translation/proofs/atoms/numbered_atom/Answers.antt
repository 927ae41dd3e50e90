use Rattle.std.proofs.Common.{rules, ◌≡◌, subst, sym}
use Rattle.def_term.specs.Atoms.{IsAtomText}
use Rattle.def_fun.specs.Variables.{dollar_name}
use Rattle.tn_translation.proofs.AtomTexts.{dollar_text}
use Rattle.tn_translation.proofs.atoms.numbered_atom.Goals as goal

pub word-requires : goal.word-requires
word-requires g c =
    let is : c.deref.result.now ≡ dollar_name c.args.number = search rules in
    subst IsAtomText (sym is) (dollar_text c.args.number c.requires)

-- The texts of the replies of commands that are refused or match no function.
use Rattle.std.proofs.Common.{◌≡◌, ◌++◌, codes, refl, ap, append-nil}
use Rattle.std.specs.Fmt.{digits}
use Rattle.def_term.specs.Names.{Name}
use Rattle.def_term.specs.Text.{w, atom_text, is_written_bare}
use Rattle.def_spec.specs.Reading.{badarg, unsupported}
use Rattle.def_session.specs.Commands.{number_term, fault_term}

pub zero_text : w (number_term 0) ≡ codes "0"
unfolding digits
zero_text = refl

pub badarg_text : w (fault_term badarg) ≡ codes "badarg"
unfolding is_written_bare
badarg_text = refl

pub unsupported_text : (s : Name) → w (fault_term (unsupported s)) ≡ (codes "{unsupported," ++ atom_text s) ++ codes "}"
unfolding is_written_bare
unsupported_text s = ap (λ l. codes "{unsupported," ++ (l ++ codes "}")) (append-nil (atom_text s))

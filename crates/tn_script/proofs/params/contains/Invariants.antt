use Rattle.std.proofs.Common.{◌≡◌, drop}
use Rattle.def_term.specs.Text.{is_among}
use Rattle.tn_script.proofs.params.contains.Given as goal

abbrev pub invariant-loop-atom : goal.invariant-loop-atom
invariant-loop-atom g l = is_among l.fn.atoms l.fn.text ≡ is_among (drop l.atom-index l.fn.atoms) l.fn.text

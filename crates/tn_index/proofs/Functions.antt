-- Functions that are the same.
use Rattle.std.proofs.Common.{◌≡◌, Bool, true, eqb-true}
use Rattle.std.specs.Cmp.{booleans_Decides}
use Rattle.std.proofs.Math.Bool.{beq}
use Rattle.std.proofs.lemmas.Slice.Eq.{bytes_eq-Decides}
use Rattle.std.proofs.lemmas.Bool.{and_parts}
use Rattle.def_term.specs.Names.{Mfa, same_mfa}

pub same_function : (f g : Mfa) → same_mfa f g ≡ true → f ≡ g
same_function f g e =
    let m = and_parts _ _ e in
    let n = and_parts _ _ m.1 in
    λ i. record {
      module_name = (bytes_eq-Decides f.module_name g.module_name).0 m.0 i;
      function_name = (bytes_eq-Decides f.function_name g.function_name).0 n.0 i;
      arity = eqb-true f.arity g.arity n.1 i;
    }

pub same_flag : (a b : Bool) → beq a b ≡ true → a ≡ b
same_flag a b e = (booleans_Decides a b).0 e

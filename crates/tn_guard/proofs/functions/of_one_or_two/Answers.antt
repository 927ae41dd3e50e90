use Rattle.std.proofs.Common.{◌≡◌, refl, List, [], ◌∷◌, length, map, None}
use Rattle.def_term.specs.Tree.{Tree}
use Rattle.def_spec.specs.Functions.{Func, is_atom}
use Rattle.tn_spec.specs.Views.{func_of}
use Rattle.tn_guard.specs.Functions.{of_one_or_two}
use Rattle.tn_guard.specs.Views.{value_seen}
use Rattle.tn_guard.proofs.functions.of_one_or_two.Goals as goal

of_none : (f : Func) → None ≡ of_one_or_two f []
of_none is_atom = refl
of_none _ = refl

of_three : (f : Func) (t u v : Tree) (ts : List Tree) → None ≡ of_one_or_two f (t ∷ u ∷ v ∷ ts)
of_three is_atom t u v ts = refl
of_three _ t u v ts = refl

of_others : {X : Type 0} (seen : X → Tree) (f : Func) (xs : List X) → (length xs ≡ 1 → ⊥) → (length xs ≡ 2 → ⊥) → None ≡ of_one_or_two f (map seen xs)
of_others seen f [] one two = of_none f
of_others seen f (x ∷ []) one two = absurd (one refl)
of_others seen f (x ∷ y ∷ []) one two = absurd (two refl)
of_others seen f (x ∷ y ∷ z ∷ zs) one two = of_three f (seen x) (seen y) (seen z) (map seen zs)

pub returns-else-args-eq2 : goal.returns-else-args-eq2
returns-else-args-eq2 g c = of_others value_seen (func_of c.args.func) c.args.args.now c.if-args-eq1.false c.if-args-eq2.false

-- A clause whose head is a trap fires for no list of these lengths.
use Rattle.std.proofs.Common.{◌≡◌, ◌∙◌, sym, ap, ℕ, Bool, true, false, if◌then◌else◌, List, [], ◌∷◌, Some, None, refl, length, arith}
use Rattle.std.specs.Prelude.{◌==◌}
use Rattle.std.specs.List.{list_any}
use Rattle.def_term.specs.Tree.{Tree, list, count, of_elements}
use Rattle.def_spec.specs.Matching.{Pattern, variable, anything, only_term, in_tuple, in_list, Patterns, no_patterns, and_pattern, Bindings, Fill, past, subst_in, subst_each}
use Rattle.def_trap.specs.Traps.{Trap, of_head, count_patterns, head_trap}
use Rattle.def_trap.specs.TrapLaws.{HeadTrapsDoNothing}

as_many : (ps : Patterns) (b : Bindings) (fill : Fill) → count (subst_each ps b fill) ≡ count_patterns ps
as_many no_patterns b fill = refl
as_many (and_pattern p ps) b fill = omega (arith, as_many ps b (λ path. fill (past ∷ path)))

count_elements : (ts : List Tree) → count (of_elements ts) ≡ length ts
count_elements [] = refl
count_elements (t ∷ ts) = omega (arith, count_elements ts)

unless_among : (b : Bool) (u t : Trap) → (if b then None else Some u) ≡ Some t → b ≡ false
unless_among true u t e = let clash : None ≡ Some t = e in cc
unless_among false u t e = refl

no_length : (lengths : List ℕ) (p : Pattern) (t : Trap) → head_trap lengths p ≡ Some t → (ts : List Tree) (b : Bindings) (fill : Fill)
    → subst_in p b fill ≡ list (of_elements ts) → list_any (λ n. n == length ts) lengths ≡ false
no_length lengths (in_list ps) t h ts b fill e =
    let same : subst_each ps b fill ≡ of_elements ts = (let q : list (subst_each ps b fill) ≡ list (of_elements ts) = e in cc) in
    let n : count_patterns ps ≡ length ts = sym (as_many ps b fill) ∙ ap count same ∙ count_elements ts in
    ap (λ k. list_any (λ m. m == k) lengths) (sym n) ∙ unless_among (list_any (λ m. m == count_patterns ps) lengths) (of_head (count_patterns ps)) t h
no_length lengths (variable n) t h ts b fill e = let clash : None ≡ Some t = h in cc
no_length lengths anything t h ts b fill e = let clash : None ≡ Some t = h in cc
no_length lengths (only_term u) t h ts b fill e = let clash : None ≡ Some t = h in cc
no_length lengths (in_tuple ps) t h ts b fill e = let clash : None ≡ Some t = h in cc

pub head_traps_do_nothing : HeadTrapsDoNothing
head_traps_do_nothing d lengths k t h c b fires = no_length lengths k.head t h c.matched_list b fires.matches.filled.0 fires.matches.filled.1

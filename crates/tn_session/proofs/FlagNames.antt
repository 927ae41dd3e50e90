-- Lists of flags, read from the last on.
use Rattle.std.proofs.Common.{◌≡◌, ◌∙◌, ◌+◌, ◌<◌, ℕ, zero, suc, List, [], ◌∷◌, length, get_or, drop, Option, Some, None, refl, sym, ap}
use Rattle.std.specs.Option.{option_map}
use Rattle.def_term.specs.Tree.{Tree}
use Rattle.def_spec.specs.Flags.{Flag, Flags, only, union, flag_named, flags_named, and_flag}
use Rattle.tn_term.proofs.Trees.{seen, here}

flag_more : (o : Option Flag) (p : Option Flags) (f g : Flags) → option_map only o ≡ Some f → p ≡ Some g → and_flag o p ≡ Some (union f g)
flag_more None p f g e h = cc
flag_more (Some x) p f g e h = ap (λ q. option_map (union (only x)) q) h ∙ ap (λ o. option_map (λ y. union y g) o) e

flag_none : (o : Option Flag) (p : Option Flags) → option_map only o ≡ None → and_flag o p ≡ None
flag_none None p e = refl
flag_none (Some x) p e = cc

rest_none : (o : Option Flag) (p : Option Flags) → p ≡ None → and_flag o p ≡ None
rest_none None p e = refl
rest_none (Some x) p e = ap (λ q. option_map (union (only x)) q) e

pub named_more : {X : Type 0} (f : X → Tree) (xs : List X) (i : ℕ) (x : X) (a b r : Flags) → i < length xs → x ≡ get_or xs i x → option_map only (flag_named (f x)) ≡ Some a
    → flags_named (seen f (drop (i + 1) xs)) ≡ Some b → r ≡ union a b → flags_named (seen f (drop i xs)) ≡ Some r
named_more f xs i x a b r below is named rest joins =
    ap flags_named (here f xs i x below is) ∙ flag_more (flag_named (f x)) (flags_named (seen f (drop (i + 1) xs))) a b named rest ∙ ap Some (sym joins)

none_from : {X : Type 0} (f : X → Tree) (xs : List X) (i : ℕ) → flags_named (seen f (drop i xs)) ≡ None → flags_named (seen f xs) ≡ None
none_from f xs zero h = h
none_from f [] (suc i) h = h
none_from f (x ∷ xs) (suc i) h = rest_none (flag_named (f x)) (flags_named (seen f xs)) (none_from f xs i h)

-- where one is no flag, the whole list is none
pub named_none : {X : Type 0} (f : X → Tree) (xs : List X) (i : ℕ) (x : X) → i < length xs → x ≡ get_or xs i x → option_map only (flag_named (f x)) ≡ None → flags_named (seen f xs) ≡ None
named_none f xs i x below is no_flag =
    none_from f xs i (ap flags_named (here f xs i x below is) ∙ flag_none (flag_named (f x)) (flags_named (seen f (drop (i + 1) xs))) no_flag)

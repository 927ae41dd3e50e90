-- The flags that values name, one after another.
use Rattle.std.proofs.Common.{◌≡◌, ◌∙◌, sym, ap, refl, ◌||◌, Bool, true, false, Option, Some, None}
use Rattle.std.specs.Option.{option_map}
use Rattle.def_term.specs.Tree.{Tree, Trees, none, more}
use Rattle.def_spec.specs.Flags.{Flag, Flags, no_flags, only, union, flag_named, and_flag, flags_named}

or_none : (a : Bool) → (a || false) ≡ a
or_none true = refl
or_none false = refl

or_again : (a b c : Bool) → (a || (b || c)) ≡ ((a || b) || c)
or_again true b c = refl
or_again false b c = refl

joined_none : (f : Flags) → union f no_flags ≡ f
joined_none f = λ i x. or_none (f x) i

joined_again : (f g h : Flags) → union f (union g h) ≡ union (union f g) h
joined_again f g h = λ i x. or_again (f x) (g x) (h x) i

pub none_before : (o : Option Flags) → option_map (union no_flags) o ≡ o
none_before None = refl
none_before (Some f) = refl

further : (f g : Flags) (o : Option Flag) (r : Option Flags) → Some g ≡ option_map only o → option_map (union f) (and_flag o r) ≡ option_map (union (union f g)) r
further f g None r e = cc
further f g (Some x) None e = refl
further f g (Some x) (Some h) e =
    let same : g ≡ only x = cc in
    ap Some (joined_again f (only x) h) ∙ ap (λ k. Some (union (union f k) h)) (sym same)

stopped : (f : Flags) (o : Option Flag) (r : Option Flags) → None ≡ option_map only o → option_map (union f) (and_flag o r) ≡ None
stopped f None r e = refl
stopped f (Some x) r e = cc

-- those of all, where the first is a flag, where it is none, and at their end
pub named_go_on : (all rest : Trees) (t : Tree) (f g new : Flags) (whole : Option Flags) → all ≡ more t rest → Some g ≡ option_map only (flag_named t) → new ≡ union f g
    → option_map (union f) (flags_named all) ≡ whole → option_map (union new) (flags_named rest) ≡ whole
named_go_on all rest t f g new whole here is joins h =
    ap (λ k. option_map (union k) (flags_named rest)) joins ∙ sym (further f g (flag_named t) (flags_named rest) is) ∙ ap (λ ts. option_map (union f) (flags_named ts)) (sym here) ∙ h

pub named_fault : (all rest : Trees) (t : Tree) (f : Flags) (whole : Option Flags) → all ≡ more t rest → None ≡ option_map only (flag_named t)
    → option_map (union f) (flags_named all) ≡ whole → None ≡ whole
named_fault all rest t f whole here is h = sym (stopped f (flag_named t) (flags_named rest) is) ∙ ap (λ ts. option_map (union f) (flags_named ts)) (sym here) ∙ h

pub named_done : (all : Trees) (f : Flags) (whole : Option Flags) → all ≡ none → option_map (union f) (flags_named all) ≡ whole → Some f ≡ whole
named_done all f whole past h = ap Some (sym (joined_none f)) ∙ ap (λ ts. option_map (union f) (flags_named ts)) (sym past) ∙ h

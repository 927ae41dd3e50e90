-- Patterns that one term alone matches, one after another.
use Rattle.std.proofs.Common.{◌≡◌, List, [], ◌∷◌, ◌++◌, Option, Some, None, is_some, Bool, true, false, refl, sym, ap, ◌∙◌, option_map}
use Rattle.def_term.specs.Tree.{Tree, Trees, none, more, of_elements}
use Rattle.def_spec.specs.Matching.{Pattern, Patterns, and_pattern, only_term}
use Rattle.def_spec.specs.Laws.{trees_before}
use Rattle.def_machine.specs.HeadFolds.{constant_in, constants_in, term_before, fold_head, folded_each}
use Rattle.tn_code.specs.declared.instr.Kind.{Kind}
use Rattle.tn_code.specs.declared.instr.Kind.TheVariants as kinds
use Rattle.tn_compile.specs.Folds.{shape_pattern, shape_term}

-- ---- whether each is constant

pub some-before : (x : Option Tree) (y : Option Trees) → is_some x ≡ true → is_some (term_before x y) ≡ is_some y
some-before None y e = absurd (cc)
some-before (Some t) None e = refl
some-before (Some t) (Some ts) e = refl

pub none-before : (x : Option Tree) (y : Option Trees) → is_some x ≡ false → is_some (term_before x y) ≡ false
none-before None y e = refl
none-before (Some t) y e = absurd (cc)

pub first-some : (x : Option Tree) (y : Option Trees) → is_some (term_before x y) ≡ true → is_some x ≡ true
first-some None y e = e
first-some (Some t) y e = refl

pub constant-first : (es rest : Patterns) (p : Pattern) (s : Bool) → es ≡ and_pattern p rest → is_some (constant_in p) ≡ true → is_some (constants_in es) ≡ s → is_some (constants_in rest) ≡ s
constant-first es rest p s is first h = sym (some-before (constant_in p) (constants_in rest) first) ∙ sym (ap (λ x. is_some (constants_in x)) is) ∙ h

pub not-constant-first : (es rest : Patterns) (p : Pattern) (s : Bool) → es ≡ and_pattern p rest → is_some (constant_in p) ≡ false → is_some (constants_in es) ≡ s → false ≡ s
not-constant-first es rest p s is first h = sym (none-before (constant_in p) (constants_in rest) first) ∙ sym (ap (λ x. is_some (constants_in x)) is) ∙ h

-- ---- the terms

pub mapped-some : (f : Trees → Trees) (x : Option Trees) → is_some (option_map f x) ≡ is_some x
mapped-some f None = refl
mapped-some f (Some ts) = refl

pub constant-here : (us : List Tree) (es rest : Patterns) (p : Pattern) (total : Option Trees) → es ≡ and_pattern p rest → option_map (trees_before us) (constants_in es) ≡ total → is_some total ≡ true → is_some (constant_in p) ≡ true
constant-here us es rest p total is h some =
    first-some (constant_in p) (constants_in rest) (sym (ap (λ x. is_some (constants_in x)) is) ∙ sym (mapped-some (trees_before us) (constants_in es)) ∙ ap is_some h ∙ some)

before-more : (us : List Tree) (u : Tree) (ts : Trees) → trees_before (us ++ u ∷ []) ts ≡ trees_before us (more u ts)
before-more [] u ts = refl
before-more (x ∷ us) u ts = ap (more x) (before-more us u ts)

pub mapped-more : (us : List Tree) (u : Tree) (y : Option Trees) → option_map (trees_before (us ++ u ∷ [])) y ≡ option_map (trees_before us) (term_before (Some u) y)
mapped-more us u None = refl
mapped-more us u (Some ts) = ap Some (before-more us u ts)

pub constants-more : (us vs : List Tree) (u : Tree) (es rest : Patterns) (p : Pattern) (total : Option Trees) → es ≡ and_pattern p rest → constant_in p ≡ Some u → vs ≡ us ++ u ∷ [] → option_map (trees_before us) (constants_in es) ≡ total → option_map (trees_before vs) (constants_in rest) ≡ total
constants-more us vs u es rest p total is first pushed h =
    ap (λ z. option_map (trees_before z) (constants_in rest)) pushed
    ∙ mapped-more us u (constants_in rest)
    ∙ ap (λ x. option_map (trees_before us) (term_before x (constants_in rest))) (sym first)
    ∙ sym (ap (λ x. option_map (trees_before us) (constants_in x)) is)
    ∙ h

pub before-none : (us : List Tree) → trees_before us none ≡ of_elements us
before-none [] = refl
before-none (u ∷ us) = ap (more u) (before-none us)

-- ---- folding

pub some-of : (x : Option Trees) → is_some x ≡ false → x ≡ None
some-of None e = refl
some-of (Some ts) e = absurd (cc)

pub folded-alone : (k : Kind) (ps : Patterns) (ts : Trees) → constants_in ps ≡ Some ts → fold_head (shape_pattern k ps) ≡ only_term (shape_term k ts)
folded-alone kinds.Tuple ps ts e = cc
folded-alone kinds.List ps ts e = cc

pub folded-parts : (k : Kind) (ps : Patterns) → is_some (constants_in ps) ≡ false → fold_head (shape_pattern k ps) ≡ shape_pattern k (folded_each ps)
folded-parts kinds.Tuple ps e = let is : constants_in ps ≡ None = some-of (constants_in ps) e in cc
folded-parts kinds.List ps e = let is : constants_in ps ≡ None = some-of (constants_in ps) e in cc

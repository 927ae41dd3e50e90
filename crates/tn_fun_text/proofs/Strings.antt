-- Lists that are printed as strings, and tuples with others.
use Rattle.std.proofs.Common.{◌≡◌, ◌≢◌, Bool, true, false, ◌&&◌, List, [], ◌∷◌, length, refl}
use Rattle.def_term.specs.Tree.{Tree, int, atom, pid, tuple, list, Trees, none, more}
use Rattle.def_fun.specs.FunTexts.{is_character_code, are_character_codes, is_text, has_list}
use Rattle.tn_term.specs.declared.term.Term.{Term}
use Rattle.tn_term.specs.Views.{trees_of}

pub text_of_some : {A : Type 0} (xs : List (Term A)) → length xs ≢ 0 → are_character_codes (trees_of xs) ≡ is_text (trees_of xs)
text_of_some [] some = absurd (some refl)
text_of_some (x ∷ xs) some = refl

pub several_have_none : (t u : Tree) (us : Trees) → has_list (tuple (more t (more u us))) ≡ false
several_have_none (int z) u us = refl
several_have_none (atom s) u us = refl
several_have_none (pid n) u us = refl
several_have_none (tuple ts) u us = refl
several_have_none (list ts) u us = refl

pub text_is_codes : (ts : Trees) → is_text ts ≡ true → are_character_codes ts ≡ true
text_is_codes none e = refl
text_is_codes (more t ts) e = e

first_so : (a b : Bool) → (a && b) ≡ true → a ≡ true
first_so true b e = refl
first_so false b e = absurd (cc)

second_so : (a b : Bool) → (a && b) ≡ true → b ≡ true
second_so true b e = e
second_so false b e = absurd (cc)

pub first_code : (t : Tree) (ts : Trees) → are_character_codes (more t ts) ≡ true → is_character_code t ≡ true
first_code t ts e = first_so (is_character_code t) (are_character_codes ts) e

pub other_codes : (t : Tree) (ts : Trees) → are_character_codes (more t ts) ≡ true → are_character_codes ts ≡ true
other_codes t ts e = second_so (is_character_code t) (are_character_codes ts) e

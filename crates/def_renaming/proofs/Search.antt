-- What is found for groups of messages is right, and it is found.
use Rattle.std.proofs.Common.{◌≡◌, sym, subst, ℕ, List, [], ◌∷◌, Any, Contains, flat_map, option_to_list, Option, Some, None, arith}
use Rattle.std.proofs.lemmas.List.Elements.{All-nil, All-cons, All-head, All-tail}
use Rattle.def_term.specs.Tree.{Tree}
use Rattle.def_renaming.specs.Renaming.{IsOneToOne, IsRenamedPrefix, HaveRenamedPrefixes, with_prefix_pairs, renamings_of, renamings}
use Rattle.def_renaming.specs.Laws.{HasPairsOf, FoundRenamingIsSound, RenamingIsFound}
use Rattle.def_renaming.proofs.Lists.{nothing_in, first_in, one_in, in_flat_map, flat_map_has, head_in, some_head}
use Rattle.def_renaming.proofs.Pairs.{has_itself, has_both}
use Rattle.def_renaming.proofs.Terms.{prefix_more, begun_given, begun_given_least}

in_option : {X : Type 0} (o : Option X) (x : X) → Contains (option_to_list o) x → o ≡ Some x
in_option None x h = absurd (nothing_in x h)
in_option (Some y) x h = let same = one_in y x h in cc

option_has : {X : Type 0} (o : Option X) (x : X) → o ≡ Some x → Contains (option_to_list o) x
option_has o x e = subst (λ p. Contains (option_to_list p) x) (sym e) (first_in x [])

-- ---- sound

-- the second come from the first, and by them each group is a prefix of a list
record IsFrom (groups lists : List (List Tree)) (ps qs : List (ℕ × ℕ)) : Type 0 where
  one : IsOneToOne ps → IsOneToOne qs
  has : HasPairsOf qs ps
  so : HaveRenamedPrefixes qs groups lists

-- pairs that are found come from one of those before
from_one : (groups lists : List (List Tree)) (pss : List (List (ℕ × ℕ))) (qs : List (ℕ × ℕ)) → Contains (renamings groups lists pss) qs
    → (ps : List (ℕ × ℕ)) × Contains pss ps × IsFrom groups lists ps qs
from_one [] lists pss qs h = (qs, h, record { one = λ one. one; has = has_itself qs; so = All-nil (λ group. Any (IsRenamedPrefix qs group) lists) })
from_one (group ∷ groups) lists pss qs h =
    let later = from_one groups lists (flat_map (renamings_of group lists) pss) qs h in
    let before = in_flat_map (renamings_of group lists) pss later.0 later.1 in
    let by = in_flat_map (λ us. option_to_list (with_prefix_pairs before.0 group us)) lists later.0 before.2 in
    let given = begun_given before.0 later.0 group by.0 (in_option (with_prefix_pairs before.0 group by.0) later.0 by.2) in (
      before.0,
      before.1,
      record {
        one = λ one. later.2.one (given.one one);
        has = has_both qs later.0 before.0 later.2.has given.has;
        so = All-cons (λ g. Any (IsRenamedPrefix qs g) lists) group groups (by.1.0, by.0, by.1.1, by.1.2, prefix_more qs later.0 later.2.has group by.0 given.so) later.2.so;
      },
    )

no_pairs_are_one : IsOneToOne []
no_pairs_are_one = record { there = λ i j d before below. absurd (omega (arith, below)); here = λ i j d before below. absurd (omega (arith, below)) }

pub found_is_sound : FoundRenamingIsSound
found_is_sound groups lists ps e =
    let from = from_one groups lists ([] ∷ []) ps (head_in (renamings groups lists ([] ∷ [])) ps e) in
    (from.2.one (subst IsOneToOne (one_in [] from.0 from.1) no_pairs_are_one), from.2.so)

-- ---- complete

-- pairs that do it have some that are found
finds : (groups lists : List (List Tree)) (pss : List (List (ℕ × ℕ))) (ps rs : List (ℕ × ℕ)) → Contains pss ps → IsOneToOne rs → HasPairsOf rs ps → HaveRenamedPrefixes rs groups lists
    → (qs : List (ℕ × ℕ)) × Contains (renamings groups lists pss) qs × HasPairsOf rs qs
finds [] lists pss ps rs h one has so = (ps, h, has)
finds (group ∷ groups) lists pss ps rs h one has so =
    let first = All-head (λ g. Any (IsRenamedPrefix rs g) lists) group groups so in
    let least = begun_given_least ps rs group first.1 one has first.4 in
    let at : Contains lists first.1 = (first.0, first.2, first.3) in
    let of_list = flat_map_has (λ us. option_to_list (with_prefix_pairs ps group us)) lists first.1 least.pairs at (option_has (with_prefix_pairs ps group first.1) least.pairs least.is) in
    finds groups lists (flat_map (renamings_of group lists) pss) least.pairs rs (flat_map_has (renamings_of group lists) pss ps least.pairs h of_list) one least.has
    (All-tail (λ g. Any (IsRenamedPrefix rs g) lists) group groups so)

pub renaming_is_found : RenamingIsFound
renaming_is_found groups lists ps one so =
    let all = finds groups lists ([] ∷ []) [] ps (first_in [] []) one (λ p h. absurd (nothing_in p h)) so in
    some_head (renamings groups lists ([] ∷ [])) all.0 all.1

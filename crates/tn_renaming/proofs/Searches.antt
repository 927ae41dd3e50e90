-- What a search through lists leaves, step by step.
use Rattle.std.proofs.Common.{◌≡◌, ◌∙◌, sym, ap, subst, ℕ, ◌+◌, ◌<◌, ◌≤◌, Bool, true, false, List, [], ◌∷◌, ◌++◌, length, get_or, take, drop, map, flat_map, slice_get, option_to_list, Option, Some, None, Result, IfOk, append_assoc, append-nil, refl}
use Rattle.std.specs.Prelude.{if◌then◌else◌}
use Rattle.std.proofs.lemmas.Grind.{flat_map-append}
use Rattle.std.proofs.lemmas.List.{drop_all, drop_more, length-map, take-map}
use Rattle.std.proofs.lemmas.Result.{IfOk-weaker}
use Rattle.std.proofs.Math.Seq.{take-append_seam}
use Rattle.def_term.specs.Tree.{Tree}
use Rattle.def_renaming.specs.Renaming.{with_prefix_pairs, renamings, renamings_of}
use Rattle.tn_renaming.specs.Pairs.{LeavesPairs, first_from}

-- ---- lists of pairs

renamings_apart : (groups lists : List (List Tree)) (pss qss : List (List (ℕ × ℕ))) → renamings groups lists (pss ++ qss) ≡ renamings groups lists pss ++ renamings groups lists qss
renamings_apart [] lists pss qss = refl
renamings_apart (group ∷ groups) lists pss qss =
    ap (renamings groups lists) (flat_map-append (renamings_of group lists) pss qss)
    ∙ renamings_apart groups lists (flat_map (renamings_of group lists) pss) (flat_map (renamings_of group lists) qss)

renamings_of_none : (groups lists : List (List Tree)) → renamings groups lists [] ≡ []
renamings_of_none [] lists = refl
renamings_of_none (group ∷ groups) lists = renamings_of_none groups lists

pub first_of_none : (groups lists : List (List Tree)) → first_from groups lists [] ≡ None
first_of_none groups lists = ap (λ xs. slice_get xs 0) (renamings_of_none groups lists)

head_of_rest : {X : Type 0} (xs ys : List X) → slice_get xs 0 ≡ None → slice_get (xs ++ ys) 0 ≡ slice_get ys 0
head_of_rest [] ys e = refl
head_of_rest (x ∷ xs) ys e = cc

head_of_first : {X : Type 0} (xs ys : List X) (x : X) → slice_get xs 0 ≡ Some x → slice_get (xs ++ ys) 0 ≡ Some x
head_of_first [] ys x e = cc
head_of_first (y ∷ xs) ys x e = e

first_later : (groups lists : List (List Tree)) (pss qss : List (List (ℕ × ℕ))) → first_from groups lists pss ≡ None → first_from groups lists (pss ++ qss) ≡ first_from groups lists qss
first_later groups lists pss qss e =
    ap (λ xs. slice_get xs 0) (renamings_apart groups lists pss qss) ∙ head_of_rest (renamings groups lists pss) (renamings groups lists qss) e

first_now : (groups lists : List (List Tree)) (pss qss : List (List (ℕ × ℕ))) (ps : List (ℕ × ℕ)) → first_from groups lists pss ≡ Some ps → first_from groups lists (pss ++ qss) ≡ Some ps
first_now groups lists pss qss ps e =
    ap (λ xs. slice_get xs 0) (renamings_apart groups lists pss qss) ∙ head_of_first (renamings groups lists pss) (renamings groups lists qss) ps e

-- ---- lists

module _ {L : Type 0} (view : L → List Tree) (group : List Tree) (groups lists : List (List Tree)) (ps : List (ℕ × ℕ)) (ls : List L) (i : ℕ) (l : L) (below : i < length ls) (is : l ≡ get_or ls i l) where
  from_here : flat_map (λ us. option_to_list (with_prefix_pairs ps group us)) (map view (drop i ls))
      ≡ option_to_list (with_prefix_pairs ps group (view l)) ++ flat_map (λ us. option_to_list (with_prefix_pairs ps group us)) (map view (drop (i + 1) ls))
  from_here = ap (λ xs. flat_map (λ us. option_to_list (with_prefix_pairs ps group us)) (map view xs)) (drop_more ls i l below)
      ∙ ap (λ z. option_to_list (with_prefix_pairs ps group (view z)) ++ flat_map (λ us. option_to_list (with_prefix_pairs ps group us)) (map view (drop (i + 1) ls))) (sym is)

  -- where the list gives nothing, the lists after it give what all of them do
  pub passed_here : (new : List (ℕ × ℕ)) (b : Bool) (whole : Option (List (ℕ × ℕ))) → b ≡ false
      → LeavesPairs ps (first_from groups lists (option_to_list (with_prefix_pairs ps group (view l)))) b new
      → first_from groups lists (flat_map (λ us. option_to_list (with_prefix_pairs ps group us)) (map view (drop i ls))) ≡ whole
      → first_from groups lists (flat_map (λ us. option_to_list (with_prefix_pairs ps group us)) (map view (drop (i + 1) ls))) ≡ whole
  passed_here new b whole missed leaves all =
      let none : first_from groups lists (option_to_list (with_prefix_pairs ps group (view l))) ≡ None = leaves.is ∙ ap (λ c. if c then Some new else None) missed in
      sym (ap (first_from groups lists) from_here ∙ first_later groups lists (option_to_list (with_prefix_pairs ps group (view l))) (flat_map (λ us. option_to_list (with_prefix_pairs ps group us)) (map view (drop (i + 1) ls))) none) ∙ all

  -- where it gives pairs, all of them give these
  pub found_here : (new : List (ℕ × ℕ)) (b : Bool) (whole : Option (List (ℕ × ℕ))) → b ≡ true
      → LeavesPairs ps (first_from groups lists (option_to_list (with_prefix_pairs ps group (view l)))) b new
      → first_from groups lists (flat_map (λ us. option_to_list (with_prefix_pairs ps group us)) (map view (drop i ls))) ≡ whole
      → LeavesPairs ps whole true new
  found_here new b whole found leaves all =
      let some : first_from groups lists (option_to_list (with_prefix_pairs ps group (view l))) ≡ Some new = leaves.is ∙ ap (λ c. if c then Some new else None) found in
      record {
        is = sym all ∙ ap (first_from groups lists) from_here ∙ first_now groups lists (option_to_list (with_prefix_pairs ps group (view l))) (flat_map (λ us. option_to_list (with_prefix_pairs ps group us)) (map view (drop (i + 1) ls))) new some;
        more = leaves.more;
        kept = leaves.kept;
      }

-- after the last list nothing is given
pub no_more_lists : {L : Type 0} (view : L → List Tree) (group : List Tree) (groups lists : List (List Tree)) (ps now : List (ℕ × ℕ)) (ls : List L) (i : ℕ) (whole : Option (List (ℕ × ℕ))) → length ls ≤ i → now ≡ ps
    → first_from groups lists (flat_map (λ us. option_to_list (with_prefix_pairs ps group us)) (map view (drop i ls))) ≡ whole → LeavesPairs ps whole false now
no_more_lists view group groups lists ps now ls i whole past same all = record {
  is = sym all ∙ ap (λ xs. first_from groups lists (flat_map (λ us. option_to_list (with_prefix_pairs ps group us)) (map view xs))) (drop_all i ls past) ∙ first_of_none groups lists;
  more = [];
  kept = same ∙ sym (append-nil ps);
}

-- what a call gives, which is made with the same pairs and the same messages
pub given_by : {X Y : Type 0} (f : X → Tree) (h : Y → Tree) (groups lists : List (List Tree)) (ps now new : List (ℕ × ℕ)) (xs group : List X) (ys us : List Y) (b : Bool) → now ≡ ps → xs ≡ group → ys ≡ us
    → LeavesPairs now (first_from groups lists (option_to_list (with_prefix_pairs now (map f xs) (map h ys)))) b new
    → LeavesPairs ps (first_from groups lists (option_to_list (with_prefix_pairs ps (map f group) (map h us)))) b new
given_by f h groups lists ps now new xs group ys us b same one other leaves =
    subst (λ x. LeavesPairs ps (first_from groups lists (option_to_list (with_prefix_pairs ps (map f group) (map h x)))) b new) other
    (subst (λ x. LeavesPairs ps (first_from groups lists (option_to_list (with_prefix_pairs ps (map f x) (map h ys)))) b new) one
    (subst (λ x. LeavesPairs x (first_from groups lists (option_to_list (with_prefix_pairs x (map f xs) (map h ys)))) b new) same leaves))

-- ---- pairs that are taken back

pub taken_back : {X : Type 0} (view : X → ℕ × ℕ) (old mid new : List X) (n : ℕ) (more : List (ℕ × ℕ)) → n ≡ length old → map view mid ≡ map view old ++ more → new ≡ take n mid → map view new ≡ map view old
taken_back view old mid new n more is kept e =
    ap (map view) e ∙ sym (take-map view n mid) ∙ ap (take n) kept ∙ ap (λ k. take k (map view old ++ more)) (is ∙ sym (length-map old view)) ∙ take-append_seam (map view old) more

-- ---- one list, and the rest

pub not_begun : (groups lists : List (List Tree)) (old mid : List (ℕ × ℕ)) (o : Option (List (ℕ × ℕ))) (b : Bool) → b ≡ false → LeavesPairs old o b mid
    → LeavesPairs old (first_from groups lists (option_to_list o)) false mid
not_begun groups lists old mid o b missed leaves =
    let none : o ≡ None = leaves.is ∙ ap (λ c. if c then Some mid else None) missed in
    record { is = ap (λ p. first_from groups lists (option_to_list p)) none ∙ first_of_none groups lists; more = leaves.more; kept = leaves.kept }

then_rest : (groups lists : List (List Tree)) (old mid new : List (ℕ × ℕ)) (o : Option (List (ℕ × ℕ))) (b c : Bool) → b ≡ true → LeavesPairs old o b mid
    → LeavesPairs mid (first_from groups lists (mid ∷ [])) c new → LeavesPairs old (first_from groups lists (option_to_list o)) c new
then_rest groups lists old mid new o b c found leaves later =
    let some : o ≡ Some mid = leaves.is ∙ ap (λ d. if d then Some mid else None) found in
    record {
      is = ap (λ p. first_from groups lists (option_to_list p)) some ∙ later.is;
      more = leaves.more ++ later.more;
      kept = later.kept ∙ ap (λ xs. xs ++ later.more) leaves.kept ∙ append_assoc old leaves.more later.more;
    }

pub rest_goes_on : {E : Type 0} (r : Result Bool E) (groups lists : List (List Tree)) (old mid new : List (ℕ × ℕ)) (o : Option (List (ℕ × ℕ))) (b : Bool) → b ≡ true → LeavesPairs old o b mid
    → IfOk r (λ c. LeavesPairs mid (first_from groups lists (mid ∷ [])) c new) → IfOk r (λ c. LeavesPairs old (first_from groups lists (option_to_list o)) c new)
rest_goes_on r groups lists old mid new o b found leaves later =
    IfOk-weaker r (λ c. LeavesPairs mid (first_from groups lists (mid ∷ [])) c new) (λ c. LeavesPairs old (first_from groups lists (option_to_list o)) c new)
    (λ c h. then_rest groups lists old mid new o b c found leaves h) later

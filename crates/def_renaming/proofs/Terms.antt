-- What makes one term another: it does, and it is the least that does.
use Rattle.std.proofs.Common.{◌≡◌, ◌∙◌, ap, subst, ℕ, Bool, true, cond, List, [], ◌∷◌, bytes_eq, Option, Some, None, option_and_then, refl}
use Rattle.std.specs.Ordering.{int_eq}
use Rattle.std.proofs.lemmas.Bool.{cond-true}
use Rattle.std.proofs.lemmas.Bool.Decides.{Decides-int_eq}
use Rattle.std.proofs.lemmas.Option.{cond_some}
use Rattle.std.proofs.lemmas.Slice.Eq.{bytes_eq-Decides}
use Rattle.def_term.specs.Tree.{Tree, int, atom, pid, tuple, list, Trees, none, more}
use Rattle.def_renaming.specs.Renaming.{IsOneToOne, IsRenamed, AreRenamed, IsRenamedPrefix, with_term_pairs, with_element_pairs, with_prefix_pairs}
use Rattle.def_renaming.specs.Laws.{HasPairsOf, PairsOfAPrefixAreSound, PairsOfAPrefixAreLeast}
use Rattle.def_renaming.proofs.Lists.{both_some}
use Rattle.def_renaming.proofs.Pairs.{has_itself, has_both, joined_sound, joined_least}

-- ---- with more pairs

mutual
  pub renamed_more : (qs ps : List (ℕ × ℕ)) → HasPairsOf qs ps → (t u : Tree) → IsRenamed ps t u → IsRenamed qs t u
  renamed_more qs ps has (int y) (int z) h = h
  renamed_more qs ps has (atom r) (atom s) h = h
  renamed_more qs ps has (pid m) (pid n) h = has (m, n) h
  renamed_more qs ps has (tuple ts) (tuple us) h = all_renamed_more qs ps has ts us h
  renamed_more qs ps has (list ts) (list us) h = all_renamed_more qs ps has ts us h
  renamed_more qs ps has t u h = absurd h

  all_renamed_more : (qs ps : List (ℕ × ℕ)) → HasPairsOf qs ps → (ts us : Trees) → AreRenamed ps ts us → AreRenamed qs ts us
  all_renamed_more qs ps has none none h = tt
  all_renamed_more qs ps has (more t ts) (more u us) h = (renamed_more qs ps has t u h.0, all_renamed_more qs ps has ts us h.1)
  all_renamed_more qs ps has ts us h = absurd h

pub prefix_more : (qs ps : List (ℕ × ℕ)) → HasPairsOf qs ps → (ts us : List Tree) → IsRenamedPrefix ps ts us → IsRenamedPrefix qs ts us
prefix_more qs ps has [] us h = tt
prefix_more qs ps has (t ∷ ts) [] h = absurd h
prefix_more qs ps has (t ∷ ts) (u ∷ us) h = (renamed_more qs ps has t u h.0, prefix_more qs ps has ts us h.1)

-- ---- what is given does it

-- the second are the first and more, by which something is so; one to one as before
pub record IsGiven (ps qs : List (ℕ × ℕ)) (So : Type 0) : Type 0 where
  pub one : IsOneToOne ps → IsOneToOne qs
  pub has : HasPairsOf qs ps
  pub so : So

unchanged : (b : Bool) (ps qs : List (ℕ × ℕ)) (So : Type 0) → (b ≡ true → So) → cond b (Some ps) None ≡ Some qs → IsGiven ps qs So
unchanged b ps qs So so e =
    let both = cond_some b ps qs e in
    subst (λ xs. IsGiven ps xs So) both.1 (record { one = λ one. one; has = has_itself ps; so = so both.0 })

then_given : (ps qs rs : List (ℕ × ℕ)) (First Second : Type 0) (First' : Type 0) → (HasPairsOf rs qs → First → First') → IsGiven ps qs First → IsGiven qs rs Second → IsGiven ps rs (First' × Second)
then_given ps qs rs First Second First' along a b = record {
  one = λ one. b.one (a.one one);
  has = has_both rs qs ps b.has a.has;
  so = (along b.has a.so, b.so);
}

mutual
  matched_sound : (ps qs : List (ℕ × ℕ)) (t u : Tree) → with_term_pairs ps t u ≡ Some qs → IsGiven ps qs (IsRenamed qs t u)
  matched_sound ps qs (int y) (int z) e = unchanged (int_eq y z) ps qs (y ≡ z) (Decides-int_eq y z).0 e
  matched_sound ps qs (atom r) (atom s) e = unchanged (bytes_eq r s) ps qs (r ≡ s) (bytes_eq-Decides r s).0 e
  matched_sound ps qs (pid m) (pid n) e = let more = joined_sound ps qs m n e in record { one = more.one; has = more.has; so = more.new }
  matched_sound ps qs (tuple ts) (tuple us) e = all_matched_sound ps qs ts us e
  matched_sound ps qs (list ts) (list us) e = all_matched_sound ps qs ts us e
  matched_sound ps qs t u e = cc

  all_matched_sound : (ps qs : List (ℕ × ℕ)) (ts us : Trees) → with_element_pairs ps ts us ≡ Some qs → IsGiven ps qs (AreRenamed qs ts us)
  all_matched_sound ps qs none none e = let same : ps ≡ qs = cc in subst (λ xs. IsGiven ps xs (Unit {0})) same (record { one = λ one. one; has = has_itself ps; so = tt })
  all_matched_sound ps qs (more t ts) (more u us) e =
      let two = both_some (λ xs. with_element_pairs xs ts us) (with_term_pairs ps t u) qs e in
      then_given ps two.0 qs (IsRenamed two.0 t u) (AreRenamed qs ts us) (IsRenamed qs t u) (λ has h. renamed_more qs two.0 has t u h) (matched_sound ps two.0 t u two.1) (all_matched_sound two.0 qs ts us two.2)
  all_matched_sound ps qs ts us e = cc

pub begun_given : (ps qs : List (ℕ × ℕ)) (ts us : List Tree) → with_prefix_pairs ps ts us ≡ Some qs → IsGiven ps qs (IsRenamedPrefix qs ts us)
begun_given ps qs [] us e = let same : ps ≡ qs = cc in subst (λ xs. IsGiven ps xs (Unit {0})) same (record { one = λ one. one; has = has_itself ps; so = tt })
begun_given ps qs (t ∷ ts) [] e = cc
begun_given ps qs (t ∷ ts) (u ∷ us) e =
    let two = both_some (λ xs. with_prefix_pairs xs ts us) (with_term_pairs ps t u) qs e in
    then_given ps two.0 qs (IsRenamed two.0 t u) (IsRenamedPrefix qs ts us) (IsRenamed qs t u) (λ has h. renamed_more qs two.0 has t u h) (matched_sound ps two.0 t u two.1) (begun_given two.0 qs ts us two.2)

pub begun_sound : PairsOfAPrefixAreSound
begun_sound ps qs there here one e = let given = begun_given ps qs there here e in (given.one one, given.has, given.so)

-- ---- it is the least

-- something is given, and these pairs have it
pub record IsLeast (rs : List (ℕ × ℕ)) (given : Option (List (ℕ × ℕ))) : Type 0 where
  pub pairs : List (ℕ × ℕ)
  pub is : given ≡ Some pairs
  pub has : HasPairsOf rs pairs

the_same : (b : Bool) (ps rs : List (ℕ × ℕ)) → b ≡ true → HasPairsOf rs ps → IsLeast rs (cond b (Some ps) None)
the_same b ps rs so has = record { pairs = ps; is = cond-true b (Some ps) None so; has = has }

then_least : (rs : List (ℕ × ℕ)) (f : List (ℕ × ℕ) → Option (List (ℕ × ℕ))) (o : Option (List (ℕ × ℕ))) → (a : IsLeast rs o) → IsLeast rs (f a.pairs) → IsLeast rs (option_and_then f o)
then_least rs f o a b = record { pairs = b.pairs; is = ap (option_and_then f) a.is ∙ b.is; has = b.has }

mutual
  matched_least : (ps rs : List (ℕ × ℕ)) (t u : Tree) → IsOneToOne rs → HasPairsOf rs ps → IsRenamed rs t u → IsLeast rs (with_term_pairs ps t u)
  matched_least ps rs (int y) (int z) one has h = the_same (int_eq y z) ps rs ((Decides-int_eq y z).1 h) has
  matched_least ps rs (atom r) (atom s) one has h = the_same (bytes_eq r s) ps rs ((bytes_eq-Decides r s).1 h) has
  matched_least ps rs (pid m) (pid n) one has h = let least = joined_least ps rs m n one has h in record { pairs = least.0; is = least.1; has = least.2 }
  matched_least ps rs (tuple ts) (tuple us) one has h = all_matched_least ps rs ts us one has h
  matched_least ps rs (list ts) (list us) one has h = all_matched_least ps rs ts us one has h
  matched_least ps rs t u one has h = absurd h

  all_matched_least : (ps rs : List (ℕ × ℕ)) (ts us : Trees) → IsOneToOne rs → HasPairsOf rs ps → AreRenamed rs ts us → IsLeast rs (with_element_pairs ps ts us)
  all_matched_least ps rs none none one has h = record { pairs = ps; is = refl; has = has }
  all_matched_least ps rs (more t ts) (more u us) one has h =
      let first = matched_least ps rs t u one has h.0 in
      then_least rs (λ xs. with_element_pairs xs ts us) (with_term_pairs ps t u) first (all_matched_least first.pairs rs ts us one first.has h.1)
  all_matched_least ps rs ts us one has h = absurd h

pub begun_given_least : (ps rs : List (ℕ × ℕ)) (ts us : List Tree) → IsOneToOne rs → HasPairsOf rs ps → IsRenamedPrefix rs ts us → IsLeast rs (with_prefix_pairs ps ts us)
begun_given_least ps rs [] us one has h = record { pairs = ps; is = refl; has = has }
begun_given_least ps rs (t ∷ ts) [] one has h = absurd h
begun_given_least ps rs (t ∷ ts) (u ∷ us) one has h =
    let first = matched_least ps rs t u one has h.0 in
    then_least rs (λ xs. with_prefix_pairs xs ts us) (with_term_pairs ps t u) first (begun_given_least first.pairs rs ts us one first.has h.1)

pub begun_least : PairsOfAPrefixAreLeast
begun_least ps rs there here one has h = let least = begun_given_least ps rs there here one has h in (least.pairs, least.is, least.has)

-- The first entry that shows a match, or that shows none.
use Rattle.std.proofs.Common.{◌≡◌, ◌∙◌, ℕ, zero, suc, ◌+◌, ◌<◌, ◌≤◌, List, [], ◌∷◌, ◌++◌, Bool, true, false, cond, length, drop, get_or, refl, sym, ap, arith, map, flat_map}
use Rattle.std.proofs.lemmas.List.{drop_more, drop_all}
use Rattle.std.specs.Prelude.{Some, slice_get, unwrap_or, ◌||◌}
use Rattle.std.specs.List.{list_any}
use Rattle.std.proofs.Math.Bool.{beq}
use Rattle.def_spec.specs.Matching.{Pattern}
use Rattle.def_explore.specs.Answers.{RestEntry}
use Rattle.def_explore.specs.Words.{shows, shown_by, missed_by}
use Rattle.tn_answers.specs.AnswerViews.{first_journal}

journal_here : (a : Pattern) (es : List RestEntry) (s b : Bool) (x : RestEntry) → b ≡ shows a x.kept → beq b s ≡ true → first_journal s a (x ∷ es) ≡ Some x.journal
journal_here a es true true x is same = ap (λ c. cond c (Some x.journal) (shown_by a es)) (sym is)
journal_here a es false false x is same = ap (λ c. cond c (missed_by a es) (Some x.journal)) (sym is)
journal_here a es true false x is same = cc
journal_here a es false true x is same = cc

journal_later : (a : Pattern) (es : List RestEntry) (s b : Bool) (x : RestEntry) → b ≡ shows a x.kept → beq b s ≡ false → first_journal s a (x ∷ es) ≡ first_journal s a es
journal_later a es true false x is other = ap (λ c. cond c (Some x.journal) (shown_by a es)) (sym is)
journal_later a es false true x is other = ap (λ c. cond c (missed_by a es) (Some x.journal)) (sym is)
journal_later a es true true x is other = cc
journal_later a es false false x is other = cc

one_later : (i : ℕ) → suc (i + 1) ≡ suc i + 1
one_later i = omega arith

pub first_here : (s : Bool) (a : Pattern) (es : List RestEntry) (i : ℕ) (e : RestEntry) (b : Bool) → slice_get es i ≡ Some e → b ≡ shows a e.kept → beq b s ≡ true → first_journal s a (drop i es) ≡ Some e.journal
first_here s a [] zero e b at is same = cc
first_here s a [] (suc i) e b at is same = cc
first_here s a (x ∷ es) zero e b at is same =
    let here : x ≡ e = ap (λ o. unwrap_or o x) at in
    journal_here a es s b x (is ∙ ap (λ (y : RestEntry). shows a y.kept) (sym here)) same ∙ ap (λ (y : RestEntry). Some y.journal) here
first_here s a (x ∷ es) (suc i) e b at is same = first_here s a es i e b at is same

pub first_later : (s : Bool) (a : Pattern) (es : List RestEntry) (i : ℕ) (e : RestEntry) (b : Bool) → slice_get es i ≡ Some e → b ≡ shows a e.kept → beq b s ≡ false → first_journal s a (drop i es) ≡ first_journal s a (drop (i + 1) es)
first_later s a [] zero e b at is other = cc
first_later s a [] (suc i) e b at is other = cc
first_later s a (x ∷ es) zero e b at is other =
    let here : x ≡ e = ap (λ o. unwrap_or o x) at in
    journal_later a es s b x (is ∙ ap (λ (y : RestEntry). shows a y.kept) (sym here)) other
first_later s a (x ∷ es) (suc i) e b at is other = first_later s a es i e b at is other ∙ ap (λ k. first_journal s a (drop k (x ∷ es))) (one_later i)

-- ---- one of several

or_assoc : (u v w : Bool) → ((u || v) || w) ≡ (u || (v || w))
or_assoc true v w = refl
or_assoc false v w = refl

or_false : (u : Bool) → (u || false) ≡ u
or_false true = refl
or_false false = refl

pub any_more : {X : Type 0} (f : X → Bool) (xs : List X) (i : ℕ) (x : X) (now one after whole : Bool) → i < length xs → x ≡ get_or xs i x → (now || list_any f (drop i xs)) ≡ whole → one ≡ f x → after ≡ (now || one) → (after || list_any f (drop (i + 1) xs)) ≡ whole
any_more f xs i x now one after whole below is so_far here made =
    ap (λ b. b || list_any f (drop (i + 1) xs)) (made ∙ ap (λ b. now || b) (here ∙ ap f is))
    ∙ or_assoc now (f (get_or xs i x)) (list_any f (drop (i + 1) xs))
    ∙ ap (λ ys. now || list_any f ys) (sym (drop_more xs i x below))
    ∙ so_far

pub any_all : {X : Type 0} (f : X → Bool) (xs : List X) (i : ℕ) (now whole : Bool) → length xs ≤ i → (now || list_any f (drop i xs)) ≡ whole → now ≡ whole
any_all f xs i now whole past so_far = sym (or_false now) ∙ ap (λ ys. now || list_any f ys) (sym (drop_all i xs past)) ∙ so_far

-- ---- what is seen of the elements of a list

pub seen_parts : {X Y : Type 0} (f : Y → List ℕ) (view : X → Y) (xs : List X) → flat_map (λ x. f (view x)) xs ≡ flat_map f (map view xs)
seen_parts f view [] = refl
seen_parts f view (x ∷ xs) = ap (λ ys. f (view x) ++ ys) (seen_parts f view xs)

pub seen_any : {X Y : Type 0} (f : Y → Bool) (view : X → Y) (xs : List X) → list_any (λ x. f (view x)) xs ≡ list_any f (map view xs)
seen_any f view [] = refl
seen_any f view (x ∷ xs) = ap (λ b. f (view x) || b) (seen_any f view xs)

-- three texts after none
pub whole_text : (n0 n1 n2 n3 a b c d : List ℕ) → n0 ≡ [] → n1 ≡ n0 ++ a → n2 ≡ n1 ++ b → n3 ≡ n2 ++ c ++ d → n3 ≡ a ++ b ++ c ++ d
whole_text n0 n1 n2 n3 a b c d none first second third =
    third ∙ ap (λ x. x ++ c ++ d) (second ∙ ap (λ x. x ++ b) (first ∙ ap (λ x. x ++ a) none))

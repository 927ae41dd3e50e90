-- The first entry that shows a trace, and the longest prefix, one step at a time.
use Rattle.std.proofs.Common.{◌≡◌, ◌<◌, ◌+◌, ℕ, zero, suc, List, [], ◌∷◌, Bool, true, false, refl, sym, ◌∙◌, ap, arith, drop, length}
use Rattle.std.specs.Prelude.{Option, Some, None, is_some, slice_get, option_map}
use Rattle.def_term.specs.Tree.{Tree}
use Rattle.def_explore.specs.Answers.{RestEntry}
use Rattle.def_explore.specs.Rests.{KeptMessages}
use Rattle.def_compare.specs.Traces.{TraceQuestion, shown_pairs}
use Rattle.def_compare.specs.Entries.{Match, Prefix, match_or, first_match, prefix_or, prefix_match, longest_prefix}

pub is_mapped : {X Y : Type 0} (f : X → Y) (o : Option X) (b : Bool) → is_some o ≡ b → is_some (option_map f o) ≡ b
is_mapped f None b h = h
is_mapped f (Some x) b h = h

not_none : true ≡ false → ⊥
not_none h = cc

-- ---- one entry

pub match_is : (a : TraceQuestion) (x e : RestEntry) (picks : List ℕ) (ps : List (ℕ × ℕ)) → x ≡ e → picks ≡ x.journal → shown_pairs a x.kept ≡ Some ps
    → Some (record { entry = record { kept = x.kept; journal = picks }; pairs = ps }) ≡ match_or e (shown_pairs a e.kept) None
match_is a x e picks ps same journal is =
    (λ i. Some (record { entry = record { kept = x.kept; journal = journal i }; pairs = ps }))
    ∙ ap (λ o. match_or x o None) (sym is)
    ∙ ap (λ (y : RestEntry). match_or y (shown_pairs a y.kept) None) same

pub no_match_is : (a : TraceQuestion) (x e : RestEntry) → x ≡ e → shown_pairs a x.kept ≡ None → None ≡ match_or e (shown_pairs a e.kept) None
no_match_is a x e same is = ap (λ o. match_or x o None) (sym is) ∙ ap (λ (y : RestEntry). match_or y (shown_pairs a y.kept) None) same

-- ---- the first

one_later : (i : ℕ) → suc (i + 1) ≡ suc i + 1
one_later i = omega arith

pub found_here : (f : KeptMessages → Option (List (ℕ × ℕ))) (es : List RestEntry) (i : ℕ) (o : Option Match) → i < length es → is_some o ≡ true
    → ((e : RestEntry) → slice_get es i ≡ Some e → o ≡ match_or e (f e.kept) None) → o ≡ first_match f (drop i es)
found_here f [] i o below some made = absurd (omega (arith, below))
found_here f (e ∷ es) zero o below some made = go (f e.kept) (made e refl)
  where
    go : (p : Option (List (ℕ × ℕ))) → o ≡ match_or e p None → o ≡ match_or e p (first_match f es)
    go (Some ps) h = h
    go None h = absurd (not_none (sym some ∙ ap is_some h))
found_here f (e ∷ es) (suc i) o below some made = found_here f es i o (omega (arith, below)) some made

pub found_later : (f : KeptMessages → Option (List (ℕ × ℕ))) (es : List RestEntry) (i : ℕ) (o : Option Match) → i < length es → is_some o ≡ false
    → ((e : RestEntry) → slice_get es i ≡ Some e → o ≡ match_or e (f e.kept) None) → first_match f (drop i es) ≡ first_match f (drop (i + 1) es)
found_later f [] i o below none made = absurd (omega (arith, below))
found_later f (e ∷ es) zero o below none made = go (f e.kept) (made e refl)
  where
    go : (p : Option (List (ℕ × ℕ))) → o ≡ match_or e p None → match_or e p (first_match f es) ≡ first_match f es
    go (Some ps) h = absurd (not_none (ap is_some (sym h) ∙ none))
    go None h = refl
found_later f (e ∷ es) (suc i) o below none made = found_later f es i o (omega (arith, below)) none made ∙ ap (λ k. first_match f (drop k (e ∷ es))) (one_later i)

-- ---- the longest prefix

pub prefix_found : (n : ℕ) (o : Option Match) (m : Match) → o ≡ Some m → Some (record { count = n; by = m }) ≡ prefix_or n o None
prefix_found n o m is = ap (λ p. prefix_or n p None) (sym is)

pub no_prefix : (n : ℕ) (o : Option Match) → o ≡ None → None ≡ prefix_or n o None
no_prefix n o is = ap (λ p. prefix_or n p None) (sym is)

pub longest_here : (ms : List Tree) (es : List RestEntry) (n : ℕ) (o : Option Prefix) → is_some o ≡ true → o ≡ prefix_or n (prefix_match ms es n) None → o ≡ longest_prefix ms es n
longest_here ms es zero o some made = made
longest_here ms es (suc n) o some made = go (prefix_match ms es (suc n)) made
  where
    go : (p : Option Match) → o ≡ prefix_or (suc n) p None → o ≡ prefix_or (suc n) p (longest_prefix ms es n)
    go (Some m) h = h
    go None h = absurd (not_none (sym some ∙ ap is_some h))

shorter : (ms : List Tree) (es : List RestEntry) (n : ℕ) (o : Option Prefix) → is_some o ≡ false → o ≡ prefix_or (suc n) (prefix_match ms es (suc n)) None → longest_prefix ms es (suc n) ≡ longest_prefix ms es n
shorter ms es n o none made = go (prefix_match ms es (suc n)) made
  where
    go : (p : Option Match) → o ≡ prefix_or (suc n) p None → prefix_or (suc n) p (longest_prefix ms es n) ≡ longest_prefix ms es n
    go (Some m) h = absurd (not_none (ap is_some (sym h) ∙ none))
    go None h = refl

pub longest_later : (ms : List Tree) (es : List RestEntry) (m n : ℕ) (o : Option Prefix) → m ≡ suc n → is_some o ≡ false → o ≡ prefix_or m (prefix_match ms es m) None → longest_prefix ms es m ≡ longest_prefix ms es n
longest_later ms es zero n o is none made = cc
longest_later ms es (suc m) n o is none made = shorter ms es m o none made ∙ ap (longest_prefix ms es) (omega (arith, is))

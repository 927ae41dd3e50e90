-- Names that are added stay where they are.
use Rattle.std.proofs.Common.{◌≡◌, ◌≢◌, ◌⊎◌, ℕ, ◌+◌, List, [], ◌∷◌, ◌++◌, Bool, true, false, ◌||◌, cond, Option, Some, None, refl, ap, ap₂, sym, ◌∙◌, inl, inr}
use Rattle.std.specs.Str.{bytes_eq}
use Rattle.std.proofs.lemmas.List.{append_assoc, append-nil}
use Rattle.def_term.specs.Names.{Name}
use Rattle.def_term.specs.Text.{is_among}
use Rattle.def_fun.specs.Variables.{ANY, ClauseNames, is_of_whole, with_name, with_names, number_among, the_whole, anything_there, of_no_head, kind_of_number, variable_kind}
use Rattle.def_fun.proofs.NamesGrow.{names_after, names_grow}
use Rattle.def_fun.proofs.NumberedNames.{equal_names, bound, kinds, has_number, among_numbered}
use Rattle.tn_translation.specs.Names.{more_names, Extends}

number_kept_by : (b : Bool) (k : ℕ) (ns more : List Name) (s : Name) (j : ℕ) → (number_among (k + 1) ns s ≡ Some j → number_among (k + 1) (ns ++ more) s ≡ Some j)
    → cond b (Some k) (number_among (k + 1) ns s) ≡ Some j → cond b (Some k) (number_among (k + 1) (ns ++ more) s) ≡ Some j
number_kept_by true k ns more s j later h = h
number_kept_by false k ns more s j later h = later h

number_kept : (k : ℕ) (ns more : List Name) (s : Name) (j : ℕ) → number_among k ns s ≡ Some j → number_among k (ns ++ more) s ≡ Some j
number_kept k [] more s j h = absurd (let none : None ≡ Some j = h in cc)
number_kept k (n ∷ ns) more s j h = number_kept_by (bytes_eq n s) k ns more s j (λ g. number_kept (k + 1) ns more s j g) h

stays_by : (x a : Bool) (o p : Option ℕ) → (x ≡ true) ⊎ ((a ≡ true) ⊎ (o ≢ None)) → ((j : ℕ) → o ≡ Some j → p ≡ Some j) → cond x the_whole (cond a anything_there (kind_of_number p)) ≡ cond x the_whole (cond a anything_there (kind_of_number o))
stays_by true a o p h f = refl
stays_by false true o p h f = refl
stays_by false false o p (inl h) f = absurd (let no : false ≡ true = h in cc)
stays_by false false o p (inr (inl h)) f = absurd (let no : false ≡ true = h in cc)
stays_by false false None p (inr (inr h)) f = absurd (h refl)
stays_by false false (Some j) p (inr (inr h)) f = ap kind_of_number (f j refl)

among_itself : (s : Name) → is_among (s ∷ []) s ≡ true
among_itself s = ap (λ b. b || false) (equal_names s s refl)

-- what a variable is stays, once its name is among the names
pub kind_stays : (w : Option Name) (ns : List Name) (s : Name) (rest : List Name) →
    variable_kind (record { of_whole = w; numbers = with_names w ns (s ∷ rest) }) s ≡ variable_kind (record { of_whole = w; numbers = with_names w ns (s ∷ []) }) s
kind_stays w ns s rest =
    let us = with_name w ns s in
    let grown = names_grow w us rest in
    stays_by (is_of_whole w s) (bytes_eq s ANY) (number_among 1 us s) (number_among 1 (with_names w us rest) s) (kinds w us s (bound w ns (s ∷ []) s (among_itself s)))
    (λ j h. ap (λ l. number_among 1 l s) grown.1 ∙ number_kept 1 us grown.0 s j h)

-- ---- one more name

new_by : (x a b : Bool) (o : Option ℕ) (ns : List Name) (s : Name) → (b ≡ true → o ≢ None) → cond x the_whole (cond a anything_there (kind_of_number o)) ≡ of_no_head → cond (x || (a || b)) ns (ns ++ s ∷ []) ≡ ns ++ s ∷ []
new_by true a b o ns s f h = absurd (let no : the_whole ≡ of_no_head = h in cc)
new_by false true b o ns s f h = absurd (let no : anything_there ≡ of_no_head = h in cc)
new_by false false true None ns s f h = absurd (f refl refl)
new_by false false true (Some k) ns s f h = absurd (let no : kind_of_number (Some k) ≡ of_no_head = h in cc)
new_by false false false o ns s f h = refl

pub new_name : (ns : ClauseNames) (s : Name) → variable_kind ns s ≡ of_no_head → with_name ns.of_whole ns.numbers s ≡ ns.numbers ++ s ∷ []
new_name ns s h = new_by (is_of_whole ns.of_whole s) (bytes_eq s ANY) (is_among ns.numbers s) (number_among 1 ns.numbers s) ns.numbers s (has_number 1 ns.numbers s) h

old_by : (x a b : Bool) (o : Option ℕ) (ns : List Name) (s : Name) → (o ≢ None → b ≡ true) → cond x the_whole (cond a anything_there (kind_of_number o)) ≢ of_no_head → cond (x || (a || b)) ns (ns ++ s ∷ []) ≡ ns
old_by true a b o ns s f h = refl
old_by false true b o ns s f h = refl
old_by false false true o ns s f h = refl
old_by false false false None ns s f h = absurd (h refl)
old_by false false false (Some k) ns s f h = absurd (let no : false ≡ true = f (λ e. let none : Some k ≡ None = e in cc) in cc)

pub old_name : (ns : ClauseNames) (s : Name) → variable_kind ns s ≢ of_no_head → with_name ns.of_whole ns.numbers s ≡ ns.numbers
old_name ns s h = old_by (is_of_whole ns.of_whole s) (bytes_eq s ANY) (is_among ns.numbers s) (number_among 1 ns.numbers s) ns.numbers s (among_numbered 1 ns.numbers s) h

-- ---- names with more after them

pub more_after : (ns : ClauseNames) (ss us : List Name) → more_names ns (ss ++ us) ≡ more_names (more_names ns ss) us
more_after ns ss us = ap (λ l. record { of_whole = ns.of_whole; numbers = l }) (names_after ns.of_whole ns.numbers ss us)

pub extends_first : (ns all : ClauseNames) (ss us : List Name) → Extends ns (ss ++ us) all → Extends ns ss all
extends_first ns all ss us e = (us ++ e.0, e.1 ∙ ap (more_names ns) (append_assoc ss us e.0))

-- from other names that lead to the same
pub extends_from : (a b all : ClauseNames) (ss us : List Name) → more_names b us ≡ more_names a ss → Extends a ss all → Extends b us all
extends_from a b all ss us h e = (e.0, e.1 ∙ more_after a ss e.0 ∙ ap (λ c. more_names c e.0) (sym h) ∙ sym (more_after b us e.0))

pub extends_later : (ns now all : ClauseNames) (ss us : List Name) → now ≡ more_names ns ss → Extends ns (ss ++ us) all → Extends now us all
extends_later ns now all ss us h e = extends_from ns now all (ss ++ us) us (ap (λ c. more_names c us) h ∙ sym (more_after ns ss us)) e

pub extends_all : (ns all : ClauseNames) (ss : List Name) → all ≡ more_names ns ss → Extends ns ss all
extends_all ns all ss h = ([], h ∙ ap (more_names ns) (sym (append-nil ss)))

pub more_twice : (ns now later : ClauseNames) (ss us : List Name) → now ≡ more_names ns ss → later ≡ more_names now us → later ≡ more_names ns (ss ++ us)
more_twice ns now later ss us h e = e ∙ ap (λ c. more_names c us) h ∙ sym (more_after ns ss us)

-- the names after one was added
pub names_added : (old now : ClauseNames) (n s : Name) → n ≡ s → now.of_whole ≡ old.of_whole → now.numbers ≡ with_name old.of_whole old.numbers n → now ≡ more_names old (s ∷ [])
names_added old now n s is whole numbers = ap₂ (λ x y. record { of_whole = x; numbers = y }) whole (numbers ∙ ap (with_name old.of_whole old.numbers) is)

-- what that variable is then, it is in a head with more
pub added_kind : (old now all : ClauseNames) (s : Name) → now ≡ more_names old (s ∷ []) → Extends old (s ∷ []) all → variable_kind now s ≡ variable_kind all s
added_kind old now all s h e = ap (λ c. variable_kind c s) h ∙ sym (kind_stays old.of_whole old.numbers s e.0) ∙ sym (ap (λ c. variable_kind c s) e.1)

-- The arguments of commands, the newest command that has a function among its own, and how many functions a command matches.
use Rattle.std.proofs.Common.{◌≡◌, ◌≢◌, ◌∙◌, ◌+◌, ◌<◌, ◌==◌, ◌||◌, ℕ, suc, Bool, true, false, if◌then◌else◌, List, [], ◌∷◌, length, get_or, take, map, reverse, Option, Some, None, refl, sym, ap, ap₂, arith}
use Rattle.std.specs.List.{filter}
use Rattle.std.specs.declared.cmp.Ordering.{Ordering}
use Rattle.std.specs.declared.cmp.Ordering.TheVariants.{Less, Equal, Greater}
use Rattle.std.specs.Ordering.{ordering_then, is_eq}
use Rattle.std.proofs.lemmas.Bool.Decides.{nat_tests}
use Rattle.std.proofs.lemmas.List.{take_more, map-append, length-append, reverse-append}
use Rattle.std.proofs.lemmas.List.Elements.{filter-append}
use Rattle.def_term.specs.Tree.{Tree, tuple, list, none, more}
use Rattle.def_term.specs.Order.{tree_cmp, same}
use Rattle.def_term.specs.Names.{word}
use Rattle.std.specs.Prelude.{Ok}
use Rattle.def_node.specs.Event.{Call}
use Rattle.def_spec.specs.Expressions.{for_calls}
use Rattle.def_session.specs.Settings.{Setting, off, FunctionPattern, pattern_by, trace_pattern_of, options_of, FunctionSetting as Accepted, has_among, setting_for, setting_of}
use Rattle.def_script.specs.Exports.{Exports}
use Rattle.def_session.specs.State.{Session}
use Rattle.def_session.specs.Commands.{refuse, function_set, function_set_if}
use Rattle.std.specs.Option.{option_map}
use Rattle.def_term.specs.Names.{Mfa}
use Rattle.tn_session.specs.declared.shared_spec.SharedSpec.{SharedSpec}
use Rattle.tn_index.specs.declared.function_setting.FunctionSetting.{FunctionSetting}
use Rattle.tn_index.specs.Views.{covers}
use Rattle.tn_index.specs.Newest.{newest_setting}
use Rattle.tn_session.specs.Views.{function_setting_seen, settings_seen}
use Rattle.tn_session.specs.Newest.{newest_with, setting_of_command}
use Rattle.tn_session.specs.Replies.{covered_so}
use Rattle.tn_term.specs.Views.{tree_of, trees_of}
use Rattle.tn_term.specs.declared.term.Term.{Term}

-- ---- lists and tuples of some size

not_empty : (n : ℕ) → false ≡ (suc n == 0)
not_empty n = grind (arith, nat_tests)

-- [] and no other list
pub empty_list : {A : Type 0} (xs : List (Term A)) (n : ℕ) (r : Bool) → n ≡ length xs → r ≡ (n == 0) → r ≡ same (list (trees_of xs)) (list none)
empty_list [] n r e h = h ∙ ap (λ k. k == 0) e
empty_list (x ∷ xs) n r e h = h ∙ ap (λ k. k == 0) e ∙ sym (not_empty (length xs))

pub not_three : {A : Type 0} (xs : List (Term A)) → length xs ≢ 3 → None ≡ trace_pattern_of (tuple (trees_of xs))
not_three [] other = refl
not_three (x ∷ []) other = refl
not_three (x ∷ y ∷ []) other = refl
not_three (x ∷ y ∷ z ∷ []) other = absurd (other refl)
not_three (x ∷ y ∷ z ∷ w ∷ ws) other = refl

pub of_three : {A : Type 0} (xs : List (Term A)) (x y z : Term A) → length xs ≡ 3 → x ≡ get_or xs 0 x → y ≡ get_or xs 1 y → z ≡ get_or xs 2 z
    → pattern_by (tree_of x) (tree_of y) (tree_of z) ≡ trace_pattern_of (tuple (trees_of xs))
of_three [] x y z three a b c = absurd (omega arith)
of_three (p ∷ []) x y z three a b c = absurd (omega arith)
of_three (p ∷ q ∷ []) x y z three a b c = absurd (omega arith)
of_three (p ∷ q ∷ r ∷ []) x y z three a b c = λ i. pattern_by (tree_of (a i)) (tree_of (b i)) (tree_of (c i))
of_three (p ∷ q ∷ r ∷ s ∷ ss) x y z three a b c = absurd (omega arith)

-- ---- options

alone : (r : Ordering) → is_eq (ordering_then r Equal) ≡ is_eq r
alone Less = refl
alone Equal = refl
alone Greater = refl

never : (r : Ordering) → is_eq (ordering_then r Greater) ≡ false
never Less = refl
never Equal = refl
never Greater = refl

-- two elements and more are no option
several : (t u : Tree) (ts : _) → None ≡ options_of (list (more t (more u ts)))
several t u ts =
    ap₂ (λ a b. if a then Some false else if b then Some true else None) (sym (never (tree_cmp t (word "global")))) (sym (never (tree_cmp t (word "local"))))

pub one_option : (t : Tree) (is_global is_local : Bool) → is_global ≡ same t (word "global") → is_local ≡ same t (word "local")
    → (if is_global then Some false else if is_local then Some true else None) ≡ options_of (list (more t none))
one_option t is_global is_local a b =
    ap₂ (λ x y. if x then Some false else if y then Some true else None)
    (a ∙ sym (alone (tree_cmp t (word "global")))) (b ∙ sym (alone (tree_cmp t (word "local"))))

pub not_one : {A : Type 0} (xs : List (Term A)) → length xs ≢ 0 → length xs ≢ 1 → None ≡ options_of (list (trees_of xs))
not_one [] some other = absurd (some refl)
not_one (x ∷ []) some other = absurd (other refl)
not_one (x ∷ y ∷ ys) some other = several (tree_of x) (tree_of y) (trees_of ys)

pub of_one : {A : Type 0} (xs : List (Term A)) (x : Term A) → length xs ≡ 1 → x ≡ get_or xs 0 x → options_of (list (more (tree_of x) none)) ≡ options_of (list (trees_of xs))
of_one [] x one a = absurd (omega arith)
of_one (p ∷ []) x one a = λ i. options_of (list (more (tree_of (a i)) none))
of_one (p ∷ q ∷ qs) x one a = absurd (omega arith)

pub no_options : {A : Type 0} (xs : List (Term A)) → length xs ≡ 0 → Some false ≡ options_of (list (trees_of xs))
no_options [] e = refl
no_options (x ∷ xs) e = absurd (omega arith)

-- ---- from the newest

newest_by : {A : Type 0} (b : Bool) (k : FunctionSetting (SharedSpec A) A) (ks : List (FunctionSetting (SharedSpec A) A)) (f : Mfa) (x : Bool) → newest_with (settings_seen ks) f x ≡ option_map function_setting_seen (newest_setting ks f x)
    → (if b then Some (function_setting_seen k) else newest_with (settings_seen ks) f x) ≡ option_map function_setting_seen (if b then Some k else newest_setting ks f x)
newest_by true k ks f x older = refl
newest_by false k ks f x older = older

-- the newest of the code's is the definition's
pub newest_seen : {A : Type 0} (ks : List (FunctionSetting (SharedSpec A) A)) (f : Mfa) (x : Bool) → newest_with (settings_seen ks) f x ≡ option_map function_setting_seen (newest_setting ks f x)
newest_seen [] f x = refl
newest_seen (k ∷ ks) f x = newest_by (covers k f x) k ks f x (newest_seen ks f x)

-- ---- how many match

one_kept : {Y : Type 0} (p : Y → Bool) (y : Y) (b : Bool) → b ≡ p y → length (filter p (y ∷ [])) ≡ length (if b then y ∷ [] else [])
one_kept p y b e = ap (λ c. length (if c then y ∷ [] else [])) (sym e)

some_more : {Y : Type 0} (n : ℕ) (y : Y) (b : Bool) → n + length (if b then y ∷ [] else []) ≡ (if b then n + 1 else n)
some_more n y true = refl
some_more n y false = omega arith

-- one more of the first
pub one_more : {X Y : Type 0} (p : Y → Bool) (f : X → Y) (xs : List X) (i : ℕ) (x : X) (b : Bool) → i < length xs → x ≡ get_or xs i x → b ≡ p (f x)
    → length (filter p (map f (take (i + 1) xs))) ≡ (if b then length (filter p (map f (take i xs))) + 1 else length (filter p (map f (take i xs))))
one_more p f xs i x b below is e =
    ap (λ ys. length (filter p (map f ys))) (take_more xs i x below)
    ∙ ap (λ ys. length (filter p ys)) (map-append f (take i xs) (get_or xs i x ∷ []))
    ∙ ap length (filter-append p (map f (take i xs)) (f (get_or xs i x) ∷ []))
    ∙ length-append (filter p (map f (take i xs))) (filter p (f (get_or xs i x) ∷ []))
    ∙ ap (λ y. length (filter p (map f (take i xs))) + length (filter p (f y ∷ []))) (sym is)
    ∙ ap (λ n. length (filter p (map f (take i xs))) + n) (one_kept p (f x) b e)
    ∙ some_more (length (filter p (map f (take i xs)))) (f x) b

-- ---- settings of functions

newest_or : (b : Bool) (k : Accepted) (ks : List Accepted) (c : Call) → setting_for ks c ≡ setting_of_command (newest_with ks c.mfa c.exported) c.named
    → (if b then (if k.local || c.named then k.setting else off) else setting_for ks c) ≡ setting_of_command (if b then Some k else newest_with ks c.mfa c.exported) c.named
newest_or true k ks c older = refl
newest_or false k ks c older = older

pub by_newest : (ks : List Accepted) (c : Call) → setting_for ks c ≡ setting_of_command (newest_with ks c.mfa c.exported) c.named
by_newest [] c = refl
by_newest (k ∷ ks) c = newest_or (has_among k c.mfa c.exported) k ks c (by_newest ks c)

-- the settings in the order of the commands
pub reverse_mapped : {X Y : Type 0} (f : X → Y) (xs : List X) → reverse (map f (reverse xs)) ≡ map f xs
reverse_mapped f [] = refl
reverse_mapped f (x ∷ xs) =
    ap (λ ys. reverse (map f ys)) (reverse-append (x ∷ []) xs)
    ∙ ap reverse (map-append f (reverse xs) (x ∷ []))
    ∙ reverse-append (map f (reverse xs)) (f x ∷ [])
    ∙ ap (λ ys. f x ∷ ys) (reverse_mapped f xs)

-- arguments that are no good are refused, whatever the others are
pub options_refused : (o : Exports) (s : Session) (x : Option FunctionPattern) (spec : Tree) → function_set_if o s x None spec ≡ refuse s
options_refused o s None spec = refl
options_refused o s (Some covered) spec = refl

pub accepted : (o : Exports) (s : Session) (x : Option FunctionPattern) (y : Option Bool) (spec : Tree) (covered : FunctionPattern) (local : Bool) (setting : Setting)
    → Some covered ≡ x → Some local ≡ y → setting_of for_calls spec ≡ Ok setting
    → function_set_if o s x y spec ≡ covered_so o s (record { covered = covered; setting = setting; local = local })
accepted o s x y spec covered local setting a b d =
    ap (λ u. function_set_if o s u y spec) (sym a) ∙ ap (λ v. function_set_if o s (Some covered) v spec) (sym b) ∙ ap (function_set o s covered local) d

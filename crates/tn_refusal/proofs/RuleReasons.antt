-- Searches for what breaks a rule: names among others, variables of terms, sessions that commands create.
use Rattle.std.proofs.Common.{◌≡◌, ◌∙◌, ℕ, ◌+◌, ◌<◌, ◌≤◌, Bool, true, false, ◌||◌, cond, List, [], ◌∷◌, ◌++◌, length, get_or, take, drop, map, flat_map, Option, Some, None, Result, Ok, Err, is_ok, codes, decimal, min, nat_lt, ◌-◌, ◌^◌, if◌then◌else◌, append_assoc, refl, sym, ap, ap₂, subst, arith}
use Rattle.std.specs.List.{count_by}
use Rattle.std.proofs.lemmas.Bool.Decides.{nat_tests}
use Rattle.std.specs.Str.Parse.{ParsesUnsigned}
use Rattle.std.proofs.lemmas.Bool.{ltb-true, lt-ltb, false_from_ne_true}
use Rattle.std.proofs.lemmas.List.{drop_more, drop_all}
use Rattle.std.proofs.lemmas.Str.Parse.{parse_digits}
use Rattle.std.specs.List.{list_any, take-map, drop-map}
use Rattle.std.specs.Option.{option_map, option_or}
use Rattle.std.specs.Str.{bytes_eq}
use Rattle.def_term.specs.Tree.{Tree, of_elements}
use Rattle.def_term.specs.Names.{Name, Mfa}
use Rattle.def_term.specs.Text.{is_among, is_digit}
use Rattle.def_text.specs.Tokens.{all_are, number}
use Rattle.def_text.proofs.Numbers.{own}
use Rattle.def_script.specs.Limits.{STEPS, COMMANDS}
use Rattle.def_script.specs.Program.{Command, Form, Function, session_of, mfa_of, declares, controls}
use Rattle.def_script.specs.Rules.{Rule, commands_of, commands_of_form, is_function, is_creation}
use Rattle.def_wording.specs.Firsts.{first_with_earlier}
use Rattle.def_wording.specs.PickTexts.{fits_a_pick}
use Rattle.def_wording.specs.RuleTexts.{rule_reason, rule_reason_first, rule_reason_in, first_free, first_free_of, first_free_in, session_passing, arities_in, declared_arities, numbers_after, up_to_greatest, total_text, rule_reason_text, limit_reason, many_steps, many_functions, many_commands, many_sessions}
use Rattle.tn_program.proofs.Any.{or_assoc}

-- ---- names

pub among_any : (ws : List Name) (s : Name) → is_among ws s ≡ list_any (bytes_eq s) ws
among_any [] s = refl
among_any (w ∷ ws) s = ap (λ b. bytes_eq s w || b) (among_any ws s)

pub among_append : (xs ys : List Name) (s : Name) → is_among (xs ++ ys) s ≡ (is_among xs s || is_among ys s)
among_append [] ys s = refl
among_append (x ∷ xs) ys s = ap (λ b. bytes_eq s x || b) (among_append xs ys s) ∙ or_assoc (bytes_eq s x) (is_among xs s) (is_among ys s)

pub among_flat : {X : Type 0} (f : X → List Name) (xs : List X) (s : Name) → is_among (flat_map f xs) s ≡ list_any (λ x. is_among (f x) s) xs
among_flat f [] s = refl
among_flat f (x ∷ xs) s = among_append (f x) (flat_map f xs) s ∙ ap (λ b. is_among (f x) s || b) (among_flat f xs s)

among_step : (xs : List Name) (i : ℕ) (x s : Name) → i < length xs → x ≡ get_or xs i x → is_among (drop i xs) s ≡ (bytes_eq s x || is_among (drop (i + 1) xs) s)
among_step xs i x s below is = ap (λ ys. is_among ys s) (drop_more xs i x below) ∙ ap (λ y. bytes_eq s y || is_among (drop (i + 1) xs) s) (sym is)

pub among_found : (xs : List Name) (i : ℕ) (x s : Name) → i < length xs → x ≡ get_or xs i x → bytes_eq s x ≡ true → is_among xs s ≡ is_among (drop i xs) s → true ≡ is_among xs s
among_found xs i x s below is same so_far = sym (so_far ∙ among_step xs i x s below is ∙ ap (λ b. b || is_among (drop (i + 1) xs) s) same)

pub among_next : (xs : List Name) (i : ℕ) (x s : Name) → i < length xs → x ≡ get_or xs i x → bytes_eq s x ≡ false → is_among xs s ≡ is_among (drop i xs) s → is_among xs s ≡ is_among (drop (i + 1) xs) s
among_next xs i x s below is other so_far = so_far ∙ among_step xs i x s below is ∙ ap (λ b. b || is_among (drop (i + 1) xs) s) other

pub among_none : (xs : List Name) (i : ℕ) (s : Name) → length xs ≤ i → is_among xs s ≡ is_among (drop i xs) s → false ≡ is_among xs s
among_none xs i s past so_far = sym (so_far ∙ ap (λ ys. is_among ys s) (drop_all i xs past))

-- ---- variables

pub free_of_elements : (bound : List Name) (ts : List Tree) → first_free_of bound (of_elements ts) ≡ first_free_in bound ts
free_of_elements bound [] = refl
free_of_elements bound (t ∷ ts) = ap (option_or (first_free bound t)) (free_of_elements bound ts)

-- ---- the first of a list

-- where it doesn't matter what is before
pub first_alone : {X Y : Type 0} (p : X → Option Y) (before xs more : List X) → first_with_earlier (λ earlier x. p x) before xs ≡ first_with_earlier (λ earlier x. p x) more xs
first_alone p before [] more = refl
first_alone p before (x ∷ xs) more = ap (option_or (p x)) (first_alone p (before ++ x ∷ []) xs (more ++ x ∷ []))

-- ---- sessions

-- the session of a command that passes
abbrev pub passing_session : (Command → Bool) → Command → Option Name
passing_session p c = cond (p c) (Some (session_of c)) None

or_cond : (b : Bool) (n : Name) (c : Command) (o : Option Command) → option_map session_of (cond b (Some c) o) ≡ option_or (cond b (Some (session_of c)) None) (option_map session_of o)
or_cond true n c o = refl
or_cond false n c o = refl

pub passing_first : (p : Command → Bool) (before cs : List Command) → session_passing p cs ≡ first_with_earlier (λ earlier c. passing_session p c) before cs
passing_first p before [] = refl
passing_first p before (c ∷ cs) = or_cond (p c) [] c _ ∙ ap (option_or (passing_session p c)) (passing_first p (before ++ c ∷ []) cs)

or_or : {X : Type 0} (a b c : Option X) → option_or a (option_or b c) ≡ option_or (option_or a b) c
or_or None b c = refl
or_or (Some x) b c = refl

pub passing_append : (p : Command → Bool) (xs ys : List Command) → session_passing p (xs ++ ys) ≡ option_or (session_passing p xs) (session_passing p ys)
passing_append p [] ys = refl
passing_append p (x ∷ xs) ys =
    or_cond (p x) [] x _ ∙ ap (option_or (passing_session p x)) (passing_append p xs ys)
    ∙ or_or (passing_session p x) (session_passing p xs) (session_passing p ys)
    ∙ ap (λ o. option_or o (session_passing p ys)) (sym (or_cond (p x) [] x _))

-- of the commands of forms, form by form
pub passing_forms : (p : Command → Bool) (before fs : List Form) → session_passing p (flat_map commands_of_form fs) ≡ first_with_earlier (λ earlier f. session_passing p (commands_of_form f)) before fs
passing_forms p before [] = refl
passing_forms p before (f ∷ fs) = passing_append p (commands_of_form f) (flat_map commands_of_form fs) ∙ ap (option_or (session_passing p (commands_of_form f))) (passing_forms p (before ++ f ∷ []) fs)

-- ---- a search through commands, and through forms

module _ {X : Type 0} (p : Command → Bool) (f : X → Command) (xs : List X) where
  abbrev pub PassingSo : ℕ → Type 0
  PassingSo i = session_passing p (map f xs) ≡ session_passing p (map f (drop i xs))

  command_step : (i : ℕ) (x : X) (b : Bool) → i < length xs → x ≡ get_or xs i x → p (f x) ≡ b → session_passing p (map f (drop i xs)) ≡ option_or (cond b (Some (session_of (f x))) None) (session_passing p (map f (drop (i + 1) xs)))
  command_step i x b below is passes =
      ap (λ ys. session_passing p (map f ys)) (drop_more xs i x below)
      ∙ ap (λ y. session_passing p (f y ∷ map f (drop (i + 1) xs))) (sym is)
      ∙ or_cond (p (f x)) [] (f x) _
      ∙ ap (λ a. option_or (cond a (Some (session_of (f x))) None) (session_passing p (map f (drop (i + 1) xs)))) passes

  pub passing_found : (i : ℕ) (x : X) → i < length xs → x ≡ get_or xs i x → p (f x) ≡ true → PassingSo i → Some (session_of (f x)) ≡ session_passing p (map f xs)
  passing_found i x below is passes so_far = sym (so_far ∙ command_step i x true below is passes)

  pub passing_next : (i : ℕ) (x : X) → i < length xs → x ≡ get_or xs i x → p (f x) ≡ false → PassingSo i → PassingSo (i + 1)
  passing_next i x below is fails so_far = so_far ∙ command_step i x false below is fails

  pub passing_none : (i : ℕ) → length xs ≤ i → PassingSo i → None ≡ session_passing p (map f xs)
  passing_none i past so_far = sym (so_far ∙ ap (λ ys. session_passing p (map f ys)) (drop_all i xs past))

module _ {X : Type 0} (p : Command → Bool) (f : X → Form) (xs : List X) where
  abbrev pub FormsSo : ℕ → Type 0
  FormsSo i = session_passing p (commands_of (map f xs)) ≡ session_passing p (commands_of (map f (drop i xs)))

  form_step : (i : ℕ) (x : X) → i < length xs → x ≡ get_or xs i x → session_passing p (commands_of (map f (drop i xs))) ≡ option_or (session_passing p (commands_of_form (f x))) (session_passing p (commands_of (map f (drop (i + 1) xs))))
  form_step i x below is =
      ap (λ ys. session_passing p (commands_of (map f ys))) (drop_more xs i x below)
      ∙ ap (λ y. session_passing p (commands_of_form (f y) ++ commands_of (map f (drop (i + 1) xs)))) (sym is)
      ∙ passing_append p (commands_of_form (f x)) (commands_of (map f (drop (i + 1) xs)))

  pub form_found : (i : ℕ) (x : X) (n : Name) → i < length xs → x ≡ get_or xs i x → Some n ≡ session_passing p (commands_of_form (f x)) → FormsSo i → Some n ≡ session_passing p (commands_of (map f xs))
  form_found i x n below is found so_far = sym (so_far ∙ form_step i x below is ∙ ap (λ o. option_or o (session_passing p (commands_of (map f (drop (i + 1) xs))))) (sym found))

  pub form_next : (i : ℕ) (x : X) → i < length xs → x ≡ get_or xs i x → None ≡ session_passing p (commands_of_form (f x)) → FormsSo i → FormsSo (i + 1)
  form_next i x below is none so_far = so_far ∙ form_step i x below is ∙ ap (λ o. option_or o (session_passing p (commands_of (map f (drop (i + 1) xs))))) (sym none)

  pub form_none : (i : ℕ) → length xs ≤ i → FormsSo i → None ≡ session_passing p (commands_of (map f xs))
  form_none i past so_far = sym (so_far ∙ ap (λ ys. session_passing p (commands_of (map f ys))) (drop_all i xs past))

-- ---- picks

pub digits_fit : {E : Type 0} (ds : List ℕ) (r : Result ℕ E) → ParsesUnsigned 32 10 ds r → all_are is_digit ds ≡ true → 0 < length ds → is_ok r ≡ fits_a_pick ds
digits_fit {E} ds (Ok n) h all some = let p = parse_digits own {E = E} 32 ds (Ok n) h all in sym (lt-ltb (number ds) 4294967296 p.0.1)
digits_fit {E} ds (Err e) h all some = let p = parse_digits own {E = E} 32 ds (Err e) h all in sym (false_from_ne_true (fits_a_pick ds) (λ fits. p (some, ltb-true (number ds) 4294967296 fits)))

-- ---- numbers of parameters

pub arities_from : {X : Type 0} (k : Mfa) (f : X → Form) (xs : List X) (i : ℕ) (x : X) → i < length xs → x ≡ get_or xs i x
    → declared_arities (map f (drop i xs)) k ≡ arities_in (f x) k ++ declared_arities (map f (drop (i + 1) xs)) k
arities_from k f xs i x below is =
    ap (λ ys. declared_arities (map f ys) k) (drop_more xs i x below) ∙ ap (λ y. arities_in (f y) k ++ declared_arities (map f (drop (i + 1) xs)) k) (sym is)

pub more_numbers : (o o' b b' : List ℕ) (n : ℕ) (all rest t : List ℕ) → all ≡ n ∷ rest → o' ≡ o ++ b ++ decimal n → b' ≡ codes " or " → o ++ numbers_after b all ≡ t → o' ++ numbers_after b' rest ≡ t
more_numbers o o' b b' n all rest t is grown other so_far =
    let later = numbers_after (codes " or ") rest in
    ap₂ (λ x y. x ++ numbers_after y rest) grown other
    ∙ ap (λ x. x ++ later) (append_assoc o b (decimal n)) ∙ append_assoc o (b ++ decimal n) later
    ∙ ap (λ z. o ++ numbers_after b z) (sym is) ∙ so_far

pub no_more_numbers : (o o' b b' all rest t : List ℕ) → all ≡ rest → o' ≡ o → b' ≡ b → o ++ numbers_after b all ≡ t → o' ++ numbers_after b' rest ≡ t
no_more_numbers o o' b b' all rest t is same alike so_far = ap₂ (λ x y. x ++ numbers_after y rest) same alike ∙ ap (λ z. o ++ numbers_after b z) (sym is) ∙ so_far

-- ---- limits

not_past : (n m : ℕ) → m ≤ n → nat_lt n m ≡ false
not_past n m h = grind (arith, nat_tests)

past : (n m : ℕ) → n < m → nat_lt n m ≡ true
past n m h = grind (arith, nat_tests)

-- as many as a limit lets there be, and a total that is that number or the greatest
pub sum_up_to : (a b n m s : ℕ) → a ≡ min n (2 ^ 64 - 1) → b ≡ min m (2 ^ 64 - 1) → s ≡ min (a + b) (2 ^ 64 - 1) → s ≡ up_to_greatest (n + m)
sum_up_to a b n m s e f h = omega (arith, e, f, h)

-- the same, where it is known exactly how many are added
pub more_up_to : (a n m s : ℕ) → a ≡ min n (2 ^ 64 - 1) → s ≡ min (a + m) (2 ^ 64 - 1) → s ≡ up_to_greatest (n + m)
more_up_to a n m s e h = omega (arith, e, h)

pub functions_limit : (fs : List Form) (k : Function) (n : ℕ) → length k.steps ≤ STEPS → n ≡ up_to_greatest (count_by is_function fs + 1) → total_text n (codes " functions") ≡ rule_reason_text (limit_reason fs (declares k))
functions_limit fs k n few is =
    ap (λ m. total_text m (codes " functions")) is
    ∙ sym (ap (λ b. rule_reason_text (if b then many_steps (length k.steps) (mfa_of k) else many_functions (up_to_greatest (count_by is_function fs + 1)))) (not_past STEPS (length k.steps) few))

over : (n m : ℕ) → m < 2 ^ 64 - 1 → m < up_to_greatest n → m < n
over n m small h = omega (arith, small, h)

under : (n m : ℕ) → m < 2 ^ 64 - 1 → up_to_greatest n ≤ m → n ≤ m
under n m small h = omega (arith, small, h)

pub commands_limit : (fs : List Form) (cs : List Command) (n : ℕ) → n ≡ up_to_greatest (length (commands_of fs) + length cs) → COMMANDS < n → total_text n (codes " commands") ≡ rule_reason_text (limit_reason fs (controls cs))
commands_limit fs cs n is many =
    let all = length (commands_of fs) + length cs in
    let more : COMMANDS < all = over all COMMANDS (omega arith) (subst (λ m. COMMANDS < m) is many) in
    ap (λ m. total_text m (codes " commands")) is
    ∙ sym (ap (λ b. rule_reason_text (if b then many_commands (up_to_greatest all) else many_sessions (up_to_greatest (count_by is_creation (commands_of fs) + count_by is_creation cs)))) (past COMMANDS all more))

pub sessions_limit : (fs : List Form) (cs : List Command) (n m : ℕ) → n ≡ up_to_greatest (length (commands_of fs) + length cs) → n ≤ COMMANDS → m ≡ up_to_greatest (count_by is_creation (commands_of fs) + count_by is_creation cs)
    → total_text m (codes " sessions") ≡ rule_reason_text (limit_reason fs (controls cs))
sessions_limit fs cs n m is few made =
    let all = length (commands_of fs) + length cs in
    let fits : all ≤ COMMANDS = under all COMMANDS (omega arith) (subst (λ k. k ≤ COMMANDS) is few) in
    ap (λ k. total_text k (codes " sessions")) made
    ∙ sym (ap (λ b. rule_reason_text (if b then many_commands (up_to_greatest all) else many_sessions (up_to_greatest (count_by is_creation (commands_of fs) + count_by is_creation cs)))) (not_past COMMANDS all fits))

-- ---- forms

-- what of a form breaks the rule, by its number
pub reason_of_form : {X : Type 0} (g : X → Form) (xs : List X) (n i : ℕ) (x : X) (r : Rule) → i ≡ n - 1 → i < length xs → x ≡ get_or xs i x → rule_reason (map g xs) (map g (take i xs)) (g x) r ≡ rule_reason_in (map g xs) n r
reason_of_form g xs n i x r e below is =
    sym (ap (λ m. rule_reason_first (map g xs) (take m (map g xs)) (drop m (map g xs)) r) (sym e)
    ∙ ap₂ (λ before rest. rule_reason_first (map g xs) before rest r) (take-map g i xs) (drop-map g i xs)
    ∙ ap (λ ys. rule_reason_first (map g xs) (map g (take i xs)) (map g ys) r) (drop_more xs i x below)
    ∙ ap (λ y. rule_reason (map g xs) (map g (take i xs)) (g y) r) (sym is))

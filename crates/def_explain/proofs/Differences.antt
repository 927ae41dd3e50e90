-- What a node does otherwise is what is computed.
use Rattle.std.proofs.Common.{◌≡◌, ◌≢◌, ◌↔◌, ◌⊎◌, inl, inr, ◌<◌, ℕ, zero, suc, ◌==◌, eqb-true, eq-eqb, arith, Bool, true, false, not, ◌&&◌, ◌||◌, List, [], ◌∷◌, ◌++◌, Option, Some, None, refl, sym, ap, ap₂, subst, ◌∙◌}
use Rattle.std.specs.List.{list_any}
use Rattle.std.specs.Option.{is_some}
use Rattle.std.proofs.lemmas.Bool.{and_parts, and_left, and_right}
use Rattle.def_term.specs.Alive.{is_alive}
use Rattle.def_term.specs.Tree.{Tree}
use Rattle.def_term.specs.Order.{same}
use Rattle.def_term.specs.Names.{word}
use Rattle.def_term.proofs.Same.{same-is, same-self}
use Rattle.def_spec.specs.Flags.{Flag, send_flag, receive_flag, call_flag, procs_flag, silent_flag, arity_flag, set_on_spawn, set_on_first_spawn, set_on_link, set_on_first_link, Flags, no_flags, has_all, FlagTable, flags_in}
use Rattle.def_spec.specs.Matching.{Pattern, variable, anything, only_term, in_tuple, in_list, no_patterns, and_pattern}
use Rattle.def_spec.specs.Outcome.{Clause}
use Rattle.def_spec.specs.Expressions.{Dialect, for_calls, for_sends, for_receives, Expr, bound_to, whole_list, all_bound, constant, tuple_of, list_of, call, and_also, or_else, perform, Exprs, no_exprs, and_expr, Effect, gives_message, traces_return, traces_exception, silences, changes, flags_by, flags_after}
use Rattle.def_node.specs.Process.{FRAMES}
use Rattle.def_node.specs.Event.{sent, received, called, returned, raised, spawning, spawned, exited, linked, unlinked, getting_linked, getting_unlinked}
use Rattle.def_outlook.specs.Outlook.{RuntimeError, Outlook}
use Rattle.def_session.specs.State.{MarkKind, for_returns, for_exceptions, Session, flags_at, mark_of}
use Rattle.def_session.specs.Session.{inherit, effects_of, reported_for, mark_asked, is_for_exceptions, is_marked_for_exceptions}
use Rattle.def_session.specs.Messages.{last_message}
use Rattle.def_explain.specs.Causes.{is_false_message}
use Rattle.def_trap.specs.Actions.{is_of_calls}
use Rattle.def_explain.specs.Differences.{Difference, node_ends, reads_freed, suppresses_message, leaves_no_mark, ignores_silent, reports_exceptions, inherits_alone, evaluates_from_right, reads_no_list, faults_in_logic, leaves_other_setting, takes_local_setting, ends_test, catches_error, reports_attempt, raises_noproc, reports_later, adds_calls, HasFlags, attempt_flag, StepDiffers, is_traced, has_that_flag, is_attempt_by, step_differs, CallsAction, OneCallsAction, TwoCallActions, ShowsOrder, OneShowsOrder, calls_action, one_calls_action, two_call_actions, shows_order, one_shows_order, HasWholeList, OneHasWholeList, HasListOfNone, ReadsNoList, has_whole_list, one_has_whole_list, is_list_of_none, has_list_of_none, HasNone, has_none, hands_on, handed_on, HasFlagBeside, has_other, LosesLastFlag, loses_last_flag, GivesFlag, gives_flag, GetsFlagAgain, gets_flag_again, NamesFlag, names_flag, sets_silent, SilencesWithoutFlags, silences_without_flags, is_of_sends, has_mark_below, difference_where}
use Rattle.def_explain.proofs.Several.{one_by_any, any_by_one}
use Rattle.def_explain.specs.Laws.{BodyDifferenceIsComputed, OrderDifferenceIsComputed, ListDifferenceIsComputed, EventDifferenceIsComputed, StepDifferenceIsComputed}

-- ---- truth values

pub both_are : (a b : Bool) → a ≡ true → b ≡ true → (a && b) ≡ true
both_are a b e f = ap (λ x. x && b) e ∙ f

three_parts : (a b c : Bool) → (a && (b && c)) ≡ true → (a ≡ true) × (b ≡ true) × (c ≡ true)
three_parts a b c h =
    let x : (a ≡ true) × ((b && c) ≡ true) = and_parts a _ h in
    let y : (b ≡ true) × (c ≡ true) = and_parts b c x.1 in
    (x.0, y.0, y.1)

three_are : (a b c : Bool) → a ≡ true → b ≡ true → c ≡ true → (a && (b && c)) ≡ true
three_are a b c x y z = both_are a _ x (both_are b c y z)

pub not_is : (a : Bool) → not a ≡ true → a ≡ false
not_is true h = absurd (cc h)
not_is false h = refl

is_not : (a : Bool) → a ≡ false → not a ≡ true
is_not a h = ap not h

-- ---- no flag is set

none-set : (f : Flags) → has_none f ≡ true → HasNone f
none-set f h =
    let a : (not (f send_flag) ≡ true) × _ = and_parts (not (f send_flag)) _ h in
    let b : (not (f receive_flag) ≡ true) × _ = and_parts (not (f receive_flag)) _ a.1 in
    let c : (not (f call_flag) ≡ true) × _ = and_parts (not (f call_flag)) _ b.1 in
    let d : (not (f procs_flag) ≡ true) × _ = and_parts (not (f procs_flag)) _ c.1 in
    let e : (not (f silent_flag) ≡ true) × _ = and_parts (not (f silent_flag)) _ d.1 in
    let g : (not (f arity_flag) ≡ true) × _ = and_parts (not (f arity_flag)) _ e.1 in
    let i : (not (f set_on_spawn) ≡ true) × _ = and_parts (not (f set_on_spawn)) _ g.1 in
    let j : (not (f set_on_first_spawn) ≡ true) × _ = and_parts (not (f set_on_first_spawn)) _ i.1 in
    let k : (not (f set_on_link) ≡ true) × (not (f set_on_first_link) ≡ true) = and_parts (not (f set_on_link)) _ j.1 in
    each a.0 b.0 c.0 d.0 e.0 g.0 i.0 j.0 k.0 k.1
  where
    each : not (f send_flag) ≡ true → not (f receive_flag) ≡ true → not (f call_flag) ≡ true → not (f procs_flag) ≡ true → not (f silent_flag) ≡ true → not (f arity_flag) ≡ true → not (f set_on_spawn) ≡ true → not (f set_on_first_spawn) ≡ true → not (f set_on_link) ≡ true → not (f set_on_first_link) ≡ true → HasNone f
    each a b c d e g i j k l send_flag = not_is _ a
    each a b c d e g i j k l receive_flag = not_is _ b
    each a b c d e g i j k l call_flag = not_is _ c
    each a b c d e g i j k l procs_flag = not_is _ d
    each a b c d e g i j k l silent_flag = not_is _ e
    each a b c d e g i j k l arity_flag = not_is _ g
    each a b c d e g i j k l set_on_spawn = not_is _ i
    each a b c d e g i j k l set_on_first_spawn = not_is _ j
    each a b c d e g i j k l set_on_link = not_is _ k
    each a b c d e g i j k l set_on_first_link = not_is _ l

set-none : (f : Flags) → HasNone f → has_none f ≡ true
set-none f h =
    let n : (x : Flag) → not (f x) ≡ true = λ x. is_not (f x) (h x) in
    both_are _ _ (n send_flag) (both_are _ _ (n receive_flag) (both_are _ _ (n call_flag) (both_are _ _ (n procs_flag) (both_are _ _ (n silent_flag) (both_are _ _ (n arity_flag) (both_are _ _ (n set_on_spawn) (both_are _ _ (n set_on_first_spawn) (both_are _ _ (n set_on_link) (n set_on_first_link)))))))))

-- ---- a flag of a set that isn't one of another

lacks : (a b : Bool) → (a || not b) ≡ false → (b ≡ true) × (a ≡ false)
lacks true b h = absurd (cc h)
lacks false true h = (refl, refl)
lacks false false h = absurd (cc h)

and-fails : (a b : Bool) {P : Type 0} → (a ≡ false → P) → (b ≡ false → P) → (a && b) ≡ false → P
and-fails true b p q h = q h
and-fails false b p q h = p refl

other-is : (f g : Flags) → has_other f g ≡ true → HasFlagBeside f g
other-is f g h = rest (not_is _ h)
  where
    one : (x : Flag) → (g x || not (f x)) ≡ false → HasFlagBeside f g
    one x e = let l : (f x ≡ true) × (g x ≡ false) = lacks (g x) (f x) e in (x, l.0, l.1)

    last : (g arity_flag || not (f arity_flag)) && ((g set_on_spawn || not (f set_on_spawn)) && ((g set_on_first_spawn || not (f set_on_first_spawn)) && ((g set_on_link || not (f set_on_link)) && (g set_on_first_link || not (f set_on_first_link))))) ≡ false → HasFlagBeside f g
    last = and-fails _ _ (one arity_flag) (and-fails _ _ (one set_on_spawn) (and-fails _ _ (one set_on_first_spawn) (and-fails _ _ (one set_on_link) (one set_on_first_link))))

    rest : has_all g f ≡ false → HasFlagBeside f g
    rest = and-fails _ _ (one send_flag) (and-fails _ _ (one receive_flag) (and-fails _ _ (one call_flag) (and-fails _ _ (one procs_flag) (and-fails _ _ (one silent_flag) last))))

is-other : (f g : Flags) → HasFlagBeside f g → has_other f g ≡ true
is-other f g h = ap not (go h.0 (ap₂ (λ a b. a || not b) h.2 h.1))
  where
    n : Flag → Bool
    n x = g x || not (f x)

    go : (x : Flag) → (g x || not (f x)) ≡ false → has_all g f ≡ false
    go send_flag e = and_left (n send_flag) _ e
    go receive_flag e = and_right (n send_flag) _ (and_left (n receive_flag) _ e)
    go call_flag e = and_right (n send_flag) _ (and_right (n receive_flag) _ (and_left (n call_flag) _ e))
    go procs_flag e = and_right (n send_flag) _ (and_right (n receive_flag) _ (and_right (n call_flag) _ (and_left (n procs_flag) _ e)))
    go silent_flag e = and_right (n send_flag) _ (and_right (n receive_flag) _ (and_right (n call_flag) _ (and_right (n procs_flag) _ (and_left (n silent_flag) _ e))))
    go arity_flag e = and_right (n send_flag) _ (and_right (n receive_flag) _ (and_right (n call_flag) _ (and_right (n procs_flag) _ (and_right (n silent_flag) _ (and_left (n arity_flag) _ e)))))
    go set_on_spawn e = and_right (n send_flag) _ (and_right (n receive_flag) _ (and_right (n call_flag) _ (and_right (n procs_flag) _ (and_right (n silent_flag) _ (and_right (n arity_flag) _ (and_left (n set_on_spawn) _ e))))))
    go set_on_first_spawn e = and_right (n send_flag) _ (and_right (n receive_flag) _ (and_right (n call_flag) _ (and_right (n procs_flag) _ (and_right (n silent_flag) _ (and_right (n arity_flag) _ (and_right (n set_on_spawn) _ (and_left (n set_on_first_spawn) _ e)))))))
    go set_on_link e = and_right (n send_flag) _ (and_right (n receive_flag) _ (and_right (n call_flag) _ (and_right (n procs_flag) _ (and_right (n silent_flag) _ (and_right (n arity_flag) _ (and_right (n set_on_spawn) _ (and_right (n set_on_first_spawn) _ (and_left (n set_on_link) _ e))))))))
    go set_on_first_link e = and_right (n send_flag) _ (and_right (n receive_flag) _ (and_right (n call_flag) _ (and_right (n procs_flag) _ (and_right (n silent_flag) _ (and_right (n arity_flag) _ (and_right (n set_on_spawn) _ (and_right (n set_on_first_spawn) _ (and_right (n set_on_link) _ e))))))))

-- ---- effects one after another

head-is : (x y : Effect) (xs ys : List Effect) → x ∷ xs ≡ y ∷ ys → x ≡ y
head-is x y xs ys h = cc h

tail-is : (x y : Effect) (xs ys : List Effect) → x ∷ xs ≡ y ∷ ys → xs ≡ ys
tail-is x y xs ys h = cc h

no-effects : (ds : List Effect) (e : Effect) (fs : List Effect) → [] ≡ ds ++ e ∷ fs → ⊥
no-effects [] e fs h = cc h
no-effects (d ∷ ds) e fs h = cc h

loses-last : (p : ℕ) (t : FlagTable) (es : List Effect) → loses_last_flag p t es ≡ true → LosesLastFlag p t es
loses-last p t [] h = absurd (cc h)
loses-last p t (e ∷ es) h = go (loses-last p (flags_by p t e) es) (has_none (flags_in (flags_by p t e) p)) refl
  where
    later : LosesLastFlag p (flags_by p t e) es → LosesLastFlag p t (e ∷ es)
    later l = (e ∷ l.0, l.1, l.2, ap (λ x. e ∷ x) l.3, l.4)

    go : (loses_last_flag p (flags_by p t e) es ≡ true → LosesLastFlag p (flags_by p t e) es) → (b : Bool) → has_none (flags_in (flags_by p t e) p) ≡ b → LosesLastFlag p t (e ∷ es)
    go more true n = ([], e, es, refl, none-set _ n)
    go more false n = later (more (ap (λ b. b || loses_last_flag p (flags_by p t e) es) (sym n) ∙ h))

last-lost : (p : ℕ) (t : FlagTable) (es ds : List Effect) (e : Effect) (fs : List Effect) → es ≡ ds ++ e ∷ fs → HasNone (flags_in (flags_after p t (ds ++ e ∷ [])) p) → loses_last_flag p t es ≡ true
last-lost p t [] ds e fs h n = absurd (no-effects ds e fs h)
last-lost p t (x ∷ es) [] e fs h n =
    let is : x ≡ e = head-is x e es fs h in
    ap (λ b. b || loses_last_flag p (flags_by p t x) es) (ap (λ y. has_none (flags_in (flags_by p t y) p)) is ∙ set-none _ n)
last-lost p t (x ∷ es) (d ∷ ds) e fs h n =
    let is : x ≡ d = head-is x d es (ds ++ e ∷ fs) h in
    let more : loses_last_flag p (flags_by p t x) es ≡ true =
    last-lost p (flags_by p t x) es ds e fs (tail-is x d es (ds ++ e ∷ fs) h) (subst (λ y. HasNone (flags_in (flags_after p (flags_by p t y) (ds ++ e ∷ [])) p)) (sym is) n) in
    or_right (has_none (flags_in (flags_by p t x) p)) _ more
  where
    or_right : (a b : Bool) → b ≡ true → (a || b) ≡ true
    or_right true b k = refl
    or_right false b k = k

-- the effect gives the process a flag
gives-flag : (p : ℕ) (e : Effect) → gives_flag p e ≡ true → GivesFlag p e
gives-flag p (changes n cleared set) h =
    let both : ((n == p) ≡ true) × (not (has_none set) ≡ true) = and_parts (n == p) _ h in
    let one : HasFlagBeside set no_flags = other-is set no_flags both.1 in
    (cleared, set, one.0, ap (λ m. changes m cleared set) (eqb-true n p both.0), one.1)
gives-flag p (gives_message t) h = absurd (cc h)
gives-flag p traces_return h = absurd (cc h)
gives-flag p traces_exception h = absurd (cc h)
gives-flag p (silences b) h = absurd (cc h)

flag-given : (p : ℕ) (e : Effect) → GivesFlag p e → gives_flag p e ≡ true
flag-given p e h = ap (gives_flag p) h.3 ∙ both_are (p == p) _ (eq-eqb p p refl) (is-other h.1 no_flags (h.2, h.4, refl))

-- one of two is true
or-case : (a b : Bool) {P : Type 0} → (a ≡ true → P) → (b ≡ true → P) → (a || b) ≡ true → P
or-case true b p q h = p refl
or-case false b p q h = q h

or-second : (a b : Bool) → b ≡ true → (a || b) ≡ true
or-second true b h = refl
or-second false b h = h

-- a change of flags names one
names-flag : (e : Effect) → names_flag e ≡ true → NamesFlag e
names-flag (changes n cleared set) h =
    or-case (not (has_none cleared)) _
    (λ k. let o : HasFlagBeside cleared no_flags = other-is cleared no_flags k in (n, cleared, set, o.0, refl, inl o.1))
    (λ k. let o : HasFlagBeside set no_flags = other-is set no_flags k in (n, cleared, set, o.0, refl, inr o.1)) h
names-flag (gives_message t) h = absurd (cc h)
names-flag traces_return h = absurd (cc h)
names-flag traces_exception h = absurd (cc h)
names-flag (silences b) h = absurd (cc h)

flag-named : (e : Effect) → NamesFlag e → names_flag e ≡ true
flag-named e h = ap names_flag h.4 ∙ go h.5
  where
    go : ((h.1 h.3 ≡ true) ⊎ (h.2 h.3 ≡ true)) → (not (has_none h.1) || not (has_none h.2)) ≡ true
    go (inl x) = ap (λ b. b || not (has_none h.2)) (is-other h.1 no_flags (h.3, x, refl))
    go (inr x) = or-second (not (has_none h.1)) _ (is-other h.2 no_flags (h.3, x, refl))

-- after the last was lost, before these effects or by some of them
or-third : (a b c : Bool) → ((a || b) || c) ≡ (a || (b || c))
or-third true b c = refl
or-third false b c = refl

or-none : (a : Bool) → (a || false) ≡ true → a ≡ true
or-none true h = refl
or-none false h = h

abbrev GetsAgain : ℕ → FlagTable → Bool → List Effect → Type 0
GetsAgain p t lost es = (ds : List Effect) × (e : Effect) × (fs : List Effect) × (es ≡ ds ++ e ∷ fs) × ((lost || loses_last_flag p t ds) ≡ true) × (gives_flag p e ≡ true)

again-there : (p : ℕ) (t : FlagTable) (lost : Bool) (es : List Effect) → gets_flag_again p t lost es ≡ true → GetsAgain p t lost es
again-there p t lost [] h = absurd (cc h)
again-there p t lost (e ∷ es) h = or-case (lost && gives_flag p e) _ here (λ k. later (again-there p (flags_by p t e) (lost || none) es k)) h
  where
    none : Bool
    none = has_none (flags_in (flags_by p t e) p)

    here : (lost && gives_flag p e) ≡ true → GetsAgain p t lost (e ∷ es)
    here k = let both : (lost ≡ true) × (gives_flag p e ≡ true) = and_parts lost _ k in ([], e, es, refl, ap (λ b. b || false) both.0, both.1)

    later : GetsAgain p (flags_by p t e) (lost || none) es → GetsAgain p t lost (e ∷ es)
    later l = (e ∷ l.0, l.1, l.2, ap (λ x. e ∷ x) l.3, sym (or-third lost none (loses_last_flag p (flags_by p t e) l.0)) ∙ l.4, l.5)

there-again : (p : ℕ) (t : FlagTable) (lost : Bool) (es ds : List Effect) (e : Effect) (fs : List Effect) → es ≡ ds ++ e ∷ fs → (lost || loses_last_flag p t ds) ≡ true → gives_flag p e ≡ true → gets_flag_again p t lost es ≡ true
there-again p t lost [] ds e fs h l g = absurd (no-effects ds e fs h)
there-again p t lost (x ∷ es) [] e fs h l g =
    let is : x ≡ e = head-is x e es fs h in
    ap (λ b. b || gets_flag_again p (flags_by p t x) (lost || has_none (flags_in (flags_by p t x) p)) es) (both_are lost _ (or-none lost l) (ap (gives_flag p) is ∙ g))
there-again p t lost (x ∷ es) (d ∷ ds) e fs h l g =
    let is : x ≡ d = head-is x d es (ds ++ e ∷ fs) h in
    let none : Bool = has_none (flags_in (flags_by p t x) p) in
    let here : (lost || loses_last_flag p t (x ∷ ds)) ≡ true = ap (λ y. lost || loses_last_flag p t (y ∷ ds)) is ∙ l in
    let more : gets_flag_again p (flags_by p t x) (lost || none) es ≡ true =
    there-again p (flags_by p t x) (lost || none) es ds e fs (tail-is x d es (ds ++ e ∷ fs) h) (or-third lost none (loses_last_flag p (flags_by p t x) ds) ∙ here) g in
    or-second (lost && gives_flag p x) _ more

gets-again : (p : ℕ) (t : FlagTable) (es : List Effect) → gets_flag_again p t false es ≡ true → GetsFlagAgain p t es
gets-again p t es h =
    let l : GetsAgain p t false es = again-there p t false es h in
    (l.0, l.1, l.2, l.3, loses-last p t l.0 l.4, gives-flag p l.1 l.5)

again-got : (p : ℕ) (t : FlagTable) (es : List Effect) → GetsFlagAgain p t es → gets_flag_again p t false es ≡ true
again-got p t es h = there-again p t false es h.0 h.1 h.2 h.3 (last-lost p t h.0 h.4.0 h.4.1 h.4.2 h.4.3 h.4.4) (flag-given p h.1 h.5)

-- `silent` is set where there is no flag
silences-without : (p : ℕ) (t : FlagTable) (es : List Effect) → silences_without_flags p t es ≡ true → SilencesWithoutFlags p t es
silences-without p t [] h = absurd (cc h)
silences-without p t (e ∷ es) h = or-case (sets_silent e && has_none (flags_in t p)) _ here (λ k. later (silences-without p (flags_by p t e) es k)) h
  where
    here : (sets_silent e && has_none (flags_in t p)) ≡ true → SilencesWithoutFlags p t (e ∷ es)
    here k = let both : (sets_silent e ≡ true) × (has_none (flags_in t p) ≡ true) = and_parts (sets_silent e) _ k in ([], e, es, refl, both.0, none-set _ both.1)

    later : SilencesWithoutFlags p (flags_by p t e) es → SilencesWithoutFlags p t (e ∷ es)
    later l = (e ∷ l.0, l.1, l.2, ap (λ x. e ∷ x) l.3, l.4, l.5)

without-silenced : (p : ℕ) (t : FlagTable) (es ds : List Effect) (e : Effect) (fs : List Effect) → es ≡ ds ++ e ∷ fs → sets_silent e ≡ true → HasNone (flags_in (flags_after p t ds) p) → silences_without_flags p t es ≡ true
without-silenced p t [] ds e fs h k n = absurd (no-effects ds e fs h)
without-silenced p t (x ∷ es) [] e fs h k n =
    let is : x ≡ e = head-is x e es fs h in
    ap (λ b. b || silences_without_flags p (flags_by p t x) es) (both_are (sets_silent x) _ (ap sets_silent is ∙ k) (set-none _ n))
without-silenced p t (x ∷ es) (d ∷ ds) e fs h k n =
    let is : x ≡ d = head-is x d es (ds ++ e ∷ fs) h in
    let more : silences_without_flags p (flags_by p t x) es ≡ true =
    without-silenced p (flags_by p t x) es ds e fs (tail-is x d es (ds ++ e ∷ fs) h) k (subst (λ y. HasNone (flags_in (flags_after p (flags_by p t y) ds) p)) (sym is) n) in
    or-second (sets_silent x && has_none (flags_in t p)) _ more

-- ---- messages, marks and dialects

message-there : (o : Option Tree) → not (is_false_message o) ≡ true → o ≢ Some (word "false")
message-there o h e = absurd (cc (sym (not_is _ h) ∙ ap is_false_message e ∙ same-self (word "false")))

there-message : (o : Option Tree) → o ≢ Some (word "false") → not (is_false_message o) ≡ true
there-message None h = refl
there-message (Some t) h = go (same t (word "false")) refl
  where
    go : (b : Bool) → same t (word "false") ≡ b → not (same t (word "false")) ≡ true
    go true e = absurd (h (ap Some (same-is t (word "false") e)))
    go false e = ap not e

mark-there : (o : Option MarkKind) → is_some o ≡ true → (k : MarkKind) × (o ≡ Some k)
mark-there None h = absurd (cc h)
mark-there (Some k) h = (k, refl)

of-sends : (d : Dialect) → (is_of_sends d ≡ true) ↔ (d ≡ for_sends)
of-sends for_calls = (λ h. absurd (cc h), λ h. absurd (cc h))
of-sends for_sends = (λ h. refl, λ h. refl)
of-sends for_receives = (λ h. absurd (cc h), λ h. absurd (cc h))

of-calls : (d : Dialect) → (is_of_calls d ≡ true) ↔ (d ≡ for_calls)
of-calls for_calls = (λ h. refl, λ h. refl)
of-calls for_sends = (λ h. absurd (cc h), λ h. absurd (cc h))
of-calls for_receives = (λ h. absurd (cc h), λ h. absurd (cc h))

of-others : (d : Dialect) → (not (is_of_calls d) ≡ true) ↔ (d ≢ for_calls)
of-others for_calls = (λ h. absurd (cc h), λ h. absurd (h refl))
of-others for_sends = (λ h e. cc e, λ h. refl)
of-others for_receives = (λ h e. cc e, λ h. refl)

pub body_difference_is_computed : BodyDifferenceIsComputed
body_difference_is_computed d c es node_ends = (
  λ h.
      let x : (is_of_sends d ≡ true) × (loses_last_flag c.self_pid c.flags es ≡ true) × (not (is_false_message (last_message es)) ≡ true) = three_parts (is_of_sends d) _ _ h in
      ((of-sends d).0 x.0, loses-last c.self_pid c.flags es x.1, message-there _ x.2),
  λ h. three_are _ _ _ ((of-sends d).1 h.0) (last-lost c.self_pid c.flags es h.1.0 h.1.1 h.1.2 h.1.3 h.1.4) (there-message _ h.2),
)
body_difference_is_computed d c es reads_freed = (
  λ h.
      let x : (is_of_calls d ≡ true) × (gets_flag_again c.self_pid c.flags false es ≡ true) × (not (is_false_message (last_message es)) ≡ true) = three_parts (is_of_calls d) _ _ h in
      ((of-calls d).0 x.0, gets-again c.self_pid c.flags es x.1, message-there _ x.2),
  λ h. three_are _ _ _ ((of-calls d).1 h.0) (again-got c.self_pid c.flags es h.1) (there-message _ h.2),
)
body_difference_is_computed d c es suppresses_message = (
  λ h.
      let x : (not (is_of_calls d) ≡ true) × _ × (not (is_false_message (last_message es)) ≡ true) = three_parts (not (is_of_calls d)) _ _ h in
      ((of-others d).0 x.0, x.1, message-there _ x.2),
  λ h. three_are _ _ _ ((of-others d).1 h.0) h.1 (there-message _ h.2),
)
body_difference_is_computed d c es leaves_no_mark = (
  λ h.
      let x : (is_of_calls d ≡ true) × _ × (is_some (mark_asked es) ≡ true) = three_parts (is_of_calls d) _ _ h in
      ((of-calls d).0 x.0, x.1, mark-there _ x.2),
  λ h. three_are _ _ _ ((of-calls d).1 h.0) h.1 (ap is_some h.2.1),
)
body_difference_is_computed d c es ignores_silent = (
  λ h.
      let x : (is_of_calls d ≡ true) × (silences_without_flags c.self_pid c.flags es ≡ true) = and_parts (is_of_calls d) _ h in
      ((of-calls d).0 x.0, silences-without c.self_pid c.flags es x.1),
  λ h. both_are _ _ ((of-calls d).1 h.0) (without-silenced c.self_pid c.flags es h.1.0 h.1.1 h.1.2 h.1.3 h.1.4 h.1.5),
)
body_difference_is_computed d c es reports_exceptions = (λ h. absurd (cc h), λ h. absurd h)
body_difference_is_computed d c es inherits_alone = (λ h. absurd (cc h), λ h. absurd h)
body_difference_is_computed d c es evaluates_from_right = (λ h. absurd (cc h), λ h. absurd h)
body_difference_is_computed d c es reads_no_list = (λ h. absurd (cc h), λ h. absurd h)
body_difference_is_computed d c es faults_in_logic = (λ h. absurd (cc h), λ h. absurd h)
body_difference_is_computed d c es leaves_other_setting = (λ h. absurd (cc h), λ h. absurd h)
body_difference_is_computed d c es takes_local_setting = (λ h. absurd (cc h), λ h. absurd h)
body_difference_is_computed d c es ends_test = (
  λ h.
      let x : (is_of_calls d ≡ true) × (list_any names_flag es ≡ true) = and_parts (is_of_calls d) _ h in
      ((of-calls d).0 x.0, one_by_any names_flag NamesFlag names-flag es x.1),
  λ h. both_are _ _ ((of-calls d).1 h.0) (any_by_one names_flag NamesFlag flag-named es h.1),
)
body_difference_is_computed d c es catches_error = (λ h. absurd (cc h), λ h. absurd h)
body_difference_is_computed d c es reports_attempt = (λ h. absurd (cc h), λ h. absurd h)
body_difference_is_computed d c es raises_noproc = (λ h. absurd (cc h), λ h. absurd h)
body_difference_is_computed d c es adds_calls = (λ h. absurd (cc h), λ h. absurd h)
body_difference_is_computed d c es reports_later = (λ h. absurd (cc h), λ h. absurd h)

-- ---- events without a body

for-exceptions : (o : Option MarkKind) → is_for_exceptions o ≡ true → o ≡ Some for_exceptions
for-exceptions None h = absurd (cc h)
for-exceptions (Some for_returns) h = absurd (cc h)
for-exceptions (Some for_exceptions) h = refl

module _ (s : Session) (p : ℕ) where
  mark-below : (n : ℕ) → has_mark_below s p n ≡ true → (depth : ℕ) × (depth < n) × (mark_of s p depth ≡ Some for_exceptions)
  unfolding has_mark_below
  mark-below zero h = absurd (cc h)
  mark-below (suc n) h = go (mark-below n) (is_marked_for_exceptions s p n) refl
    where
      later : (depth : ℕ) × (depth < n) × (mark_of s p depth ≡ Some for_exceptions) → (depth : ℕ) × (depth < suc n) × (mark_of s p depth ≡ Some for_exceptions)
      later m = (m.0, omega (arith, m.1), m.2)

      go : (has_mark_below s p n ≡ true → (depth : ℕ) × (depth < n) × (mark_of s p depth ≡ Some for_exceptions)) → (b : Bool) → is_marked_for_exceptions s p n ≡ b → (depth : ℕ) × (depth < suc n) × (mark_of s p depth ≡ Some for_exceptions)
      go more true e = (n, omega arith, for-exceptions (mark_of s p n) e)
      go more false e = later (more (ap (λ b. b || has_mark_below s p n) (sym e) ∙ h))

  below-mark : (n depth : ℕ) → depth < n → mark_of s p depth ≡ Some for_exceptions → has_mark_below s p n ≡ true
  unfolding has_mark_below
  below-mark zero depth l h = absurd (omega (arith, l))
  below-mark (suc n) depth l h = go (λ k. below-mark n depth k h) (is_marked_for_exceptions s p n) refl
    where
      other : is_marked_for_exceptions s p n ≡ false → depth ≢ n
      other e is = absurd (cc (sym e ∙ ap is_for_exceptions (ap (mark_of s p) (sym is) ∙ h)))

      go : (depth < n → has_mark_below s p n ≡ true) → (b : Bool) → is_marked_for_exceptions s p n ≡ b → has_mark_below s p (suc n) ≡ true
      go more true e = ap (λ b. b || has_mark_below s p n) e
      go more false e = ap (λ b. b || has_mark_below s p n) e ∙ more (omega (arith, l, other e))

-- ---- the order of evaluation

or-either : (a b : Bool) {P Q : Type 0} → (a ≡ true → P) → (b ≡ true → Q) → (a || b) ≡ true → P ⊎ Q
or-either true b p q h = inl (p refl)
or-either false b p q h = inr (q h)

either-or : (a b : Bool) {P Q : Type 0} → (P → a ≡ true) → (Q → b ≡ true) → P ⊎ Q → (a || b) ≡ true
either-or a b p q (inl x) = ap (λ z. z || b) (p x)
either-or true b p q (inr x) = refl
either-or false b p q (inr x) = q x

mutual
  action-there : (e : Expr) → calls_action e ≡ true → CallsAction e
  action-there (perform a es) h = tt
  action-there (tuple_of es) h = one-action-there es h
  action-there (list_of es) h = one-action-there es h
  action-there (call f es) h = one-action-there es h
  action-there (and_also es) h = one-action-there es h
  action-there (or_else es) h = one-action-there es h
  action-there (bound_to n) h = absurd (cc h)
  action-there whole_list h = absurd (cc h)
  action-there all_bound h = absurd (cc h)
  action-there (constant t) h = absurd (cc h)

  one-action-there : (es : Exprs) → one_calls_action es ≡ true → OneCallsAction es
  one-action-there no_exprs h = absurd (cc h)
  one-action-there (and_expr e es) h = or-either (calls_action e) (one_calls_action es) (action-there e) (one-action-there es) h

mutual
  there-action : (e : Expr) → CallsAction e → calls_action e ≡ true
  there-action (perform a es) h = refl
  there-action (tuple_of es) h = there-one-action es h
  there-action (list_of es) h = there-one-action es h
  there-action (call f es) h = there-one-action es h
  there-action (and_also es) h = there-one-action es h
  there-action (or_else es) h = there-one-action es h
  there-action (bound_to n) h = absurd h
  there-action whole_list h = absurd h
  there-action all_bound h = absurd h
  there-action (constant t) h = absurd h

  there-one-action : (es : Exprs) → OneCallsAction es → one_calls_action es ≡ true
  there-one-action no_exprs h = absurd h
  there-one-action (and_expr e es) h = either-or (calls_action e) (one_calls_action es) (there-action e) (there-one-action es) h

two-there : (es : Exprs) → two_call_actions es ≡ true → TwoCallActions es
two-there no_exprs h = absurd (cc h)
two-there (and_expr e es) h =
    or-either (calls_action e && one_calls_action es) (two_call_actions es)
    (λ k. let x : (calls_action e ≡ true) × (one_calls_action es ≡ true) = and_parts (calls_action e) _ k in (action-there e x.0, one-action-there es x.1)) (two-there es) h

there-two : (es : Exprs) → TwoCallActions es → two_call_actions es ≡ true
there-two no_exprs h = absurd h
there-two (and_expr e es) h =
    either-or (calls_action e && one_calls_action es) (two_call_actions es) (λ k. both_are _ _ (there-action e k.0) (there-one-action es k.1)) (there-two es) h

mutual
  order-there : (e : Expr) → shows_order e ≡ true → ShowsOrder e
  order-there (tuple_of es) h = or-either (two_call_actions es) (one_shows_order es) (two-there es) (one-order-there es) h
  order-there (call f es) h = or-either (two_call_actions es) (one_shows_order es) (two-there es) (one-order-there es) h
  order-there (perform a es) h = or-either (two_call_actions es) (one_shows_order es) (two-there es) (one-order-there es) h
  order-there (list_of es) h = one-order-there es h
  order-there (and_also es) h = one-order-there es h
  order-there (or_else es) h = one-order-there es h
  order-there (bound_to n) h = absurd (cc h)
  order-there whole_list h = absurd (cc h)
  order-there all_bound h = absurd (cc h)
  order-there (constant t) h = absurd (cc h)

  one-order-there : (es : Exprs) → one_shows_order es ≡ true → OneShowsOrder es
  one-order-there no_exprs h = absurd (cc h)
  one-order-there (and_expr e es) h = or-either (shows_order e) (one_shows_order es) (order-there e) (one-order-there es) h

mutual
  there-order : (e : Expr) → ShowsOrder e → shows_order e ≡ true
  there-order (tuple_of es) h = either-or (two_call_actions es) (one_shows_order es) (there-two es) (there-one-order es) h
  there-order (call f es) h = either-or (two_call_actions es) (one_shows_order es) (there-two es) (there-one-order es) h
  there-order (perform a es) h = either-or (two_call_actions es) (one_shows_order es) (there-two es) (there-one-order es) h
  there-order (list_of es) h = there-one-order es h
  there-order (and_also es) h = there-one-order es h
  there-order (or_else es) h = there-one-order es h
  there-order (bound_to n) h = absurd h
  there-order whole_list h = absurd h
  there-order all_bound h = absurd h
  there-order (constant t) h = absurd h

  there-one-order : (es : Exprs) → OneShowsOrder es → one_shows_order es ≡ true
  there-one-order no_exprs h = absurd h
  there-one-order (and_expr e es) h = either-or (shows_order e) (one_shows_order es) (there-order e) (there-one-order es) h

-- where a difference is said to be
said-where : (b : Bool) (y x : Difference) → (difference_where b y ≡ Some x) ↔ ((x ≡ y) × (b ≡ true))
said-where true y x = (λ h. (cc h, refl), λ h. ap Some (sym h.0))
said-where false y x = (λ h. absurd (cc h), λ h. absurd (cc h.1))

-- and what that means
where-holds : (b : Bool) (y x : Difference) (P : Type 0) → (b ≡ true) ↔ P → (difference_where b y ≡ Some x) ↔ ((x ≡ y) × P)
where-holds b y x P e = (
  λ h. let z : (x ≡ y) × (b ≡ true) = (said-where b y x).0 h in (z.0, e.0 z.1),
  λ h. (said-where b y x).1 (h.0, e.1 h.1),
)

pub event_difference_is_computed : EventDifferenceIsComputed
event_difference_is_computed s (returned p f t depth) x = (λ h. absurd (cc h), λ h. absurd h)
event_difference_is_computed s (raised p f c t depth) x = (λ h. absurd (cc h), λ h. absurd h)
event_difference_is_computed s (spawned child parent f args) x =
    where-holds _ inherits_alone x _ (
      λ h.
          let y : (hands_on (flags_at s parent) ≡ true) × (has_other (flags_at (inherit s (spawned child parent f args)) child) (handed_on (flags_at s parent)) ≡ true) = and_parts (hands_on (flags_at s parent)) _ h in
          (y.0, other-is _ (handed_on (flags_at s parent)) y.1),
      λ h. both_are _ _ h.0 (is-other _ (handed_on (flags_at s parent)) h.1),
    )
event_difference_is_computed s (sent p t to alive) x = (λ h. absurd (cc h), λ h. absurd h)
event_difference_is_computed s (received p sender t) x = (λ h. absurd (cc h), λ h. absurd h)
event_difference_is_computed s (called p c) x = (λ h. absurd (cc h), λ h. absurd h)
event_difference_is_computed s (spawning p child f args) x = (λ h. absurd (cc h), λ h. absurd h)
event_difference_is_computed s (exited p r) x = (λ h. absurd (cc h), λ h. absurd h)
event_difference_is_computed s (linked p q) x = (λ h. absurd (cc h), λ h. absurd h)
event_difference_is_computed s (unlinked p q) x = (λ h. absurd (cc h), λ h. absurd h)
event_difference_is_computed s (getting_linked p q) x = (λ h. absurd (cc h), λ h. absurd h)
event_difference_is_computed s (getting_unlinked p q) x = (λ h. absurd (cc h), λ h. absurd h)

pub order_difference_is_computed : OrderDifferenceIsComputed
order_difference_is_computed body x = where-holds _ evaluates_from_right x _ (one-order-there body, there-one-order body)

-- ---- the list of no elements

mutual
  whole-there : (e : Expr) → has_whole_list e ≡ true → HasWholeList e
  whole-there whole_list h = tt
  whole-there (tuple_of es) h = one-whole-there es h
  whole-there (list_of es) h = one-whole-there es h
  whole-there (call f es) h = one-whole-there es h
  whole-there (perform a es) h = one-whole-there es h
  whole-there (and_also es) h = one-whole-there es h
  whole-there (or_else es) h = one-whole-there es h
  whole-there (bound_to n) h = absurd (cc h)
  whole-there all_bound h = absurd (cc h)
  whole-there (constant t) h = absurd (cc h)

  one-whole-there : (es : Exprs) → one_has_whole_list es ≡ true → OneHasWholeList es
  one-whole-there no_exprs h = absurd (cc h)
  one-whole-there (and_expr e es) h = or-either (has_whole_list e) (one_has_whole_list es) (whole-there e) (one-whole-there es) h

mutual
  there-whole : (e : Expr) → HasWholeList e → has_whole_list e ≡ true
  there-whole whole_list h = refl
  there-whole (tuple_of es) h = there-one-whole es h
  there-whole (list_of es) h = there-one-whole es h
  there-whole (call f es) h = there-one-whole es h
  there-whole (perform a es) h = there-one-whole es h
  there-whole (and_also es) h = there-one-whole es h
  there-whole (or_else es) h = there-one-whole es h
  there-whole (bound_to n) h = absurd h
  there-whole all_bound h = absurd h
  there-whole (constant t) h = absurd h

  there-one-whole : (es : Exprs) → OneHasWholeList es → one_has_whole_list es ≡ true
  there-one-whole no_exprs h = absurd h
  there-one-whole (and_expr e es) h = either-or (has_whole_list e) (one_has_whole_list es) (there-whole e) (there-one-whole es) h

none-is : (p : Pattern) → is_list_of_none p ≡ true → p ≡ in_list no_patterns
none-is (in_list no_patterns) h = refl
none-is (in_list (and_pattern p ps)) h = absurd (cc h)
none-is (variable n) h = absurd (cc h)
none-is anything h = absurd (cc h)
none-is (only_term t) h = absurd (cc h)
none-is (in_tuple ps) h = absurd (cc h)

list-of-none : (k : Clause) → has_list_of_none k ≡ true → HasListOfNone k
list-of-none k h =
    let both : (is_list_of_none k.head ≡ true) × ((one_has_whole_list k.conditions || one_has_whole_list k.body) ≡ true) = and_parts (is_list_of_none k.head) _ h in
    (none-is k.head both.0, or-either (one_has_whole_list k.conditions) (one_has_whole_list k.body) (one-whole-there k.conditions) (one-whole-there k.body) both.1)

none-listed : (k : Clause) → HasListOfNone k → has_list_of_none k ≡ true
none-listed k h =
    both_are _ _ (ap is_list_of_none h.0) (either-or (one_has_whole_list k.conditions) (one_has_whole_list k.body) (there-one-whole k.conditions) (there-one-whole k.body) h.1)

pub list_difference_is_computed : ListDifferenceIsComputed
list_difference_is_computed d k x = where-holds _ reads_no_list x (ReadsNoList d k) (
  λ h. let y : (is_of_calls d ≡ true) × (has_list_of_none k ≡ true) = and_parts (is_of_calls d) _ h in ((of-calls d).0 y.0, list-of-none k y.1),
  λ h. both_are _ _ ((of-calls d).1 h.0) (none-listed k h.1),
)

-- ---- by the step at an event

-- a process that has a flag
traced-is : (s : Session) (p : ℕ) → is_traced s p ≡ true → HasFlags s p
traced-is s p h none = absurd (cc (sym (not_is _ h) ∙ set-none (flags_at s p) none))

is-traced : (s : Session) (p : ℕ) → HasFlags s p → is_traced s p ≡ true
is-traced s p h = go (has_none (flags_at s p)) refl
  where
    go : (b : Bool) → has_none (flags_at s p) ≡ b → not b ≡ true
    go true e = absurd (h (none-set (flags_at s p) e))
    go false e = refl

-- what there is
some-is : {X : Type 0} (o : Option X) → is_some o ≡ true → (x : X) × (o ≡ Some x)
some-is None h = absurd (cc h)
some-is (Some x) h = (x, refl)

that-flag-is : (s : Session) (p : ℕ) (o : Option Flag) → has_that_flag s p o ≡ true → (f : Flag) × (o ≡ Some f) × (flags_at s p f ≡ true)
that-flag-is s p None h = absurd (cc h)
that-flag-is s p (Some f) h = (f, refl, h)

attempt-is : (s : Session) (p : ℕ) (o : Option RuntimeError) → is_attempt_by s p o ≡ true → (x : RuntimeError) × (f : Flag) × (o ≡ Some x) × (attempt_flag x ≡ Some f) × (flags_at s p f ≡ true)
attempt-is s p None h = absurd (cc h)
attempt-is s p (Some x) h = let f : (f : Flag) × (attempt_flag x ≡ Some f) × (flags_at s p f ≡ true) = that-flag-is s p (attempt_flag x) h in (x, f.0, refl, f.1, f.2)

at-exit : (s : Session) (l : Outlook) (p : ℕ) (r : Tree) (x : Difference) → (step_differs s l (exited p r) x ≡ true) ↔ StepDiffers s l (exited p r) x
at-exit s l p r reports_attempt = (
  attempt-is s p l.error,
  λ h. ap (is_attempt_by s p) h.2 ∙ ap (has_that_flag s p) h.3 ∙ h.4,
)
at-exit s l p r catches_error = (
  λ h.
      let y : (is_traced s p ≡ true) × ((is_some l.error && is_some l.caught_at) ≡ true) = and_parts (is_traced s p) _ h in
      let z : (is_some l.error ≡ true) × (is_some l.caught_at ≡ true) = and_parts (is_some l.error) _ y.1 in
      (traced-is s p y.0, some-is l.error z.0, some-is l.caught_at z.1),
  λ h. three_are _ _ _ (is-traced s p h.0) (ap is_some h.1.1) (ap is_some h.2.1),
)
at-exit s l p r node_ends = (λ h. absurd (cc h), λ h. absurd h)
at-exit s l p r reads_freed = (λ h. absurd (cc h), λ h. absurd h)
at-exit s l p r suppresses_message = (λ h. absurd (cc h), λ h. absurd h)
at-exit s l p r leaves_no_mark = (λ h. absurd (cc h), λ h. absurd h)
at-exit s l p r ignores_silent = (λ h. absurd (cc h), λ h. absurd h)
at-exit s l p r reports_exceptions = (
  λ h.
      let y : (is_some l.error ≡ true) × (flags_at s p call_flag ≡ true) × (has_mark_below s p (suc FRAMES) ≡ true) = three_parts (is_some l.error) _ _ h in
      let m : (depth : ℕ) × (depth < suc FRAMES) × (mark_of s p depth ≡ Some for_exceptions) = mark-below s p (suc FRAMES) y.2 in
      (some-is l.error y.0, (y.1, (m.0, omega (arith, m.1), m.2))),
  λ h. three_are _ _ _ (ap is_some h.0.1) h.1.0 (below-mark s p (suc FRAMES) h.1.1.0 (omega (arith, h.1.1.1)) h.1.1.2),
)
at-exit s l p r inherits_alone = (λ h. absurd (cc h), λ h. absurd h)
at-exit s l p r evaluates_from_right = (λ h. absurd (cc h), λ h. absurd h)
at-exit s l p r reads_no_list = (λ h. absurd (cc h), λ h. absurd h)
at-exit s l p r faults_in_logic = (λ h. absurd (cc h), λ h. absurd h)
at-exit s l p r leaves_other_setting = (λ h. absurd (cc h), λ h. absurd h)
at-exit s l p r takes_local_setting = (λ h. absurd (cc h), λ h. absurd h)
at-exit s l p r ends_test = (λ h. absurd (cc h), λ h. absurd h)
at-exit s l p r raises_noproc = (λ h. absurd (cc h), λ h. absurd h)
at-exit s l p r adds_calls = (
  λ h. let y : (is_traced s p ≡ true) × (is_some l.error ≡ true) = and_parts (is_traced s p) _ h in (traced-is s p y.0, some-is l.error y.1),
  λ h. both_are _ _ (is-traced s p h.0) (ap is_some h.1.1),
)
at-exit s l p r reports_later = (λ h. absurd (cc h), λ h. absurd h)

at-link : (s : Session) (l : Outlook) (p other : ℕ) (x : Difference) → (step_differs s l (linked p other) x ≡ true) ↔ StepDiffers s l (linked p other) x
at-link s l p other raises_noproc = (
  λ h. let y : (is_traced s p ≡ true) × (not (is_alive s.alive other) ≡ true) = and_parts (is_traced s p) _ h in (traced-is s p y.0, not_is _ y.1),
  λ h. both_are _ _ (is-traced s p h.0) (is_not _ h.1),
)
at-link s l p other node_ends = (λ h. absurd (cc h), λ h. absurd h)
at-link s l p other reads_freed = (λ h. absurd (cc h), λ h. absurd h)
at-link s l p other suppresses_message = (λ h. absurd (cc h), λ h. absurd h)
at-link s l p other leaves_no_mark = (λ h. absurd (cc h), λ h. absurd h)
at-link s l p other ignores_silent = (λ h. absurd (cc h), λ h. absurd h)
at-link s l p other reports_exceptions = (λ h. absurd (cc h), λ h. absurd h)
at-link s l p other inherits_alone = (λ h. absurd (cc h), λ h. absurd h)
at-link s l p other evaluates_from_right = (λ h. absurd (cc h), λ h. absurd h)
at-link s l p other reads_no_list = (λ h. absurd (cc h), λ h. absurd h)
at-link s l p other faults_in_logic = (λ h. absurd (cc h), λ h. absurd h)
at-link s l p other leaves_other_setting = (λ h. absurd (cc h), λ h. absurd h)
at-link s l p other takes_local_setting = (λ h. absurd (cc h), λ h. absurd h)
at-link s l p other ends_test = (λ h. absurd (cc h), λ h. absurd h)
at-link s l p other catches_error = (λ h. absurd (cc h), λ h. absurd h)
at-link s l p other reports_attempt = (λ h. absurd (cc h), λ h. absurd h)
at-link s l p other reports_later = (λ h. absurd (cc h), λ h. absurd h)
at-link s l p other adds_calls = (λ h. absurd (cc h), λ h. absurd h)

at-receive : (s : Session) (l : Outlook) (p sender : ℕ) (t : Tree) (x : Difference) → (step_differs s l (received p sender t) x ≡ true) ↔ StepDiffers s l (received p sender t) x
at-receive s l p sender t reports_later = (
  λ h.
      let y : (not l.is_awaited ≡ true) × (is_some (reported_for s (received p sender t) (effects_of s (received p sender t))).1 ≡ true) = and_parts (not l.is_awaited) _ h in
      (not_is _ y.0, some-is _ y.1),
  λ h. both_are _ _ (is_not _ h.0) (ap is_some h.1.1),
)
at-receive s l p sender t node_ends = (λ h. absurd (cc h), λ h. absurd h)
at-receive s l p sender t reads_freed = (λ h. absurd (cc h), λ h. absurd h)
at-receive s l p sender t suppresses_message = (λ h. absurd (cc h), λ h. absurd h)
at-receive s l p sender t leaves_no_mark = (λ h. absurd (cc h), λ h. absurd h)
at-receive s l p sender t ignores_silent = (λ h. absurd (cc h), λ h. absurd h)
at-receive s l p sender t reports_exceptions = (λ h. absurd (cc h), λ h. absurd h)
at-receive s l p sender t inherits_alone = (λ h. absurd (cc h), λ h. absurd h)
at-receive s l p sender t evaluates_from_right = (λ h. absurd (cc h), λ h. absurd h)
at-receive s l p sender t reads_no_list = (λ h. absurd (cc h), λ h. absurd h)
at-receive s l p sender t faults_in_logic = (λ h. absurd (cc h), λ h. absurd h)
at-receive s l p sender t leaves_other_setting = (λ h. absurd (cc h), λ h. absurd h)
at-receive s l p sender t takes_local_setting = (λ h. absurd (cc h), λ h. absurd h)
at-receive s l p sender t ends_test = (λ h. absurd (cc h), λ h. absurd h)
at-receive s l p sender t catches_error = (λ h. absurd (cc h), λ h. absurd h)
at-receive s l p sender t reports_attempt = (λ h. absurd (cc h), λ h. absurd h)
at-receive s l p sender t raises_noproc = (λ h. absurd (cc h), λ h. absurd h)
at-receive s l p sender t adds_calls = (λ h. absurd (cc h), λ h. absurd h)

pub step_difference_is_computed : StepDifferenceIsComputed
step_difference_is_computed s l (exited p r) x = at-exit s l p r x
step_difference_is_computed s l (linked p other) x = at-link s l p other x
step_difference_is_computed s l (received p sender t) x = at-receive s l p sender t x
step_difference_is_computed s l (sent p t to alive) x = (λ h. absurd (cc h), λ h. absurd h)
step_difference_is_computed s l (called p c) x = (λ h. absurd (cc h), λ h. absurd h)
step_difference_is_computed s l (returned p f t depth) x = (λ h. absurd (cc h), λ h. absurd h)
step_difference_is_computed s l (raised p f c t depth) x = (λ h. absurd (cc h), λ h. absurd h)
step_difference_is_computed s l (spawning p child f args) x = (λ h. absurd (cc h), λ h. absurd h)
step_difference_is_computed s l (spawned p parent f args) x = (λ h. absurd (cc h), λ h. absurd h)
step_difference_is_computed s l (unlinked p q) x = (λ h. absurd (cc h), λ h. absurd h)
step_difference_is_computed s l (getting_linked p q) x = (λ h. absurd (cc h), λ h. absurd h)
step_difference_is_computed s l (getting_unlinked p q) x = (λ h. absurd (cc h), λ h. absurd h)

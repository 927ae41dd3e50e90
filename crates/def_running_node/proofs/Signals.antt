-- Which process has an exit signal after an event, and what a node reports of exits.
use Rattle.std.proofs.Common.{◌≡◌, ◌⊎◌, inl, inr, ℕ, ◌==◌, ◌&&◌, ◌||◌, Bool, true, false, not, cond, List, [], ◌∷◌, ◌++◌, is_some, Option, Some, None, option_to_list, refl, ap, ap₂, sym, ◌∙◌, if◌then◌else◌}
use Rattle.std.proofs.lemmas.Bool.{eqb-true, eq-eqb, and_right}
use Rattle.def_term.specs.Tree.{Tree}
use Rattle.def_term.specs.Names.{word}
use Rattle.def_term.specs.Alive.{is_alive}
use Rattle.def_node.specs.Event.{sent, received, called, returned, raised, spawning, spawned, exited, linked, unlinked, getting_linked, getting_unlinked}
use Rattle.def_outlook.specs.Outlook.{RuntimeError}
use Rattle.def_running_node.specs.NodeSessions.{NodeSession, message_where}
use Rattle.def_running_node.specs.NodeRuns.{Signal, signal_of, signals_with, without_signal, is_of_error, is_reported_exit, may_move, with_calls, has_ended, signals_after_end, run_with, error_messages, exit_messages}
use Rattle.def_running_node.specs.Laws.{AliveGoesByEvents, AbnormalExitGivesSignal, NormalExitGivesNone, NoprocGivesSignal, FirstSignalCounts, NoSignalAfterExit, OtherMoveIsNotDetermined, MoveWithSignalChangesNothing, ErrorExitHasCalls, SignalExitHasCalls, ReportedExitHasNoMessage, NoprocIsReported, LostLinkHasNoMessage}

-- ---- the signals

-- one more after none, and after some
one-more : (xs : List Signal) (x : Signal) (p : ℕ) → x.process ≡ p → signal_of xs p ≡ None → signal_of (xs ++ x ∷ []) p ≡ Some x
one-more [] x p e h = ap (λ b. if b then Some x else None) (eq-eqb x.process p e)
one-more (y ∷ xs) x p e h = go (y.process == p) h (one-more xs x p e)
  where
    go : (b : Bool) → (if b then Some y else signal_of xs p) ≡ None → (signal_of xs p ≡ None → signal_of (xs ++ x ∷ []) p ≡ Some x) → (if b then Some y else signal_of (xs ++ x ∷ []) p) ≡ Some x
    go true k rest = absurd (cc k)
    go false k rest = rest k

the-first : (xs ys : List Signal) (p : ℕ) (g : Signal) → signal_of xs p ≡ Some g → signal_of (xs ++ ys) p ≡ Some g
the-first [] ys p g h = absurd (cc h)
the-first (x ∷ xs) ys p g h = go (x.process == p) h (the-first xs ys p g)
  where
    go : (b : Bool) → (if b then Some x else signal_of xs p) ≡ Some g → (signal_of xs p ≡ Some g → signal_of (xs ++ ys) p ≡ Some g) → (if b then Some x else signal_of (xs ++ ys) p) ≡ Some g
    go true k rest = k
    go false k rest = rest k

-- with a signal
with-new : (xs : List Signal) (x : Signal) (p : ℕ) → x.process ≡ p → signal_of xs p ≡ None → signal_of (signals_with x xs) p ≡ Some x
with-new xs x p e h =
    ap (λ b. signal_of (if b then xs else xs ++ x ∷ []) p) (ap (λ q. is_some (signal_of xs q)) e ∙ ap (λ o. is_some o) h) ∙ one-more xs x p e h

with-other : (xs : List Signal) (x : Signal) (p : ℕ) (g : Signal) → signal_of xs p ≡ Some g → signal_of (signals_with x xs) p ≡ Some g
with-other xs x p g h = go (is_some (signal_of xs x.process))
  where
    go : (b : Bool) → signal_of (if b then xs else xs ++ x ∷ []) p ≡ Some g
    go true = h
    go false = the-first xs (x ∷ []) p g h

-- and without those of a process
without-it : (xs : List Signal) (p : ℕ) → signal_of (without_signal p xs) p ≡ None
without-it [] p = refl
without-it (x ∷ xs) p = go (x.process == p) refl (without-it xs p)
  where
    go : (b : Bool) → (x.process == p) ≡ b → signal_of (without_signal p xs) p ≡ None → signal_of (cond (not b) (x ∷ without_signal p xs) (without_signal p xs)) p ≡ None
    go true e rest = rest
    go false e rest = ap (λ b. if b then Some x else signal_of (without_signal p xs) p) e ∙ rest

without-other : (xs : List Signal) (q p : ℕ) (g : Signal) → (q ≡ p → ⊥) → signal_of xs p ≡ Some g → signal_of (without_signal q xs) p ≡ Some g
without-other [] q p g apart h = absurd (cc h)
without-other (x ∷ xs) q p g apart h = go (x.process == q) (x.process == p) refl refl h (without-other xs q p g apart)
  where
    go : (a b : Bool) → (x.process == q) ≡ a → (x.process == p) ≡ b → (if b then Some x else signal_of xs p) ≡ Some g → (signal_of xs p ≡ Some g → signal_of (without_signal q xs) p ≡ Some g)
        → signal_of (cond (not a) (x ∷ without_signal q xs) (without_signal q xs)) p ≡ Some g
    go true true d e k rest = absurd (apart (sym (eqb-true x.process q d) ∙ eqb-true x.process p e))
    go true false d e k rest = rest k
    go false true d e k rest = ap (λ b. if b then Some x else signal_of (without_signal q xs) p) e ∙ k
    go false false d e k rest = ap (λ b. if b then Some x else signal_of (without_signal q xs) p) e ∙ rest k

-- ---- after an event

pub no_signal_after_exit : NoSignalAfterExit
no_signal_after_exit r l p x = without-it r.signals p

still-none : (xs : List Signal) (q p : ℕ) → signal_of xs p ≡ None → signal_of (without_signal q xs) p ≡ None
still-none [] q p h = refl
still-none (x ∷ xs) q p h = go (x.process == q) (x.process == p) refl h (still-none xs q p)
  where
    go : (a b : Bool) → (x.process == p) ≡ b → (if b then Some x else signal_of xs p) ≡ None → (signal_of xs p ≡ None → signal_of (without_signal q xs) p ≡ None)
        → signal_of (cond (not a) (x ∷ without_signal q xs) (without_signal q xs)) p ≡ None
    go a true e k rest = absurd (cc k)
    go true false e k rest = rest k
    go false false e k rest = ap (λ b. if b then Some x else signal_of (without_signal q xs) p) e ∙ rest k

-- after an exit, whose reason is `normal` or isn't
abbrev ended_as : (normal : Bool) → (p : ℕ) → (of_error : Bool) → Option (ℕ × Bool)
ended_as normal p of_error = if normal then None else Some (p, of_error)

pub abnormal_exit_gives_signal : AbnormalExitGivesSignal
abnormal_exit_gives_signal r l k p q x abnormal h =
    let of_error : Bool = is_some l.error || is_of_error (signal_of r.signals p) in
    let g : Signal = record { process = q; of_error = of_error; is_reported = false } in
    let xs : List Signal = without_signal p r.signals in
    ap (λ b. signal_of (signals_after_end (ended_as b p of_error) q p xs) q) abnormal
    ∙ ap (λ b. signal_of (if b then signals_with g xs else xs) q) (eq-eqb p p refl)
    ∙ with-new xs g q refl (still-none r.signals p q h)

pub normal_exit_gives_none : NormalExitGivesNone
normal_exit_gives_none r l k p q x normal h =
    ap (λ b. signal_of (signals_after_end (ended_as b p (is_some l.error || is_of_error (signal_of r.signals p))) q p (without_signal p r.signals)) q) normal
    ∙ still-none r.signals p q h

pub alive_goes_by_events : AliveGoesByEvents
alive_goes_by_events r l (linked p q) = go (is_alive r.alive q)
  where
    go : (b : Bool) → (if b then run_with r r.signals true else run_with r (signals_with (record { process = p; of_error = true; is_reported = true }) r.signals) (not (is_some l.caught_at))).alive ≡ r.alive
    go true = refl
    go false = refl
alive_goes_by_events r l (exited p x) = refl
alive_goes_by_events r l (getting_unlinked p q) = refl
alive_goes_by_events r l (spawned p parent f args) = refl
alive_goes_by_events r l (sent p x to alive) = refl
alive_goes_by_events r l (received p sender x) = refl
alive_goes_by_events r l (called p c) = refl
alive_goes_by_events r l (returned p f v d) = refl
alive_goes_by_events r l (raised p f c v d) = refl
alive_goes_by_events r l (spawning p child f args) = refl
alive_goes_by_events r l (unlinked p q) = refl
alive_goes_by_events r l (getting_linked p q) = refl

pub noproc_gives_signal : NoprocGivesSignal
noproc_gives_signal r l p q dead h =
    let g : Signal = record { process = p; of_error = true; is_reported = true } in
    ap (λ b. signal_of (if b then run_with r r.signals true else run_with r (signals_with g r.signals) (not (is_some l.caught_at))).signals p) dead ∙ with-new r.signals g p refl h

pub first_signal_counts : FirstSignalCounts
first_signal_counts r l (exited q x) p g apart h = without-other r.signals q p g apart h
first_signal_counts r l (getting_unlinked q other) p g apart h = go r.ended
  where
    go : (o : Option (ℕ × Bool)) → signal_of (signals_after_end o q other r.signals) p ≡ Some g
    go None = h
    go (Some d) = by-partner (d.0 == other)
      where
        by-partner : (b : Bool) → signal_of (if b then signals_with (record { process = q; of_error = d.1; is_reported = false }) r.signals else r.signals) p ≡ Some g
        by-partner true = with-other r.signals _ p g h
        by-partner false = h
first_signal_counts r l (linked q other) p g apart h = go (is_alive r.alive other)
  where
    go : (b : Bool)
        → signal_of (if b then run_with r r.signals true else run_with r (signals_with (record { process = q; of_error = true; is_reported = true }) r.signals) (not (is_some l.caught_at))).signals p ≡ Some g
    go true = h
    go false = with-other r.signals _ p g h
first_signal_counts r l (spawned q parent f args) p g apart h = h
first_signal_counts r l (sent q x to alive) p g apart h = h
first_signal_counts r l (received q sender x) p g apart h = h
first_signal_counts r l (called q c) p g apart h = h
first_signal_counts r l (returned q f v d) p g apart h = h
first_signal_counts r l (raised q f c v d) p g apart h = h
first_signal_counts r l (spawning q child f args) p g apart h = h
first_signal_counts r l (unlinked q other) p g apart h = h
first_signal_counts r l (getting_linked q other) p g apart h = h

-- ---- at a move

pub other_move_is_not_determined : OtherMoveIsNotDetermined
other_move_is_not_determined r p pick g h k = and_right r.is_determined _ (go r.signals h k)
  where
    go : (xs : List Signal) → signal_of xs p ≡ Some g → signal_of xs pick ≡ None → may_move xs pick ≡ false
    go [] a b = absurd (cc a)
    go (x ∷ xs) a b = ap (λ o. is_some o) b

and-true : (b : Bool) → (b && true) ≡ b
and-true true = refl
and-true false = refl

pub move_with_signal_changes_nothing : MoveWithSignalChangesNothing
move_with_signal_changes_nothing r pick h = ap (λ b. record r { is_determined = b }) (ap (λ b. r.is_determined && b) (go r.signals h) ∙ and-true r.is_determined)
  where
    go : (xs : List Signal) → (xs ≡ []) ⊎ ((g : Signal) × (signal_of xs pick ≡ Some g)) → may_move xs pick ≡ true
    go [] k = refl
    go (x ∷ xs) (inl k) = absurd (cc k)
    go (x ∷ xs) (inr k) = ap (λ o. is_some o) k.1

-- ---- exits

-- what is reported of an exit, by the error of the step and the signal
abbrev exit_by : NodeSession → ℕ → Tree → Option Tree → Option RuntimeError → Option Signal → List Tree
exit_by s p x m o g = if is_reported_exit g then [] else (if is_some o then error_messages s p x else []) ++ exit_messages (is_some o || is_of_error g) p x m

pub error_exit_has_calls : ErrorExitHasCalls
error_exit_has_calls r l s t p x m y h k = ap₂ (λ o g. exit_by s p x (Some m) o g) h k

pub signal_exit_has_calls : SignalExitHasCalls
signal_exit_has_calls r l s t p x m g h k of_error not_reported =
    ap₂ (λ o i. exit_by s p x (Some m) o i) h k
    ∙ ap₂ (λ a b. if a then [] else exit_messages b p x (Some m)) not_reported of_error

pub reported_exit_has_no_message : ReportedExitHasNoMessage
reported_exit_has_no_message r l s t p x m g h reported = ap (λ i. exit_by s p x m l.error i) h ∙ ap (λ b. if b then [] else (if is_some l.error then error_messages s p x else []) ++ exit_messages (is_some l.error || g.of_error) p x m) reported

pub noproc_is_reported : NoprocIsReported
noproc_is_reported r l s t p q m dead flag =
    ap₂ (λ a b. option_to_list m ++ (if a then [] else error_messages s p (word "noproc") ++ message_where b (exited p (with_calls (word "noproc"))))) dead flag

pub lost_link_has_no_message : LostLinkHasNoMessage
lost_link_has_no_message r l s t p q m of_error h =
    ap (λ o. if has_ended o q then [] else option_to_list m) h ∙ ap (λ b. if b then [] else option_to_list m) (eq-eqb q q refl)

-- A pick that moves a node may move it, so that no pick that moves is left out.
use Rattle.std.proofs.Common.{◌≡◌, ◌∙◌, ◌<◌, ◌≤◌, ◌-◌, ◌+◌, ◌⊎◌, inl, inr, ℕ, zero, suc, Bool, true, false, not, cond, if◌then◌else◌, List, [], ◌∷◌, ◌++◌, length, take, get_or, Option, Some, None, refl, sym, ap, subst, append-nil, arith}
use Rattle.std.specs.Prelude.{nat_le, nat_lt, slice_get}
use Rattle.std.specs.List.{Contains, filter}
use Rattle.std.proofs.lemmas.Bool.Decides.{nat_tests}
use Rattle.std.proofs.lemmas.Option.{slice_get_past}
use Rattle.std.proofs.lemmas.List.Elements.{filter_more, Contains-append_cases, Contains-append_left, Contains-append_right, Contains-push_cases}
use Rattle.def_term.specs.Alive.{FIRST_PID}
use Rattle.def_script.specs.Program.{Function, Program}
use Rattle.def_node.specs.Process.{Process, Act, waits, continues, sends, links_to, unlinks_from, spawns, exits, act}
use Rattle.def_node.specs.Node.{World, Move, idle, put_at, after_act, stepped_at, next_of, next_pid, NodeState, gives_command, gives_nothing, of_move, next}
use Rattle.def_outlook.specs.Outlook.{is_waiting}
use Rattle.def_outlook.specs.Laws.{is_wait}
use Rattle.def_outlook.proofs.Outlooks.{waiting_is_of_the_act}
use Rattle.def_run.specs.Run.{run_state_of, pick_step_after}
use Rattle.def_run.specs.Laws.{IsIdleAfter, state_at}
use Rattle.def_explore.specs.Rests.{IsMovingAfter}
use Rattle.tn_node.specs.Nodes.{NodeValue, taken_in, slots_in}
use Rattle.tn_trace.proofs.Moves.{nothing_pick}
use Rattle.tn_search.specs.Probes.{IsNodeAfter}
use Rattle.tn_search.specs.ReadyPicks.{is_ready, is_ready_pid, is_ready_in, has_command_left, may_move_by}

-- ---- a process that isn't ready doesn't move

waits_idle : (w : World) (i n : ℕ) (a : Act) → is_wait a ≡ true → (v : World) × (after_act w i n a ≡ idle v)
waits_idle w i n (waits q) h = (put_at w i q, refl)
waits_idle w i n (continues q es) h = absurd (let e : false ≡ true = h in cc)
waits_idle w i n (sends q m t) h = absurd (let e : false ≡ true = h in cc)
waits_idle w i n (links_to q m) h = absurd (let e : false ≡ true = h in cc)
waits_idle w i n (unlinks_from q m) h = absurd (let e : false ≡ true = h in cc)
waits_idle w i n (spawns q child e) h = absurd (let f : false ≡ true = h in cc)
waits_idle w i n (exits partners r es) h = absurd (let e : false ≡ true = h in cc)

not_false : (b : Bool) → not b ≡ false → b ≡ true
not_false true h = refl
not_false false h = absurd (let e : true ≡ false = h in cc)

still_at : (ks : List Function) (w : World) (i n : ℕ) (o : Option (Option Process)) → is_ready ks o ≡ false → (v : World) × (stepped_at ks w i n o ≡ idle v)
still_at ks w i n None h = (w, refl)
still_at ks w i n (Some None) h = (w, refl)
still_at ks w i n (Some (Some q)) h = waits_idle w i n (act ks n (next_pid w) q) (sym (waiting_is_of_the_act ks n (next_pid w) q) ∙ not_false (is_waiting ks q) h)

still_where : (b r : Bool) (m : Move) (w : World) → (if b then r else false) ≡ false → (r ≡ false → (v : World) × (m ≡ idle v)) → (v : World) × ((if b then m else idle w) ≡ idle v)
still_where true r m w h f = f h
still_where false r m w h f = (w, refl)

still : (ks : List Function) (w : World) (n : ℕ) → is_ready_pid ks w.slots n ≡ false → (v : World) × (next_of ks w n ≡ idle v)
still ks w n h = still_where (nat_le FIRST_PID n) (is_ready ks (slice_get w.slots (n - FIRST_PID))) (stepped_at ks w (n - FIRST_PID) n (slice_get w.slots (n - FIRST_PID))) w h (still_at ks w (n - FIRST_PID) n (slice_get w.slots (n - FIRST_PID)))

-- ---- nor does the control list without a command

pub unready_idles : (p : Program) (picks : List ℕ) (pick : ℕ) (node : Option NodeValue) → IsNodeAfter p picks node → may_move_by p node pick ≡ false → IsIdleAfter p picks pick
unready_idles p picks zero n here h =
    let s : NodeState = state_at p (run_state_of p picks) in
    let none : nat_lt s.taken (length p.commands) ≡ false = subst (λ o. has_command_left (length p.commands) (taken_in o) ≡ false) here.at h in
    let nothing : gives_nothing s ≡ next p s 0 = ap (λ b. if b then gives_command (record s { taken = suc s.taken }) (suc s.taken) else gives_nothing s) (sym none) in
    (nothing_pick p picks 0 s here.room nothing).1
unready_idles p picks (suc k) n here h =
    let s : NodeState = state_at p (run_state_of p picks) in
    let none : is_ready_pid p.functions s.world.slots (suc k) ≡ false = subst (λ o. is_ready_in p.functions (slots_in o) (suc k) ≡ false) here.at h in
    let w = still p.functions s.world (suc k) none in
    let nothing : gives_nothing (record s { world = w.0 }) ≡ next p s (suc k) = ap (of_move s) (sym w.1) in
    (nothing_pick p picks (suc k) (record s { world = w.0 }) here.room nothing).1

pub moving_may_move : (p : Program) (picks : List ℕ) (pick : ℕ) (node : Option NodeValue) → IsNodeAfter p picks node → IsMovingAfter p picks pick → may_move_by p node pick ≡ true
moving_may_move p picks pick node here moving = go (may_move_by p node pick) refl
  where
    both_ways : (b : Bool) → b ≡ true → b ≡ false → ⊥
    both_ways b h k = cc

    go : (b : Bool) → may_move_by p node pick ≡ b → may_move_by p node pick ≡ true
    go true e = e
    go false e = absurd (both_ways (pick_step_after p picks pick).moved moving (unready_idles p picks pick node here e))

pub by_process : (p : Program) (node : Option NodeValue) (n : ℕ) → (n ≡ 0 → ⊥) → is_ready_in p.functions (slots_in node) n ≡ may_move_by p node n
by_process p _ zero some = absurd (some refl)
by_process p _ (suc n) some = refl

-- ---- the process with a pid

pub unready_past : (ks : List Function) (ss : List (Option Process)) (n : ℕ) → length ss ≤ n - 100 → false ≡ is_ready_pid ks ss n
unready_past ks ss n past = go (nat_le FIRST_PID n)
  where
    go : (b : Bool) → false ≡ (if b then is_ready ks (slice_get ss (n - 100)) else false)
    go true = ap (is_ready ks) (sym (slice_get_past ss (n - 100) past))
    go false = refl

from_first : (n : ℕ) → 100 ≤ n → nat_le 100 n ≡ true
from_first n h = grind (arith, nat_tests)

pub ready_at : (ks : List Function) (ss : List (Option Process)) (n : ℕ) (o : Option Process) (b : Bool) → 100 ≤ n → slice_get ss (n - 100) ≡ Some o → b ≡ is_ready ks (Some o) → b ≡ is_ready_pid ks ss n
ready_at ks ss n o b from at is =
    is ∙ ap (is_ready ks) (sym at) ∙ ap (λ c. if c then is_ready ks (slice_get ss (n - 100)) else false) (sym (from_first n from))

-- ---- those of some picks

pub one_ready : {X : Type 0} (f : X → Bool) (xs ready : List X) (i : ℕ) (d : X) → i < length xs → f (get_or xs i d) ≡ true → ready ≡ filter f (take i xs) → ready ++ get_or xs i d ∷ [] ≡ filter f (take (i + 1) xs)
one_ready f xs ready i d below is so_far =
    ap (λ ys. ys ++ get_or xs i d ∷ []) so_far
    ∙ ap (λ b. filter f (take i xs) ++ cond b (get_or xs i d ∷ []) []) (sym is)
    ∙ sym (filter_more f xs i d below)

pub one_unready : {X : Type 0} (f : X → Bool) (xs ready : List X) (i : ℕ) (d : X) → i < length xs → f (get_or xs i d) ≡ false → ready ≡ filter f (take i xs) → ready ≡ filter f (take (i + 1) xs)
one_unready f xs ready i d below is so_far =
    so_far
    ∙ sym (append-nil (filter f (take i xs)))
    ∙ ap (λ b. filter f (take i xs) ++ cond b (get_or xs i d ∷ []) []) (sym is)
    ∙ sym (filter_more f xs i d below)

-- one of those that passes the test is left
pub among_filtered : {X : Type 0} (f : X → Bool) (xs : List X) (x : X) → Contains xs x → f x ≡ true → Contains (filter f xs) x
among_filtered f [] x at is = absurd (let below = at.1 in omega (arith, below))
among_filtered {X = X} f (y ∷ ys) x at is = go (λ h. among_filtered f ys x h is) (Contains-append_cases (y ∷ []) ys x at)
  where
    later : (b : Bool) (us : List X) → Contains us x → Contains (cond b (y ∷ us) us) x
    later true us h = Contains-append_right (y ∷ []) us x h
    later false us h = h

    first : (b : Bool) (us : List X) → b ≡ true → Contains (y ∷ []) x → Contains (cond b (y ∷ us) us) x
    first true us e h = Contains-append_left (y ∷ []) us x h
    first false us e h = absurd (let k : false ≡ true = e in cc)

    same : Contains [] x ⊎ (y ≡ x) → y ≡ x
    same (inl none) = absurd (let below = none.1 in omega (arith, below))
    same (inr e) = e

    go : (Contains ys x → Contains (filter f ys) x) → Contains (y ∷ []) x ⊎ Contains ys x → Contains (filter f (y ∷ ys)) x
    go rest (inl h) = first (f y) (filter f ys) (ap f (same (Contains-push_cases [] y x h)) ∙ is) h
    go rest (inr h) = later (f y) (filter f ys) (rest h)

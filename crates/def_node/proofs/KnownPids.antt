-- The events of a step are about processes of the run.
use Rattle.std.proofs.Common.{◌≡◌, ℕ, suc, ◌+◌, ◌-◌, ◌<◌, ◌≤◌, Bool, true, false, cond, ◌&&◌, List, [], ◌∷◌, ◌++◌, length, map, slice_get, Option, Some, None, refl, ap, arith}
use Rattle.std.specs.Prelude.{nat_le, nat_lt, ◌==◌, filter_map}
use Rattle.std.specs.List.{cons_option}
use Rattle.std.specs.Option.{unwrap_or, option_map}
use Rattle.std.proofs.lemmas.Bool.Decides.{nat_tests}
use Rattle.std.proofs.lemmas.Option.{slice_get_within}
use Rattle.std.proofs.lemmas.Bool.{and_parts}
use Rattle.def_term.specs.Tree.{Tree, pid_in}
use Rattle.def_term.specs.Names.{Name, Mfa, word}
use Rattle.def_script.specs.Program.{Class, Step, send, receive, call_remote, call_local, catch, spawn, link, unlink, give_back, raise, Function, Entry, entry_mfa, number_from}
use Rattle.def_node.specs.Event.{Event, raised, exited, linked, unlinked, getting_unlinked}
use Rattle.def_node.specs.Values.{instance_of, fit, fitting_all}
use Rattle.def_node.specs.Process.{Process, Frame, Exception, Manner, Act, waits, continues, sends, links_to, unlinks_from, spawns, exits, with_frames, mfa_at, step_on, next_step, remotely, locally, catch_manner, exception_of, left_by, kept_by, catch_target, raised_in, raises_to, raises, enters, enters_at, leaves, to_pid, receives, within, calls, spawns_at, performs, runs_in, runs, begins, act_after, act}
use Rattle.def_node.specs.Node.{World, Move, moved, idle, put_at, place_of_pid, delivered_to, linked_in, linked_at, linked_to, unlinked_from, partner_pids, after_act, stepped_at, next_of, next_pid}
use Rattle.def_node.specs.Limits.{IsOwnAct, IsSmall, AllSmall, IsWithin, IsKnown, AllKnown, events_in}
use Rattle.def_node.proofs.Acts.{act_own}
use Rattle.def_node.proofs.OldestFrames.{StaysEntered, act_entered}
use Rattle.def_node.proofs.Steps.{living_here, pid_left}
use Rattle.def_node.proofs.Limits.{small_at, own_small, put_within}

-- what a process tells of its own step
abbrev Tells : Act → Type 0
Tells (waits q) = Unit {0}
Tells (continues q es) = AllKnown es
Tells (sends q m t) = Unit {0}
Tells (links_to q m) = Unit {0}
Tells (unlinks_from q m) = Unit {0}
Tells (spawns q c e) = Unit {0}
Tells (exits partners r before) = AllKnown before

if_tells : (b : Bool) (a c : Act) → Tells a → Tells c → Tells (cond b a c)
if_tells true a c p q = p
if_tells false a c p q = q

enters_at_tells : (ks : List Function) (n : ℕ) (q : Process) (fs : List Frame) (a : Manner) (args : List Tree) (i : ℕ) (k : Option Function)
    → IsKnown n → Tells (enters_at ks n q fs a args i k)
enters_at_tells ks n q fs a args i None h = tt
enters_at_tells ks n q fs a args i (Some k) h = if_tells (nat_le 64 (length fs)) _ _ tt (h, tt)

enters_tells : (ks : List Function) (n : ℕ) (q : Process) (fs : List Frame) (a : Manner) (args : List Tree) (i : Option ℕ)
    → IsKnown n → Tells (enters ks n q fs a args i)
enters_tells ks n q fs a args None h = tt
enters_tells ks n q fs a args (Some i) h = enters_at_tells ks n q fs a args i (slice_get ks i) h

leaves_tells : (n : ℕ) (q : Process) (k : Function) (x : Option Name) (fs : List Frame) (t : Tree) → IsKnown n → Tells (leaves n q k x fs t)
leaves_tells n q k x [] t h = (h, tt)
leaves_tells n q k x (g ∷ gs) t h = (h, tt)

-- the frames that are left are those of the process
left_known : (ks : List Function) (n : ℕ) (e : Exception) (ls : List (Frame × ℕ)) → IsKnown n → AllKnown (filter_map (raised_in ks n e) ls)
left_known ks n e [] h = tt
left_known ks n e (l ∷ ls) h = go (mfa_at ks l.0.function) (left_known ks n e ls h)
  where
    go : (o : Option Mfa) → AllKnown (filter_map (raised_in ks n e) ls) → AllKnown (cons_option (option_map (λ m. raised n m e.class e.value l.1) o) (filter_map (raised_in ks n e) ls))
    go None rest = rest
    go (Some m) rest = (h, rest)

raises_to_tells : (q : Process) (x : Option Name) (gs : List Frame) (e : Exception) (es : List Event) → AllKnown es → Tells (raises_to q x gs e es)
raises_to_tells q x [] e es h = h
raises_to_tells q x (g ∷ gs) e es h = h

raises_tells : (ks : List Function) (n : ℕ) (q : Process) (fs : List Frame) (c : Class) (t : Tree) → IsKnown n → Tells (raises ks n q fs c t)
raises_tells ks n q fs c t h = raises_to_tells q (catch_target fs) (kept_by fs) (exception_of fs c t) _ (left_known ks n (exception_of fs c t) (left_by fs) h)

within_tells : {X : Type 0} (ls : List Bool) (v : Option X) (f : X → Act) → ((x : X) → Tells (f x)) → Tells (within ls v f)
within_tells ls None f h = tt
within_tells ls (Some x) f h = h x

to_pid_tells : (f : ℕ → Act) (ls : List Bool) (v : Option ℕ) → ((n : ℕ) → Tells (f n)) → Tells (to_pid f ls v)
to_pid_tells f ls None h = tt
to_pid_tells f ls (Some n) h = h n

receives_tells : (q : Process) (f : Frame) (fs : List Frame) (x : Option Name) (ts : List Tree) → Tells (receives q f fs x ts)
receives_tells q f fs x [] = tt
receives_tells q f fs x (t ∷ ts) = tt

spawns_at_tells : (q : Process) (f : Frame) (fs : List Frame) (x : Option Name) (m g : Name) (args : List Tree) (child : Option ℕ) → Tells (spawns_at q f fs x m g args child)
spawns_at_tells q f fs x m g args None = tt
spawns_at_tells q f fs x m g args (Some c) = tt

calls_tells : (ks : List Function) (n : ℕ) (q : Process) (f : Frame) (fs : List Frame) (a : Manner) (m g : Name) (args : List Tree)
    → IsKnown n → Tells (calls ks n q f fs a m g args)
calls_tells ks n q f fs a m g args h =
    within_tells q.links (fitting_all args) _ (λ ts. enters_tells ks n (step_on q f fs) (next_step f ∷ fs) a ts (number_from 0 ks (record { module_name = m; function_name = g; arity = length ts })) h)

performs_tells : (ks : List Function) (n : ℕ) (child : Option ℕ) (q : Process) (k : Function) (f : Frame) (fs : List Frame) (s : Option Step)
    → IsKnown n → Tells (performs ks n child q k f fs s)
performs_tells ks n child q k f fs None h = leaves_tells n q k f.target fs (word "ok") h
performs_tells ks n child q k f fs (Some (send to t)) h =
    within_tells q.links (fit (instance_of f.env to)) _ (λ to. within_tells q.links (fit (instance_of f.env t)) _ (λ t. to_pid_tells _ q.links (pid_in to) (λ m. tt)))
performs_tells ks n child q k f fs (Some (receive x)) h = receives_tells q f fs x q.mailbox
performs_tells ks n child q k f fs (Some (call_remote x m g ts)) h = calls_tells ks n q f fs (remotely x) m g (map (instance_of f.env) ts) h
performs_tells ks n child q k f fs (Some (call_local x g ts)) h = calls_tells ks n q f fs (locally x) k.module_name g (map (instance_of f.env) ts) h
performs_tells ks n child q k f fs (Some (catch x m g ts)) h = calls_tells ks n q f fs (catch_manner x) m g (map (instance_of f.env) ts) h
performs_tells ks n child q k f fs (Some (spawn x m g ts)) h = within_tells q.links (fitting_all (map (instance_of f.env) ts)) _ (λ args. spawns_at_tells q f fs x m g args child)
performs_tells ks n child q k f fs (Some (link t)) h = within_tells q.links (fit (instance_of f.env t)) _ (λ t. to_pid_tells _ q.links (pid_in t) (λ m. tt))
performs_tells ks n child q k f fs (Some (unlink t)) h = within_tells q.links (fit (instance_of f.env t)) _ (λ t. to_pid_tells _ q.links (pid_in t) (λ m. tt))
performs_tells ks n child q k f fs (Some (give_back t)) h = within_tells q.links (fit (instance_of f.env t)) _ (λ t. leaves_tells n q k f.target fs t h)
performs_tells ks n child q k f fs (Some (raise c t)) h = within_tells q.links (fit (instance_of f.env t)) _ (λ t. raises_tells ks n q (f ∷ fs) c t h)

runs_in_tells : (ks : List Function) (n : ℕ) (child : Option ℕ) (q : Process) (f : Frame) (fs : List Frame) (k : Option Function) → IsKnown n → Tells (runs_in ks n child q f fs k)
runs_in_tells ks n child q f fs None h = tt
runs_in_tells ks n child q f fs (Some k) h = performs_tells ks n child q k f fs (slice_get k.steps f.place) h

runs_tells : (ks : List Function) (n : ℕ) (child : Option ℕ) (q : Process) (fs : List Frame) → IsKnown n → Tells (runs ks n child q fs)
runs_tells ks n child q [] h = tt
runs_tells ks n child q (f ∷ fs) h = runs_in_tells ks n child (with_frames q fs) f fs (slice_get ks f.function) h

begins_tells : (ks : List Function) (n : ℕ) (child : Option ℕ) (q : Process) (e : Option Entry) → IsKnown n → Tells (begins ks n child q e)
begins_tells ks n child q None h = runs_tells ks n child q q.frames h
begins_tells ks n child q (Some e) h = enters_tells ks n q q.frames (remotely None) e.args (number_from 0 ks (entry_mfa e)) h

act_after_tells : (ks : List Function) (n : ℕ) (child : Option ℕ) (q : Process) (s : Option Tree) → IsKnown n → Tells (act_after ks n child q s)
act_after_tells ks n child q None h = begins_tells ks n child q q.entry h
act_after_tells ks n child q (Some r) h = tt

-- ---- what the act tells of others

if_known : (b : Bool) (a c : Move) → (b ≡ true → AllKnown (events_in a)) → (b ≡ false → AllKnown (events_in c)) → AllKnown (events_in (cond b a c))
if_known true a c p q = p refl
if_known false a c p q = q refl

living_known : (w : World) (m i : ℕ) → length w.slots ≤ 64 → place_of_pid w m ≡ Some i → IsKnown m
living_known w m i few e =
    let here = living_here w m i e in
    let below = slice_get_within w.slots i (Some here.0) here.1.0 in
    let at = here.1.1.0 in
    (omega (arith, at), omega (arith, at, below, few))

delivered_known : (w : World) (n m : ℕ) (t : Tree) (o : Option ℕ) → length w.slots ≤ 64 → IsKnown n → place_of_pid w m ≡ o → AllKnown (events_in (delivered_to w n m t o))
delivered_known w n m t None few h e = (h, tt)
delivered_known w n m t (Some i) few h e = (h, (living_known w m i few e, tt))

linked_known : (w : World) (i n m : ℕ) (o : Option ℕ) → length w.slots ≤ 64 → IsKnown n → place_of_pid w m ≡ o → AllKnown (events_in (linked_to w i n m o))
linked_known w i n m None few h e = (h, tt)
linked_known w i n m (Some j) few h e = (h, ((living_known w m j few e, h), tt))

unlinked_known : (w : World) (i n m : ℕ) (o : Option ℕ) → IsKnown n → IsKnown m → AllKnown (events_in (unlinked_from w i n m o))
unlinked_known w i n m None h k = (h, ((k, h), tt))
unlinked_known w i n m (Some j) h k = (h, ((k, h), tt))

place_within : (bs : List Bool) (k : ℕ) (o : Option Bool) → slice_get bs k ≡ o → unwrap_or o false ≡ true → k < length bs
place_within bs k None e h = absurd (let f : false ≡ true = h in cc)
place_within bs k (Some b) e h = slice_get_within bs k b e

known_from : (m : ℕ) → nat_le 100 m ≡ true → m - 100 < 64 → IsKnown m
known_from m le below = (grind (arith, nat_tests), omega arith)

linked_in_known : (ss : List (Option Process)) (i m : ℕ) (o : Option (Option Process)) → AllSmall ss → slice_get ss i ≡ o → linked_in o m ≡ true → IsKnown m
linked_in_known ss i m None all e h = absurd (let f : false ≡ true = h in cc)
linked_in_known ss i m (Some None) all e h = absurd (let f : false ≡ true = h in cc)
linked_in_known ss i m (Some (Some q)) all e h =
    let s = small_at ss i q all e in
    let p = and_parts (nat_le 100 m) (unwrap_or (slice_get q.links (m - 100)) false) h in
    let below = place_within q.links (m - 100) (slice_get q.links (m - 100)) refl p.1 in
    let links = s.1 in
    known_from m p.0 (omega (arith, below, links))

known_append : (xs ys : List Event) → AllKnown xs → AllKnown ys → AllKnown (xs ++ ys)
known_append [] ys p q = q
known_append (x ∷ xs) ys p q = (p.0, known_append xs ys p.1 q)

partings_known : (n m : ℕ) (bs : List Bool) → IsKnown n → 100 ≤ m → m + length bs ≤ 164 → AllKnown (map (λ k. getting_unlinked k n) (partner_pids m bs))
partings_known n m [] h low high = tt
partings_known n m (true ∷ bs) h low high = (((low, omega arith), h), partings_known n (suc m) bs h (omega arith) (omega arith))
partings_known n m (false ∷ bs) h low high = partings_known n (suc m) bs h (omega arith) (omega arith)

pid_if_known : (b : Bool) (k c : ℕ) → k < 64 → cond b (Some (100 + k)) None ≡ Some c → IsKnown c
pid_if_known false k c few e = absurd (let f : None ≡ Some c = e in cc)
pid_if_known true k c few e = let is : 100 + k ≡ c = (let f : Some (100 + k) ≡ Some c = e in cc) in (omega (arith, is), omega (arith, is, few))

pid_known : (w : World) (c : ℕ) → next_pid w ≡ Some c → IsKnown c
pid_known w c e = pid_if_known (nat_lt (length w.slots) 64) (length w.slots) c (pid_left w c e) e

acted_known : (w : World) (i n : ℕ) (q : Process) (a : Act) → IsWithin w → IsSmall q → IsKnown n → IsOwnAct 64 q.links (next_pid w) a → StaysEntered a → Tells a → AllKnown (events_in (after_act w i n a))
acted_known w i n q (waits r) in_w s h own entered tells = tt
acted_known w i n q (continues r e) in_w s h own entered tells = tells
acted_known w i n q (sends r m t) in_w s h own entered tells =
    let v = put_at w i r in
    delivered_known v n m t (place_of_pid v m) (put_within w i r in_w (own_small q r own.0 own.1 entered s)).0 h refl
acted_known w i n q (links_to r m) in_w s h own entered tells =
    let v = put_at w i r in
    if_known (n == m) (moved v []) _ (λ e. tt) (λ e. if_known (linked_at v i m) (moved v (linked n m ∷ [])) _ (λ e. (h, tt)) (λ e. linked_known v i n m (place_of_pid v m) (put_within w i r in_w (own_small q r own.0 own.1 entered s)).0 h refl))
acted_known w i n q (unlinks_from r m) in_w s h own entered tells =
    let v = put_at w i r in
    if_known (n == m) (moved v []) _ (λ e. tt)
    (λ e. if_known (linked_at v i m) _ (moved v (unlinked n m ∷ []))
    (λ e. unlinked_known v i n m (place_of_pid v m) h (linked_in_known v.slots i m (slice_get v.slots i) (put_within w i r in_w (own_small q r own.0 own.1 entered s)).1 refl e)) (λ e. (h, tt)))
acted_known w i n q (spawns r c e) in_w s h own entered tells = let k = pid_known w c own.1 in ((h, k), ((k, h), tt))
acted_known w i n q (exits partners r before) in_w s h own entered tells =
    let size = ap length own in
    let most = s.1 in
    known_append before (exited n r ∷ map (λ m. getting_unlinked m n) (partner_pids 100 partners)) tells (h, partings_known n 100 partners h (omega arith) (omega (arith, size, most)))

stepped_known : (ks : List Function) (w : World) (i n : ℕ) (o : Option (Option Process)) → IsWithin w → n ≡ 100 + i → slice_get w.slots i ≡ o → AllKnown (events_in (stepped_at ks w i n o))
stepped_known ks w i n None in_w at here = tt
stepped_known ks w i n (Some None) in_w at here = tt
stepped_known ks w i n (Some (Some q)) in_w at here =
    let s = small_at w.slots i q in_w.1 here in
    let below = slice_get_within w.slots i (Some q) here in
    let few = in_w.0 in
    let h : IsKnown n = (omega (arith, at), omega (arith, at, below, few)) in
    acted_known w i n q (act ks n (next_pid w) q) in_w s h (act_own 64 (omega arith) ks n (next_pid w) q s.0) (act_entered ks n (next_pid w) q s.2) (act_after_tells ks n (next_pid w) q q.signal h)

from_hundred : (n : ℕ) → nat_le 100 n ≡ true → n ≡ 100 + (n - 100)
from_hundred n e = let h : 100 ≤ n = grind (arith, nat_tests) in omega (arith, h)

pub next_known : (ks : List Function) (w : World) (n : ℕ) → IsWithin w → AllKnown (events_in (next_of ks w n))
next_known ks w n in_w =
    if_known (nat_le 100 n) _ (idle w) (λ e. stepped_known ks w (n - 100) n (slice_get w.slots (n - 100)) in_w (from_hundred n e) refl) (λ e. tt)

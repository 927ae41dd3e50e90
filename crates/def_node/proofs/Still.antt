-- A process that can't move stays as it is, and so do all others.
use Rattle.std.proofs.Common.{◌≡◌, ℕ, zero, suc, ◌-◌, Bool, true, false, cond, List, [], ◌∷◌, length, map, slice_get, Option, Some, None, refl, ap, sym, ◌∙◌}
use Rattle.std.specs.Prelude.{nat_le, nat_lt, ◌==◌}
use Rattle.std.specs.Option.{option_map}
use Rattle.def_term.specs.Tree.{Tree, pid_in}
use Rattle.def_term.specs.Names.{Name, word}
use Rattle.def_script.specs.Program.{Class, Step, send, receive, call_remote, call_local, catch, spawn, link, unlink, give_back, raise, Function, Program, Entry, entry_mfa, number_from}
use Rattle.def_node.specs.Event.{Event, linked, unlinked}
use Rattle.def_node.specs.Values.{instance_of, fit, fitting_all}
use Rattle.def_node.specs.Process.{Process, Frame, Exception, Manner, Act, waits, continues, sends, links_to, unlinks_from, spawns, exits, with_frames, step_on, next_step, remotely, locally, catch_manner, exception_of, kept_by, catch_target, raises_to, raises, enters, enters_at, leaves_to, to_pid, receives, within, calls, spawns_at, performs, runs_in, runs, begins, act_after, act}
use Rattle.def_node.specs.Node.{World, Move, moved, idle, NodeState, PickResult, gives_command, gives_nothing, next, of_move, with_slot, put_at, place_of_pid, delivered_to, linked_at, linked_to, unlinked_from, after_act, stepped_at, next_of, next_pid}
use Rattle.def_node.specs.Limits.{IsStill, NothingChanges, state_after}

-- an act that waits leaves the process as it was
abbrev WaitsAs : Process → Act → Type 0
WaitsAs o (waits q) = q ≡ o
WaitsAs o (continues q e) = Unit {0}
WaitsAs o (sends q m t) = Unit {0}
WaitsAs o (links_to q m) = Unit {0}
WaitsAs o (unlinks_from q m) = Unit {0}
WaitsAs o (spawns q c e) = Unit {0}
WaitsAs o (exits partners r before) = Unit {0}

if_waits : (o : Process) (b : Bool) (a c : Act) → WaitsAs o a → WaitsAs o c → WaitsAs o (cond b a c)
if_waits o true a c p q = p
if_waits o false a c p q = q

enters_at_waits : (o : Process) (ks : List Function) (n : ℕ) (q : Process) (fs : List Frame) (a : Manner) (args : List Tree) (i : ℕ) (k : Option Function)
    → WaitsAs o (enters_at ks n q fs a args i k)
enters_at_waits o ks n q fs a args i None = tt
enters_at_waits o ks n q fs a args i (Some k) = if_waits o (nat_le 64 (length fs)) _ _ tt tt

enters_waits : (o : Process) (ks : List Function) (n : ℕ) (q : Process) (fs : List Frame) (a : Manner) (args : List Tree) (i : Option ℕ)
    → WaitsAs o (enters ks n q fs a args i)
enters_waits o ks n q fs a args None = tt
enters_waits o ks n q fs a args (Some i) = enters_at_waits o ks n q fs a args i (slice_get ks i)

leaves_waits : (o q : Process) (x : Option Name) (fs : List Frame) (t : Tree) (e : Event) → WaitsAs o (leaves_to q x fs t e)
leaves_waits o q x [] t e = tt
leaves_waits o q x (g ∷ gs) t e = tt

raises_to_waits : (o q : Process) (x : Option Name) (gs : List Frame) (e : Exception) (es : List Event) → WaitsAs o (raises_to q x gs e es)
raises_to_waits o q x [] e es = tt
raises_to_waits o q x (g ∷ gs) e es = tt

raises_waits : (o : Process) (ks : List Function) (n : ℕ) (q : Process) (fs : List Frame) (c : Class) (t : Tree) → WaitsAs o (raises ks n q fs c t)
raises_waits o ks n q fs c t = raises_to_waits o q (catch_target fs) (kept_by fs) (exception_of fs c t) _

within_waits : {X : Type 0} (o : Process) (ls : List Bool) (v : Option X) (f : X → Act) → ((x : X) → WaitsAs o (f x)) → WaitsAs o (within ls v f)
within_waits o ls None f h = tt
within_waits o ls (Some x) f h = h x

to_pid_waits : (o : Process) (f : ℕ → Act) (ls : List Bool) (v : Option ℕ) → ((n : ℕ) → WaitsAs o (f n)) → WaitsAs o (to_pid f ls v)
to_pid_waits o f ls None h = tt
to_pid_waits o f ls (Some n) h = h n

receives_waits : (o q : Process) (f : Frame) (fs : List Frame) (x : Option Name) (ts : List Tree) → with_frames q (f ∷ fs) ≡ o → WaitsAs o (receives q f fs x ts)
receives_waits o q f fs x [] is = is
receives_waits o q f fs x (t ∷ ts) is = tt

spawns_at_waits : (o q : Process) (f : Frame) (fs : List Frame) (x : Option Name) (m g : Name) (args : List Tree) (child : Option ℕ) → WaitsAs o (spawns_at q f fs x m g args child)
spawns_at_waits o q f fs x m g args None = tt
spawns_at_waits o q f fs x m g args (Some c) = tt

calls_waits : (o : Process) (ks : List Function) (n : ℕ) (q : Process) (f : Frame) (fs : List Frame) (a : Manner) (m g : Name) (args : List Tree)
    → WaitsAs o (calls ks n q f fs a m g args)
calls_waits o ks n q f fs a m g args =
    within_waits o q.links (fitting_all args) _ (λ ts. enters_waits o ks n (step_on q f fs) (next_step f ∷ fs) a ts (number_from 0 ks (record { module_name = m; function_name = g; arity = length ts })))

performs_waits : (o : Process) (ks : List Function) (n : ℕ) (child : Option ℕ) (q : Process) (k : Function) (f : Frame) (fs : List Frame) (s : Option Step)
    → with_frames q (f ∷ fs) ≡ o → WaitsAs o (performs ks n child q k f fs s)
performs_waits o ks n child q k f fs None is = leaves_waits o q f.target fs (word "ok") _
performs_waits o ks n child q k f fs (Some (send to t)) is =
    within_waits o q.links (fit (instance_of f.env to)) _ (λ to. within_waits o q.links (fit (instance_of f.env t)) _ (λ t. to_pid_waits o _ q.links (pid_in to) (λ m. tt)))
performs_waits o ks n child q k f fs (Some (receive x)) is = receives_waits o q f fs x q.mailbox is
performs_waits o ks n child q k f fs (Some (call_remote x m g ts)) is = calls_waits o ks n q f fs (remotely x) m g (map (instance_of f.env) ts)
performs_waits o ks n child q k f fs (Some (call_local x g ts)) is = calls_waits o ks n q f fs (locally x) k.module_name g (map (instance_of f.env) ts)
performs_waits o ks n child q k f fs (Some (catch x m g ts)) is = calls_waits o ks n q f fs (catch_manner x) m g (map (instance_of f.env) ts)
performs_waits o ks n child q k f fs (Some (spawn x m g ts)) is = within_waits o q.links (fitting_all (map (instance_of f.env) ts)) _ (λ args. spawns_at_waits o q f fs x m g args child)
performs_waits o ks n child q k f fs (Some (link t)) is = within_waits o q.links (fit (instance_of f.env t)) _ (λ t. to_pid_waits o _ q.links (pid_in t) (λ m. tt))
performs_waits o ks n child q k f fs (Some (unlink t)) is = within_waits o q.links (fit (instance_of f.env t)) _ (λ t. to_pid_waits o _ q.links (pid_in t) (λ m. tt))
performs_waits o ks n child q k f fs (Some (give_back t)) is = within_waits o q.links (fit (instance_of f.env t)) _ (λ t. leaves_waits o q f.target fs t _)
performs_waits o ks n child q k f fs (Some (raise c t)) is = within_waits o q.links (fit (instance_of f.env t)) _ (λ t. raises_waits o ks n q (f ∷ fs) c t)

runs_in_waits : (o : Process) (ks : List Function) (n : ℕ) (child : Option ℕ) (q : Process) (f : Frame) (fs : List Frame) (k : Option Function)
    → with_frames q (f ∷ fs) ≡ o → WaitsAs o (runs_in ks n child q f fs k)
runs_in_waits o ks n child q f fs None is = is
runs_in_waits o ks n child q f fs (Some k) is = performs_waits o ks n child q k f fs (slice_get k.steps f.place) is

runs_waits : (ks : List Function) (n : ℕ) (child : Option ℕ) (q : Process) (fs : List Frame) → with_frames q fs ≡ q → WaitsAs q (runs ks n child q fs)
runs_waits ks n child q [] is = refl
runs_waits ks n child q (f ∷ fs) is = runs_in_waits q ks n child (with_frames q fs) f fs (slice_get ks f.function) is

begins_waits : (ks : List Function) (n : ℕ) (child : Option ℕ) (q : Process) (e : Option Entry) → WaitsAs q (begins ks n child q e)
begins_waits ks n child q None = runs_waits ks n child q q.frames refl
begins_waits ks n child q (Some e) = enters_waits q ks n q q.frames (remotely None) e.args (number_from 0 ks (entry_mfa e))

act_after_waits : (ks : List Function) (n : ℕ) (child : Option ℕ) (q : Process) (s : Option Tree) → WaitsAs q (act_after ks n child q s)
act_after_waits ks n child q None = begins_waits ks n child q q.entry
act_after_waits ks n child q (Some r) = tt

pub act_waits : (ks : List Function) (n : ℕ) (child : Option ℕ) (q : Process) → WaitsAs q (act ks n child q)
act_waits ks n child q = act_after_waits ks n child q q.signal

changed_same : (ss : List (Option Process)) (i : ℕ) (q : Process) → slice_get ss i ≡ Some (Some q) → with_slot ss i (λ x. q) ≡ ss
changed_same [] i q e = refl
changed_same (s ∷ ss) zero q e = let k : s ≡ Some q = (let m : Some s ≡ Some (Some q) = e in cc) in ap (λ x. option_map (λ y. q) x ∷ ss) k ∙ ap (λ x. x ∷ ss) (sym k)
changed_same (s ∷ ss) (suc i) q e = ap (λ xs. s ∷ xs) (changed_same ss i q e)

if_still : (w : World) (b : Bool) (a c : Move) → IsStill w a → IsStill w c → IsStill w (cond b a c)
if_still w true a c p q = p
if_still w false a c p q = q

delivered_still : (w v : World) (n m : ℕ) (t : Tree) (o : Option ℕ) → IsStill v (delivered_to w n m t o)
delivered_still w v n m t None = tt
delivered_still w v n m t (Some i) = tt

linked_still : (w v : World) (i n m : ℕ) (o : Option ℕ) → IsStill v (linked_to w i n m o)
linked_still w v i n m None = tt
linked_still w v i n m (Some j) = tt

unlinked_still : (w v : World) (i n m : ℕ) (o : Option ℕ) → IsStill v (unlinked_from w i n m o)
unlinked_still w v i n m None = tt
unlinked_still w v i n m (Some j) = tt

acted_still : (w : World) (i n : ℕ) (q : Process) (a : Act) → slice_get w.slots i ≡ Some (Some q) → WaitsAs q a → IsStill w (after_act w i n a)
acted_still w i n q (waits r) here is =
    ap (λ (x : Process). put_at w i x) is ∙ ap (λ (ss : List (Option Process)). record w { slots = ss }) (changed_same w.slots i q here)
acted_still w i n q (continues r e) here is = tt
acted_still w i n q (sends r m t) here is = delivered_still (put_at w i r) w n m t (place_of_pid (put_at w i r) m)
acted_still w i n q (links_to r m) here is =
    let v = put_at w i r in
    if_still w (n == m) (moved v []) _ tt (if_still w (linked_at v i m) (moved v (linked n m ∷ [])) _ tt (linked_still v w i n m (place_of_pid v m)))
acted_still w i n q (unlinks_from r m) here is =
    let v = put_at w i r in
    if_still w (n == m) (moved v []) _ tt (if_still w (linked_at v i m) _ (moved v (unlinked n m ∷ [])) (unlinked_still v w i n m (place_of_pid v m)) tt)
acted_still w i n q (spawns r c e) here is = tt
acted_still w i n q (exits partners r before) here is = tt

stepped_still : (ks : List Function) (w : World) (i n : ℕ) (o : Option (Option Process)) → slice_get w.slots i ≡ o → IsStill w (stepped_at ks w i n o)
stepped_still ks w i n None here = refl
stepped_still ks w i n (Some None) here = refl
stepped_still ks w i n (Some (Some q)) here = acted_still w i n q (act ks n (next_pid w) q) here (act_waits ks n (next_pid w) q)

pub next_still : (ks : List Function) (w : World) (n : ℕ) → IsStill w (next_of ks w n)
next_still ks w n = if_still w (nat_le 100 n) _ (idle w) (stepped_still ks w (n - 100) n (slice_get w.slots (n - 100)) refl) refl

move_nothing : (s : NodeState) (m : Move) → IsStill s.world m → NothingChanges s (of_move s m)
move_nothing s (moved v es) still = tt
move_nothing s (idle v) still = ap (λ (x : World). record s { world = x }) still

if_nothing : (s : NodeState) (b : Bool) (a c : PickResult) → NothingChanges s a → NothingChanges s c → NothingChanges s (cond b a c)
if_nothing s true a c p q = p
if_nothing s false a c p q = q

pub next_nothing : (p : Program) (s : NodeState) (n : ℕ) → NothingChanges s (next p s n)
next_nothing p s zero = if_nothing s (nat_lt s.taken (length p.commands)) (gives_command (record s { taken = suc s.taken }) (suc s.taken)) (gives_nothing s) tt refl
next_nothing p s (suc n) = move_nothing s (next_of p.functions s.world (suc n)) (next_still p.functions s.world (suc n))

if_same_world : (s : NodeState) (b : Bool) (a c : PickResult) → (state_after a).world ≡ s.world → (state_after c).world ≡ s.world → (state_after (cond b a c)).world ≡ s.world
if_same_world s true a c p q = p
if_same_world s false a c p q = q

pub control_still : (p : Program) (s : NodeState) → (state_after (next p s 0)).world ≡ s.world
control_still p s = if_same_world s (nat_lt s.taken (length p.commands)) (gives_command (record s { taken = suc s.taken }) (suc s.taken)) (gives_nothing s) refl refl

-- After the act of a process no catch step called the oldest of its frames.
use Rattle.std.proofs.Common.{◌≡◌, ℕ, Bool, true, false, cond, List, [], ◌∷◌, length, map, slice_get, Option, Some, None, refl, ◌∙◌, codes}
use Rattle.std.specs.Prelude.{nat_le}
use Rattle.def_term.specs.Tree.{Tree, pid, pid_in}
use Rattle.def_term.specs.Names.{Name, word}
use Rattle.def_script.specs.Program.{Class, Step, send, receive, call_remote, call_local, catch, spawn, link, unlink, give_back, raise, Function, Entry, entry_mfa, number_from}
use Rattle.def_node.specs.Event.{Event}
use Rattle.def_node.specs.Values.{instance_of, fit, fitting_all, rebound_target, params_bound}
use Rattle.def_node.specs.Process.{Process, Frame, Exception, Manner, Act, waits, continues, sends, links_to, unlinks_from, spawns, exits, with_frames, step_on, next_step, remotely, locally, catch_manner, exception_of, caught_as, kept_by, catch_target, raises_to, raises, enters, enters_at, leaves_to, to_pid, receives, within, calls, spawns_at, performs, runs_in, runs, begins, act_after, act}
use Rattle.def_node.specs.Limits.{IsEntered}

-- the process that an act leaves
abbrev pub StaysEntered : Act → Type 0
StaysEntered (waits q) = IsEntered q.frames
StaysEntered (continues q es) = IsEntered q.frames
StaysEntered (sends q m t) = IsEntered q.frames
StaysEntered (links_to q m) = IsEntered q.frames
StaysEntered (unlinks_from q m) = IsEntered q.frames
StaysEntered (spawns q c e) = IsEntered q.frames
StaysEntered (exits partners r before) = Unit {0}

-- a change of the newest frame
swapped : (f g : Frame) (fs : List Frame) → g.by_catch ≡ f.by_catch → IsEntered (f ∷ fs) → IsEntered (g ∷ fs)
swapped f g [] same h = same ∙ h
swapped f g (k ∷ ks) same h = h

-- the frames beneath
beneath : (f : Frame) (fs : List Frame) → IsEntered (f ∷ fs) → IsEntered fs
beneath f [] h = tt
beneath f (g ∷ gs) h = h

-- one more frame, that of the entry call or one over others
one_more : (f : Frame) (fs : List Frame) → f.by_catch ≡ false → IsEntered fs → IsEntered (f ∷ fs)
one_more f [] is h = is
one_more f (g ∷ gs) is h = h

if_entered : (b : Bool) (a c : Act) → StaysEntered a → StaysEntered c → StaysEntered (cond b a c)
if_entered true a c p q = p
if_entered false a c p q = q

-- a call over other frames
calls_at_entered : (ks : List Function) (n : ℕ) (q : Process) (f : Frame) (fs : List Frame) (a : Manner) (args : List Tree) (i : ℕ) (k : Option Function)
    → IsEntered (f ∷ fs) → StaysEntered (enters_at ks n q (f ∷ fs) a args i k)
calls_at_entered ks n q f fs a args i None h = tt
calls_at_entered ks n q f fs a args i (Some k) h = if_entered (nat_le 64 (length (f ∷ fs))) _ _ tt h

calls_on_entered : (ks : List Function) (n : ℕ) (q : Process) (f : Frame) (fs : List Frame) (a : Manner) (args : List Tree) (i : Option ℕ)
    → IsEntered (f ∷ fs) → StaysEntered (enters ks n q (f ∷ fs) a args i)
calls_on_entered ks n q f fs a args None h = tt
calls_on_entered ks n q f fs a args (Some i) h = calls_at_entered ks n q f fs a args i (slice_get ks i) h

-- the entry call
entry_at_entered : (ks : List Function) (n : ℕ) (q : Process) (fs : List Frame) (args : List Tree) (i : ℕ) (k : Option Function) → IsEntered fs → StaysEntered (enters_at ks n q fs (remotely None) args i k)
entry_at_entered ks n q fs args i None h = tt
entry_at_entered ks n q fs args i (Some k) h = if_entered (nat_le 64 (length fs)) _ _ tt (one_more (record { function = i; place = 0; env = params_bound ((codes "Self", pid n) ∷ []) k.params args; target = None; by_catch = false }) fs refl h)

entry_entered : (ks : List Function) (n : ℕ) (q : Process) (fs : List Frame) (args : List Tree) (i : Option ℕ) → IsEntered fs → StaysEntered (enters ks n q fs (remotely None) args i)
entry_entered ks n q fs args None h = tt
entry_entered ks n q fs args (Some i) h = entry_at_entered ks n q fs args i (slice_get ks i) h

leaves_entered : (q : Process) (x : Option Name) (fs : List Frame) (t : Tree) (e : Event) → IsEntered fs → StaysEntered (leaves_to q x fs t e)
leaves_entered q x [] t e h = tt
leaves_entered q x (g ∷ gs) t e h = swapped g (record g { env = rebound_target x t g.env }) gs refl h

kept_entered : (fs : List Frame) → IsEntered fs → IsEntered (kept_by fs)
kept_entered [] h = tt
kept_entered (f ∷ fs) h = go f.by_catch (beneath f fs h) (kept_entered fs (beneath f fs h))
  where
    go : (b : Bool) → IsEntered fs → IsEntered (kept_by fs) → IsEntered (cond b fs (kept_by fs))
    go true a c = a
    go false a c = c

raises_to_entered : (q : Process) (x : Option Name) (fs : List Frame) (e : Exception) (es : List Event) → IsEntered fs → StaysEntered (raises_to q x fs e es)
raises_to_entered q x [] e es h = tt
raises_to_entered q x (g ∷ gs) e es h = swapped g (record g { env = rebound_target x (caught_as e.class e.value) g.env }) gs refl h

raises_entered : (ks : List Function) (n : ℕ) (q : Process) (fs : List Frame) (c : Class) (t : Tree) → IsEntered fs → StaysEntered (raises ks n q fs c t)
raises_entered ks n q fs c t h = raises_to_entered q (catch_target fs) (kept_by fs) (exception_of fs c t) _ (kept_entered fs h)

within_entered : {X : Type 0} (ls : List Bool) (o : Option X) (f : X → Act) → ((x : X) → StaysEntered (f x)) → StaysEntered (within ls o f)
within_entered ls None f h = tt
within_entered ls (Some x) f h = h x

to_pid_entered : (f : ℕ → Act) (ls : List Bool) (o : Option ℕ) → ((n : ℕ) → StaysEntered (f n)) → StaysEntered (to_pid f ls o)
to_pid_entered f ls None h = tt
to_pid_entered f ls (Some n) h = h n

receives_entered : (q : Process) (f : Frame) (fs : List Frame) (x : Option Name) (ts : List Tree) → IsEntered (f ∷ fs) → StaysEntered (receives q f fs x ts)
receives_entered q f fs x [] h = h
receives_entered q f fs x (t ∷ ts) h = swapped f (record (next_step f) { env = rebound_target x t f.env }) fs refl h

spawns_at_entered : (q : Process) (f : Frame) (fs : List Frame) (x : Option Name) (m g : Name) (args : List Tree) (child : Option ℕ) → IsEntered (f ∷ fs) → StaysEntered (spawns_at q f fs x m g args child)
spawns_at_entered q f fs x m g args None h = tt
spawns_at_entered q f fs x m g args (Some c) h = swapped f (record (next_step f) { env = rebound_target x (pid c) f.env }) fs refl h

calls_entered : (ks : List Function) (n : ℕ) (q : Process) (f : Frame) (fs : List Frame) (a : Manner) (m g : Name) (args : List Tree) → IsEntered (f ∷ fs) → StaysEntered (calls ks n q f fs a m g args)
calls_entered ks n q f fs a m g args h =
    within_entered q.links (fitting_all args) _
    (λ ts. calls_on_entered ks n (step_on q f fs) (next_step f) fs a ts (number_from 0 ks (record { module_name = m; function_name = g; arity = length ts })) (swapped f (next_step f) fs refl h))

performs_entered : (ks : List Function) (n : ℕ) (child : Option ℕ) (q : Process) (k : Function) (f : Frame) (fs : List Frame) (o : Option Step)
    → IsEntered (f ∷ fs) → StaysEntered (performs ks n child q k f fs o)
performs_entered ks n child q k f fs None h = leaves_entered q f.target fs (word "ok") _ (beneath f fs h)
performs_entered ks n child q k f fs (Some (send to t)) h =
    within_entered q.links (fit (instance_of f.env to)) _ (λ to. within_entered q.links (fit (instance_of f.env t)) _ (λ t. to_pid_entered _ q.links (pid_in to) (λ m. swapped f (next_step f) fs refl h)))
performs_entered ks n child q k f fs (Some (receive x)) h = receives_entered q f fs x q.mailbox h
performs_entered ks n child q k f fs (Some (call_remote x m g ts)) h = calls_entered ks n q f fs (remotely x) m g (map (instance_of f.env) ts) h
performs_entered ks n child q k f fs (Some (call_local x g ts)) h = calls_entered ks n q f fs (locally x) k.module_name g (map (instance_of f.env) ts) h
performs_entered ks n child q k f fs (Some (catch x m g ts)) h = calls_entered ks n q f fs (catch_manner x) m g (map (instance_of f.env) ts) h
performs_entered ks n child q k f fs (Some (spawn x m g ts)) h = within_entered q.links (fitting_all (map (instance_of f.env) ts)) _ (λ args. spawns_at_entered q f fs x m g args child h)
performs_entered ks n child q k f fs (Some (link t)) h = within_entered q.links (fit (instance_of f.env t)) _ (λ t. to_pid_entered _ q.links (pid_in t) (λ m. swapped f (next_step f) fs refl h))
performs_entered ks n child q k f fs (Some (unlink t)) h = within_entered q.links (fit (instance_of f.env t)) _ (λ t. to_pid_entered _ q.links (pid_in t) (λ m. swapped f (next_step f) fs refl h))
performs_entered ks n child q k f fs (Some (give_back t)) h = within_entered q.links (fit (instance_of f.env t)) _ (λ t. leaves_entered q f.target fs t _ (beneath f fs h))
performs_entered ks n child q k f fs (Some (raise c t)) h = within_entered q.links (fit (instance_of f.env t)) _ (λ t. raises_entered ks n q (f ∷ fs) c t h)

runs_in_entered : (ks : List Function) (n : ℕ) (child : Option ℕ) (q : Process) (f : Frame) (fs : List Frame) (o : Option Function) → IsEntered (f ∷ fs) → StaysEntered (runs_in ks n child q f fs o)
runs_in_entered ks n child q f fs None h = h
runs_in_entered ks n child q f fs (Some k) h = performs_entered ks n child q k f fs (slice_get k.steps f.place) h

runs_entered : (ks : List Function) (n : ℕ) (child : Option ℕ) (q : Process) (fs : List Frame) → IsEntered q.frames → IsEntered fs → StaysEntered (runs ks n child q fs)
runs_entered ks n child q [] own h = own
runs_entered ks n child q (f ∷ fs) own h = runs_in_entered ks n child (with_frames q fs) f fs (slice_get ks f.function) h

begins_entered : (ks : List Function) (n : ℕ) (child : Option ℕ) (q : Process) (o : Option Entry) → IsEntered q.frames → StaysEntered (begins ks n child q o)
begins_entered ks n child q None h = runs_entered ks n child q q.frames h h
begins_entered ks n child q (Some e) h = entry_entered ks n q q.frames e.args (number_from 0 ks (entry_mfa e)) h

act_after_entered : (ks : List Function) (n : ℕ) (child : Option ℕ) (q : Process) (o : Option Tree) → IsEntered q.frames → StaysEntered (act_after ks n child q o)
act_after_entered ks n child q None h = begins_entered ks n child q q.entry h
act_after_entered ks n child q (Some r) h = tt

pub act_entered : (ks : List Function) (n : ℕ) (child : Option ℕ) (q : Process) → IsEntered q.frames → StaysEntered (act ks n child q)
act_entered ks n child q h = act_after_entered ks n child q q.signal h

-- The act of a process changes its frames alone, and never has more than 64 of them.
use Rattle.std.proofs.Common.{◌≡◌, ℕ, suc, ◌<◌, ◌≤◌, Bool, true, false, cond, List, [], ◌∷◌, length, map, slice_get, Option, Some, None, refl, arith}
use Rattle.std.specs.Prelude.{nat_le}
use Rattle.std.proofs.lemmas.Bool.Decides.{nat_tests}
use Rattle.def_term.specs.Tree.{Tree, pid_in}
use Rattle.def_term.specs.Names.{Name, word}
use Rattle.def_script.specs.Program.{Class, Step, send, receive, call_remote, call_local, catch, spawn, link, unlink, give_back, raise, Function, Entry, entry_mfa, number_from}
use Rattle.def_node.specs.Event.{Event}
use Rattle.def_node.specs.Values.{instance_of, fit, fitting_all}
use Rattle.def_node.specs.Process.{Process, Frame, Exception, Manner, Act, with_frames, step_on, next_step, remotely, locally, catch_manner, exception_of, kept_by, catch_target, raises_to, raises, enters, enters_at, leaves_to, to_pid, receives, within, calls, spawns_at, performs, runs_in, runs, begins, act_after, act}
use Rattle.def_node.specs.Limits.{IsOwnAct}

if_own : (most : ℕ) → (ls : List Bool) (child : Option ℕ) (b : Bool) (a c : Act) → (b ≡ true → IsOwnAct most ls child a) → (b ≡ false → IsOwnAct most ls child c) → IsOwnAct most ls child (cond b a c)
if_own most ls child true a c p q = p refl
if_own most ls child false a c p q = q refl

suc_limit : (most n : ℕ) → 64 ≤ most → nat_le 64 n ≡ false → suc n ≤ most
suc_limit most n wide e = grind (arith, nat_tests)

enters_at_own : (most : ℕ) → 64 ≤ most → (child : Option ℕ) (ks : List Function) (n : ℕ) (q : Process) (fs : List Frame) (a : Manner) (args : List Tree) (i : ℕ) (o : Option Function)
    → IsOwnAct most q.links child (enters_at ks n q fs a args i o)
enters_at_own most wide child ks n q fs a args i None = refl
enters_at_own most wide child ks n q fs a args i (Some k) = if_own most q.links child (nat_le 64 (length fs)) _ _ (λ e. refl) (λ e. (refl, suc_limit most (length fs) wide e))

enters_own : (most : ℕ) → 64 ≤ most → (child : Option ℕ) (ks : List Function) (n : ℕ) (q : Process) (fs : List Frame) (a : Manner) (args : List Tree) (o : Option ℕ)
    → IsOwnAct most q.links child (enters ks n q fs a args o)
enters_own most wide child ks n q fs a args None = refl
enters_own most wide child ks n q fs a args (Some i) = enters_at_own most wide child ks n q fs a args i (slice_get ks i)

leaves_own : (most : ℕ) → (child : Option ℕ) (q : Process) (x : Option Name) (fs : List Frame) (t : Tree) (e : Event) → length fs ≤ most → IsOwnAct most q.links child (leaves_to q x fs t e)
leaves_own most child q x [] t e few = refl
leaves_own most child q x (g ∷ gs) t e few = (refl, few)

-- a raise leaves as many frames at most
kept_short : (fs : List Frame) → length (kept_by fs) ≤ length fs
kept_short [] = omega arith
kept_short (f ∷ fs) = go f.by_catch (kept_short fs)
  where
    go : (b : Bool) → length (kept_by fs) ≤ length fs → length (cond b fs (kept_by fs)) ≤ suc (length fs)
    go true h = omega arith
    go false h = omega (arith, h)

raises_to_own : (most : ℕ) → (child : Option ℕ) (q : Process) (x : Option Name) (gs : List Frame) (e : Exception) (es : List Event) → length gs ≤ most → IsOwnAct most q.links child (raises_to q x gs e es)
raises_to_own most child q x [] e es few = refl
raises_to_own most child q x (g ∷ gs) e es few = (refl, few)

raises_own : (most : ℕ) → (child : Option ℕ) (ks : List Function) (n : ℕ) (q : Process) (fs : List Frame) (c : Class) (t : Tree) → length fs ≤ most → IsOwnAct most q.links child (raises ks n q fs c t)
raises_own most child ks n q fs c t few =
    let short = kept_short fs in
    raises_to_own most child q (catch_target fs) (kept_by fs) (exception_of fs c t) _ (omega (arith, short, few))

within_own : {X : Type 0} (most : ℕ) (child : Option ℕ) (ls : List Bool) (o : Option X) (f : X → Act) → ((x : X) → IsOwnAct most ls child (f x)) → IsOwnAct most ls child (within ls o f)
within_own most child ls None f own = refl
within_own most child ls (Some x) f own = own x

to_pid_own : (most : ℕ) → (child : Option ℕ) (f : ℕ → Act) (ls : List Bool) (o : Option ℕ) → ((n : ℕ) → IsOwnAct most ls child (f n)) → IsOwnAct most ls child (to_pid f ls o)
to_pid_own most child f ls None own = refl
to_pid_own most child f ls (Some n) own = own n

receives_own : (most : ℕ) → (child : Option ℕ) (q : Process) (f : Frame) (fs : List Frame) (x : Option Name) (ts : List Tree) → length fs < most → IsOwnAct most q.links child (receives q f fs x ts)
receives_own most child q f fs x [] few = (refl, omega arith)
receives_own most child q f fs x (t ∷ ts) few = (refl, omega arith)

spawns_at_own : (most : ℕ) → (child : Option ℕ) (q : Process) (f : Frame) (fs : List Frame) (x : Option Name) (m g : Name) (args : List Tree) → length fs < most → IsOwnAct most q.links child (spawns_at q f fs x m g args child)
spawns_at_own most None q f fs x m g args few = refl
spawns_at_own most (Some c) q f fs x m g args few = ((refl, omega arith), refl)

calls_own : (most : ℕ) → 64 ≤ most → (child : Option ℕ) (ks : List Function) (n : ℕ) (q : Process) (f : Frame) (fs : List Frame) (a : Manner) (m g : Name) (args : List Tree)
    → IsOwnAct most q.links child (calls ks n q f fs a m g args)
calls_own most wide child ks n q f fs a m g args =
    within_own most child q.links (fitting_all args) _ (λ ts. enters_own most wide child ks n (step_on q f fs) (next_step f ∷ fs) a ts (number_from 0 ks (record { module_name = m; function_name = g; arity = length ts })))

performs_own : (most : ℕ) → 64 ≤ most → (ks : List Function) (n : ℕ) (child : Option ℕ) (q : Process) (k : Function) (f : Frame) (fs : List Frame) (o : Option Step)
    → length fs < most → IsOwnAct most q.links child (performs ks n child q k f fs o)
performs_own most wide ks n child q k f fs None few = leaves_own most child q f.target fs (word "ok") _ (omega arith)
performs_own most wide ks n child q k f fs (Some (send to t)) few =
    within_own most child q.links (fit (instance_of f.env to)) _ (λ to. within_own most child q.links (fit (instance_of f.env t)) _ (λ t. to_pid_own most child _ q.links (pid_in to) (λ m. (refl, omega arith))))
performs_own most wide ks n child q k f fs (Some (receive x)) few = receives_own most child q f fs x q.mailbox few
performs_own most wide ks n child q k f fs (Some (call_remote x m g ts)) few = calls_own most wide child ks n q f fs (remotely x) m g (map (instance_of f.env) ts)
performs_own most wide ks n child q k f fs (Some (call_local x g ts)) few = calls_own most wide child ks n q f fs (locally x) k.module_name g (map (instance_of f.env) ts)
performs_own most wide ks n child q k f fs (Some (catch x m g ts)) few = calls_own most wide child ks n q f fs (catch_manner x) m g (map (instance_of f.env) ts)
performs_own most wide ks n child q k f fs (Some (spawn x m g ts)) few = within_own most child q.links (fitting_all (map (instance_of f.env) ts)) _ (λ args. spawns_at_own most child q f fs x m g args few)
performs_own most wide ks n child q k f fs (Some (link t)) few = within_own most child q.links (fit (instance_of f.env t)) _ (λ t. to_pid_own most child _ q.links (pid_in t) (λ m. (refl, omega arith)))
performs_own most wide ks n child q k f fs (Some (unlink t)) few = within_own most child q.links (fit (instance_of f.env t)) _ (λ t. to_pid_own most child _ q.links (pid_in t) (λ m. (refl, omega arith)))
performs_own most wide ks n child q k f fs (Some (give_back t)) few = within_own most child q.links (fit (instance_of f.env t)) _ (λ t. leaves_own most child q f.target fs t _ (omega arith))
performs_own most wide ks n child q k f fs (Some (raise c t)) few = within_own most child q.links (fit (instance_of f.env t)) _ (λ t. raises_own most child ks n q (f ∷ fs) c t (omega arith))

runs_in_own : (most : ℕ) → 64 ≤ most → (ks : List Function) (n : ℕ) (child : Option ℕ) (q : Process) (f : Frame) (fs : List Frame) (o : Option Function)
    → length fs < most → IsOwnAct most q.links child (runs_in ks n child q f fs o)
runs_in_own most wide ks n child q f fs None few = (refl, omega arith)
runs_in_own most wide ks n child q f fs (Some k) few = performs_own most wide ks n child q k f fs (slice_get k.steps f.place) few

runs_own : (most : ℕ) → 64 ≤ most → (ks : List Function) (n : ℕ) (child : Option ℕ) (q : Process) (fs : List Frame) → length fs ≤ most → length q.frames ≤ most → IsOwnAct most q.links child (runs ks n child q fs)
runs_own most wide ks n child q [] few own = (refl, own)
runs_own most wide ks n child q (f ∷ fs) few own = runs_in_own most wide ks n child (with_frames q fs) f fs (slice_get ks f.function) (omega arith)

begins_own : (most : ℕ) → 64 ≤ most → (ks : List Function) (n : ℕ) (child : Option ℕ) (q : Process) (o : Option Entry) → length q.frames ≤ most → IsOwnAct most q.links child (begins ks n child q o)
begins_own most wide ks n child q None few = runs_own most wide ks n child q q.frames few few
begins_own most wide ks n child q (Some e) few = enters_own most wide child ks n q q.frames (remotely None) e.args (number_from 0 ks (entry_mfa e))

act_after_own : (most : ℕ) → 64 ≤ most → (ks : List Function) (n : ℕ) (child : Option ℕ) (q : Process) (o : Option Tree) → length q.frames ≤ most → IsOwnAct most q.links child (act_after ks n child q o)
act_after_own most wide ks n child q None few = begins_own most wide ks n child q q.entry few
act_after_own most wide ks n child q (Some r) few = refl

pub act_own : (most : ℕ) → 64 ≤ most → (ks : List Function) (n : ℕ) (child : Option ℕ) (q : Process) → length q.frames ≤ most → IsOwnAct most q.links child (act ks n child q)
act_own most wide ks n child q few = act_after_own most wide ks n child q q.signal few

-- A move that shows calls, returns and exceptions alone changes its process alone, and one that shows nothing is independent of all other picks.
use Rattle.std.proofs.Common.{◌≡◌, ◌-◌, ℕ, zero, suc, Bool, true, false, ◌&&◌, cond, List, [], ◌∷◌, ◌++◌, length, map, slice_get, Option, Some, None, refl, sym}
use Rattle.std.specs.Prelude.{nat_le}
use Rattle.def_term.specs.Tree.{Tree, pid_in}
use Rattle.def_term.specs.Names.{Name, word}
use Rattle.def_script.specs.Program.{Class, Step, send, receive, call_remote, call_local, catch, spawn, link, unlink, give_back, raise, Function, Entry, entry_mfa, number_from, Program}
use Rattle.def_node.specs.Event.{Event, exited}
use Rattle.def_node.specs.Values.{instance_of, fit, fitting_all}
use Rattle.def_node.specs.Process.{Process, Frame, Exception, Manner, Act, waits, continues, sends, links_to, unlinks_from, spawns, exits, with_frames, step_on, next_step, remotely, locally, catch_manner, exception_of, kept_by, catch_target, raises_to, raises, enters, enters_at, leaves, to_pid, receives, within, calls, spawns_at, performs, runs_in, runs, begins, act_after, act}
use Rattle.def_node.specs.Node.{World, next_pid, put_at, place_of_pid, delivered_to, after_act, stepped_at, idle}
use Rattle.def_outlook.specs.Outlook.{living_at}
use Rattle.def_run.specs.Run.{run_state_of}
use Rattle.def_independence.specs.Alone.{is_link, has_link, have_link, is_unlink, has_unlink, have_unlink, is_alone, one_goes_alone, is_own_step, are_own_steps, shows_own_steps, shows_nothing}
use Rattle.def_independence.specs.Laws.{OwnStepsGoAlone, SilentMovesAreIndependent}
use Rattle.def_independence.proofs.Acts.{Fails, none_at}
use Rattle.def_independence.proofs.Picks.{from_all}
use Rattle.def_independence.proofs.Receives.{ReadyAfter, ready_by, silent_apart}

-- ---- acts that make or remove no link

abbrev is_tie : Act → Bool
is_tie (links_to q m) = true
is_tie (unlinks_from q m) = true
is_tie a = false

if_free : (b : Bool) (a c : Act) → is_tie a ≡ false → is_tie c ≡ false → is_tie (cond b a c) ≡ false
if_free true a c h k = h
if_free false a c h k = k

within_free : {X : Type 0} (ls : List Bool) (o : Option X) (f : X → Act) → ((x : X) → is_tie (f x) ≡ false) → is_tie (within ls o f) ≡ false
within_free ls None f h = refl
within_free ls (Some x) f h = h x

to_pid_free : (f : ℕ → Act) (ls : List Bool) (o : Option ℕ) → ((n : ℕ) → is_tie (f n) ≡ false) → is_tie (to_pid f ls o) ≡ false
to_pid_free f ls None h = refl
to_pid_free f ls (Some n) h = h n

receives_free : (q : Process) (f : Frame) (fs : List Frame) (x : Option Name) (ts : List Tree) → is_tie (receives q f fs x ts) ≡ false
receives_free q f fs x [] = refl
receives_free q f fs x (t ∷ ts) = refl

spawns_at_free : (q : Process) (f : Frame) (fs : List Frame) (x : Option Name) (m g : Name) (args : List Tree) (child : Option ℕ) → is_tie (spawns_at q f fs x m g args child) ≡ false
spawns_at_free q f fs x m g args None = refl
spawns_at_free q f fs x m g args (Some c) = refl

raises_to_free : (q : Process) (x : Option Name) (gs : List Frame) (e : Exception) (es : List Event) → is_tie (raises_to q x gs e es) ≡ false
raises_to_free q x [] e es = refl
raises_to_free q x (g ∷ gs) e es = refl

leaves_free : (n : ℕ) (q : Process) (k : Function) (x : Option Name) (fs : List Frame) (t : Tree) → is_tie (leaves n q k x fs t) ≡ false
leaves_free n q k x [] t = refl
leaves_free n q k x (g ∷ gs) t = refl

module _ (ks : List Function) (n : ℕ) where
  enters_at_free : (q : Process) (fs : List Frame) (a : Manner) (args : List Tree) (i : ℕ) (k : Option Function) → is_tie (enters_at ks n q fs a args i k) ≡ false
  enters_at_free q fs a args i None = refl
  enters_at_free q fs a args i (Some k) = if_free (nat_le 64 (length fs)) _ _ refl refl

  enters_free : (q : Process) (fs : List Frame) (a : Manner) (args : List Tree) (i : Option ℕ) → is_tie (enters ks n q fs a args i) ≡ false
  enters_free q fs a args None = refl
  enters_free q fs a args (Some i) = enters_at_free q fs a args i (slice_get ks i)

  calls_free : (q : Process) (f : Frame) (fs : List Frame) (a : Manner) (m g : Name) (args : List Tree) → is_tie (calls ks n q f fs a m g args) ≡ false
  calls_free q f fs a m g args =
      within_free q.links (fitting_all args) _ (λ ts. enters_free (step_on q f fs) (next_step f ∷ fs) a ts (number_from 0 ks (record { module_name = m; function_name = g; arity = length ts })))

  raises_free : (q : Process) (fs : List Frame) (c : Class) (t : Tree) → is_tie (raises ks n q fs c t) ≡ false
  raises_free q fs c t = raises_to_free q (catch_target fs) (kept_by fs) (exception_of fs c t) _

  performs_free : (child : Option ℕ) (q : Process) (k : Function) (f : Frame) (fs : List Frame) (s : Option Step) → Fails is_link s → Fails is_unlink s → is_tie (performs ks n child q k f fs s) ≡ false
  performs_free child q k f fs None h u = leaves_free n q k f.target fs (word "ok")
  performs_free child q k f fs (Some (send to t)) h u =
      within_free q.links (fit (instance_of f.env to)) _ (λ to. within_free q.links (fit (instance_of f.env t)) _ (λ t. to_pid_free _ q.links (pid_in to) (λ m. refl)))
  performs_free child q k f fs (Some (receive x)) h u = receives_free q f fs x q.mailbox
  performs_free child q k f fs (Some (call_remote x m g ts)) h u = calls_free q f fs (remotely x) m g (map (instance_of f.env) ts)
  performs_free child q k f fs (Some (call_local x g ts)) h u = calls_free q f fs (locally x) k.module_name g (map (instance_of f.env) ts)
  performs_free child q k f fs (Some (catch x m g ts)) h u = calls_free q f fs (catch_manner x) m g (map (instance_of f.env) ts)
  performs_free child q k f fs (Some (spawn x m g ts)) h u = within_free q.links (fitting_all (map (instance_of f.env) ts)) _ (λ args. spawns_at_free q f fs x m g args child)
  performs_free child q k f fs (Some (link t)) h u = cc
  performs_free child q k f fs (Some (unlink t)) h u = cc
  performs_free child q k f fs (Some (give_back t)) h u = within_free q.links (fit (instance_of f.env t)) _ (λ t. leaves_free n q k f.target fs t)
  performs_free child q k f fs (Some (raise c t)) h u = within_free q.links (fit (instance_of f.env t)) _ (λ t. raises_free q (f ∷ fs) c t)

  runs_in_free : (child : Option ℕ) (q : Process) (f : Frame) (fs : List Frame) (k : Option Function) → Fails has_link k → Fails has_unlink k → is_tie (runs_in ks n child q f fs k) ≡ false
  runs_in_free child q f fs None h u = refl
  runs_in_free child q f fs (Some k) h u = performs_free child q k f fs (slice_get k.steps f.place) (none_at is_link k.steps f.place h) (none_at is_unlink k.steps f.place u)

  runs_free : (child : Option ℕ) (q : Process) (fs : List Frame) → have_link ks ≡ false → have_unlink ks ≡ false → is_tie (runs ks n child q fs) ≡ false
  runs_free child q [] h u = refl
  runs_free child q (f ∷ fs) h u = runs_in_free child (with_frames q fs) f fs (slice_get ks f.function) (none_at has_link ks f.function h) (none_at has_unlink ks f.function u)

  begins_free : (child : Option ℕ) (q : Process) (e : Option Entry) → have_link ks ≡ false → have_unlink ks ≡ false → is_tie (begins ks n child q e) ≡ false
  begins_free child q None h u = runs_free child q q.frames h u
  begins_free child q (Some e) h u = enters_free q q.frames (remotely None) e.args (number_from 0 ks (entry_mfa e))

  after_free : (child : Option ℕ) (q : Process) (s : Option Tree) → have_link ks ≡ false → have_unlink ks ≡ false → is_tie (act_after ks n child q s) ≡ false
  after_free child q None h u = begins_free child q q.entry h u
  after_free child q (Some r) h u = refl

-- ---- what is shown

sent_shown : (w : World) (n m : ℕ) (t : Tree) (i : Option ℕ) → shows_own_steps (delivered_to w n m t i) ≡ true → false ≡ true
sent_shown w n m t None h = h
sent_shown w n m t (Some i) h = h

second : (a b : Bool) → (a && b) ≡ true → b ≡ true
second true b h = h
second false b h = absurd (let e : false ≡ true = h in cc)

exit_shown : (before : List Event) (n : ℕ) (r : Tree) (more : List Event) → are_own_steps (before ++ exited n r ∷ more) ≡ true → false ≡ true
exit_shown [] n r more h = h
exit_shown (e ∷ es) n r more h = exit_shown es n r more (second (is_own_step e) (are_own_steps (es ++ exited n r ∷ more)) h)

act_shown : (w : World) (i n : ℕ) (a : Act) → is_tie a ≡ false → shows_own_steps (after_act w i n a) ≡ true → is_alone a ≡ true
act_shown w i n (waits q) h s = s
act_shown w i n (continues q es) h s = refl
act_shown w i n (sends q m t) h s = sent_shown (put_at w i q) n m t (place_of_pid (put_at w i q) m) s
act_shown w i n (links_to q m) h s = sym h
act_shown w i n (unlinks_from q m) h s = sym h
act_shown w i n (spawns q c e) h s = s
act_shown w i n (exits ls r before) h s = exit_shown before n r _ s

module _ (ks : List Function) (none : have_link ks ≡ false) (keep : have_unlink ks ≡ false) (w : World) (n : ℕ) where
  stepped_shown : (i : ℕ) (o : Option (Option Process)) → shows_own_steps (stepped_at ks w i n o) ≡ true → one_goes_alone ks w n (living_at o) ≡ true
  stepped_shown i None h = h
  stepped_shown i (Some None) h = h
  stepped_shown i (Some (Some q)) h = act_shown w i n (act ks n (next_pid w) q) (after_free ks n (next_pid w) q q.signal none keep) h

  next_shown : (b : Bool) (i : ℕ) (o : Option (Option Process)) → shows_own_steps (cond b (stepped_at ks w i n o) (idle w)) ≡ true → one_goes_alone ks w n (cond b (living_at o) None) ≡ true
  next_shown true i o h = stepped_shown i o h
  next_shown false i o h = h

pub own_steps_alone : OwnStepsGoAlone
own_steps_alone p picks n none keep h =
    let w : World = (run_state_of p picks).world in
    next_shown p.functions none keep w n (nat_le 100 n) (n - 100) (slice_get w.slots (n - 100)) h

-- ---- a move that shows nothing

-- the act goes on alone without an event
abbrev IsSilent : Act → Type 0
IsSilent a = (u : Process) × (a ≡ continues u [])

nothing_sent : (w : World) (n m : ℕ) (t : Tree) (i : Option ℕ) (a : Act) → shows_nothing (delivered_to w n m t i) ≡ true → IsSilent a
nothing_sent w n m t None a h = absurd (let e : false ≡ true = h in cc)
nothing_sent w n m t (Some i) a h = absurd (let e : false ≡ true = h in cc)

act_silent : (w : World) (i n : ℕ) (a : Act) → is_tie a ≡ false → shows_nothing (after_act w i n a) ≡ true → IsSilent a
act_silent w i n (waits q) h s = absurd (let e : false ≡ true = s in cc)
act_silent w i n (continues q []) h s = (q, refl)
act_silent w i n (continues q (e ∷ es)) h s = absurd (let e : false ≡ true = s in cc)
act_silent w i n (sends q m t) h s = nothing_sent (put_at w i q) n m t (place_of_pid (put_at w i q) m) (sends q m t) s
act_silent w i n (links_to q m) h s = absurd (let e : true ≡ false = h in cc)
act_silent w i n (unlinks_from q m) h s = absurd (let e : true ≡ false = h in cc)
act_silent w i n (spawns q c e) h s = absurd (let e : false ≡ true = s in cc)
act_silent w i n (exits ls r []) h s = absurd (let e : false ≡ true = s in cc)
act_silent w i n (exits ls r (e ∷ es)) h s = absurd (let e : false ≡ true = s in cc)

-- a process that is there, and goes on alone without an event
record GoesSilently (ks : List Function) (w : World) (n : ℕ) (b : Bool) (o : Option (Option Process)) : Type 0 where
  big : b ≡ true
  before : Process
  here : o ≡ Some (Some before)
  goes : IsSilent (act ks n (next_pid w) before)

module _ (ks : List Function) (none : have_link ks ≡ false) (keep : have_unlink ks ≡ false) (w : World) (n : ℕ) where
  goes_silently : (b : Bool) (i : ℕ) (o : Option (Option Process)) → shows_nothing (cond b (stepped_at ks w i n o) (idle w)) ≡ true → GoesSilently ks w n b o
  goes_silently false i o h = absurd (let e : false ≡ true = h in cc)
  goes_silently true i None h = absurd (let e : false ≡ true = h in cc)
  goes_silently true i (Some None) h = absurd (let e : false ≡ true = h in cc)
  goes_silently true i (Some (Some q)) h = record {
    big = refl;
    before = q;
    here = refl;
    goes = act_silent w i n (act ks n (next_pid w) q) (after_free ks n (next_pid w) q q.signal none keep) h;
  }

pub silent_independent : SilentMovesAreIndependent
silent_independent q ss p j zero none keep h = absurd (let e : false ≡ true = h in cc)
silent_independent q ss p j (suc n) none keep h =
    let w : World = (run_state_of p j).world in
    let r : GoesSilently p.functions w (suc n) (nat_le 100 (suc n)) (slice_get w.slots (suc n - 100)) =
    goes_silently p.functions none keep w (suc n) (nat_le 100 (suc n)) (suc n - 100) (slice_get w.slots (suc n - 100)) h in
    from_all q ss p (suc n) (ReadyAfter p none n r.big []) (silent_apart q ss p none n r.big) j (ready_by p.functions none w (suc n) r.before r.goes.0 [] r.here r.goes.1)

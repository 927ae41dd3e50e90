-- What a process does by itself does not depend on what comes into its mailbox after it.
use Rattle.std.proofs.Common.{◌≡◌, ◌⊎◌, inl, inr, ℕ, zero, suc, Bool, true, false, ◌||◌, cond, List, [], ◌∷◌, ◌++◌, length, map, slice_get, Option, Some, None, refl, append-nil, append_assoc}
use Rattle.std.specs.Prelude.{nat_le, filter_map}
use Rattle.std.specs.List.{list_any, cons_option}
use Rattle.std.specs.Option.{option_map}
use Rattle.def_term.specs.Tree.{Tree, pid_in}
use Rattle.def_term.specs.Names.{Name, Mfa, word}
use Rattle.def_script.specs.Program.{Class, Step, send, receive, call_remote, call_local, catch, spawn, link, unlink, give_back, raise, Function, Entry, entry_mfa, number_from}
use Rattle.def_node.specs.Event.{Event, Call, called, returned, raised}
use Rattle.def_node.specs.Values.{instance_of, fit, fitting_all}
use Rattle.def_node.specs.Process.{Process, Frame, Exception, Manner, Act, waits, continues, sends, links_to, unlinks_from, spawns, exits, with_frames, mfa_at, step_on, next_step, remotely, locally, catch_manner, exception_of, left_by, kept_by, catch_target, raised_in, raises_to, raises, enters, enters_at, leaves, to_pid, receives, within, calls, spawns_at, performs, runs_in, runs, begins, act_after, act}
use Rattle.def_explore.specs.Lists.{EachOf}
use Rattle.def_independence.specs.Alone.{is_link, has_link, have_link}

-- ---- what a list has none of

-- the test fails, where there is something
abbrev pub Fails : {X : Type 0} → (X → Bool) → Option X → Type 0
Fails f None = Unit {0}
Fails f (Some x) = f x ≡ false

neither : (a b : Bool) → (a || b) ≡ false → (a ≡ false) × (b ≡ false)
neither true b h = cc
neither false b h = (refl, h)

pub none_at : {X : Type 0} (f : X → Bool) (xs : List X) (i : ℕ) → list_any f xs ≡ false → Fails f (slice_get xs i)
none_at f [] i h = tt
none_at f (x ∷ xs) zero h = (neither (f x) (list_any f xs) h).0
none_at f (x ∷ xs) (suc i) h = none_at f xs i (neither (f x) (list_any f xs) h).1

-- ---- the events of a process's own step

-- the process n leaves a frame
abbrev pub IsLeave : ℕ → Event → Type 0
IsLeave n (returned p f t depth) = p ≡ n
IsLeave n (raised p f c t depth) = p ≡ n
IsLeave n e = ⊥

-- it is one call of the process n, or it leaves frames
abbrev pub AreOwn : ℕ → List Event → Type 0
AreOwn n es = ((c : Call) × (es ≡ called n c ∷ [])) ⊎ EachOf (IsLeave n) es

-- ---- acts of a process, and of the same one with more messages

-- more messages at the end of the mailbox
abbrev pub grow : List Tree → Process → Process
grow xs q = record q { mailbox = q.mailbox ++ xs }

pub grow_none : (q : Process) → grow [] q ≡ q
grow_none q = λ i. record q { mailbox = append-nil q.mailbox i }

pub grow_twice : (xs ys : List Tree) (q : Process) → grow ys (grow xs q) ≡ grow (xs ++ ys) q
grow_twice xs ys q = λ i. record q { mailbox = append_assoc q.mailbox xs ys i }

-- an act on the process alone is the same with more messages, and its events are its own; there is no link; before an exit the process leaves frames alone
abbrev pub Does : ℕ → List Tree → Act → Act → Type 0
Does n xs (waits q) b = Unit {0}
Does n xs (continues q es) b = (b ≡ continues (grow xs q) es) × AreOwn n es
Does n xs (sends q m t) b = Unit {0}
Does n xs (links_to q m) b = ⊥
Does n xs (unlinks_from q m) b = Unit {0}
Does n xs (spawns q c e) b = Unit {0}
Does n xs (exits partners r before) b = EachOf (IsLeave n) before

module _ (n : ℕ) (xs : List Tree) where
  if_does : (b : Bool) (a c u v : Act) → Does n xs a u → Does n xs c v → Does n xs (cond b a c) (cond b u v)
  if_does true a c u v h k = h
  if_does false a c u v h k = k

  enters_at_does : (ks : List Function) (q : Process) (fs : List Frame) (a : Manner) (args : List Tree) (i : ℕ) (k : Option Function)
      → Does n xs (enters_at ks n q fs a args i k) (enters_at ks n (grow xs q) fs a args i k)
  enters_at_does ks q fs a args i None = tt
  enters_at_does ks q fs a args i (Some k) = if_does (nat_le 64 (length fs)) _ _ _ _ tt (refl, inl (_, refl))

  enters_does : (ks : List Function) (q : Process) (fs : List Frame) (a : Manner) (args : List Tree) (i : Option ℕ)
      → Does n xs (enters ks n q fs a args i) (enters ks n (grow xs q) fs a args i)
  enters_does ks q fs a args None = tt
  enters_does ks q fs a args (Some i) = enters_at_does ks q fs a args i (slice_get ks i)

  leaves_does : (q : Process) (k : Function) (x : Option Name) (fs : List Frame) (t : Tree) → Does n xs (leaves n q k x fs t) (leaves n (grow xs q) k x fs t)
  leaves_does q k x [] t = (refl, tt)
  leaves_does q k x (g ∷ gs) t = (refl, inr (refl, tt))

  left_leave : (ks : List Function) (e : Exception) (ls : List (Frame × ℕ)) → EachOf (IsLeave n) (filter_map (raised_in ks n e) ls)
  left_leave ks e [] = tt
  left_leave ks e (l ∷ ls) = go (mfa_at ks l.0.function) (left_leave ks e ls)
    where
      go : (o : Option Mfa) → EachOf (IsLeave n) (filter_map (raised_in ks n e) ls) → EachOf (IsLeave n) (cons_option (option_map (λ m. raised n m e.class e.value l.1) o) (filter_map (raised_in ks n e) ls))
      go None rest = rest
      go (Some m) rest = (refl, rest)

  raises_to_does : (q : Process) (x : Option Name) (gs : List Frame) (e : Exception) (es : List Event) → EachOf (IsLeave n) es → Does n xs (raises_to q x gs e es) (raises_to (grow xs q) x gs e es)
  raises_to_does q x [] e es h = h
  raises_to_does q x (g ∷ gs) e es h = (refl, inr h)

  raises_does : (ks : List Function) (q : Process) (fs : List Frame) (c : Class) (t : Tree) → Does n xs (raises ks n q fs c t) (raises ks n (grow xs q) fs c t)
  raises_does ks q fs c t = raises_to_does q (catch_target fs) (kept_by fs) (exception_of fs c t) _ (left_leave ks (exception_of fs c t) (left_by fs))

  within_does : {X : Type 0} (ls : List Bool) (v : Option X) (f g : X → Act) → ((x : X) → Does n xs (f x) (g x)) → Does n xs (within ls v f) (within ls v g)
  within_does ls None f g h = tt
  within_does ls (Some x) f g h = h x

  to_pid_does : (f g : ℕ → Act) (ls : List Bool) (v : Option ℕ) → ((m : ℕ) → Does n xs (f m) (g m)) → Does n xs (to_pid f ls v) (to_pid g ls v)
  to_pid_does f g ls None h = tt
  to_pid_does f g ls (Some m) h = h m

  receives_does : (q : Process) (f : Frame) (fs : List Frame) (x : Option Name) (ts : List Tree) → Does n xs (receives q f fs x ts) (receives (grow xs q) f fs x (ts ++ xs))
  receives_does q f fs x [] = tt
  receives_does q f fs x (t ∷ ts) = (refl, inr tt)

  spawns_at_does : (q : Process) (f : Frame) (fs : List Frame) (x : Option Name) (m g : Name) (args : List Tree) (child other : Option ℕ)
      → Does n xs (spawns_at q f fs x m g args child) (spawns_at (grow xs q) f fs x m g args other)
  spawns_at_does q f fs x m g args None other = tt
  spawns_at_does q f fs x m g args (Some c) other = tt

  calls_does : (ks : List Function) (q : Process) (f : Frame) (fs : List Frame) (a : Manner) (m g : Name) (args : List Tree)
      → Does n xs (calls ks n q f fs a m g args) (calls ks n (grow xs q) f fs a m g args)
  calls_does ks q f fs a m g args =
      within_does q.links (fitting_all args) _ _ (λ ts. enters_does ks (step_on q f fs) (next_step f ∷ fs) a ts (number_from 0 ks (record { module_name = m; function_name = g; arity = length ts })))

  performs_does : (ks : List Function) (child other : Option ℕ) (q : Process) (k : Function) (f : Frame) (fs : List Frame) (s : Option Step)
      → Fails is_link s → Does n xs (performs ks n child q k f fs s) (performs ks n other (grow xs q) k f fs s)
  performs_does ks child other q k f fs None h = leaves_does q k f.target fs (word "ok")
  performs_does ks child other q k f fs (Some (send to t)) h =
      within_does q.links (fit (instance_of f.env to)) _ _ (λ to. within_does q.links (fit (instance_of f.env t)) _ _ (λ t. to_pid_does _ _ q.links (pid_in to) (λ m. tt)))
  performs_does ks child other q k f fs (Some (receive x)) h = receives_does q f fs x q.mailbox
  performs_does ks child other q k f fs (Some (call_remote x m g ts)) h = calls_does ks q f fs (remotely x) m g (map (instance_of f.env) ts)
  performs_does ks child other q k f fs (Some (call_local x g ts)) h = calls_does ks q f fs (locally x) k.module_name g (map (instance_of f.env) ts)
  performs_does ks child other q k f fs (Some (catch x m g ts)) h = calls_does ks q f fs (catch_manner x) m g (map (instance_of f.env) ts)
  performs_does ks child other q k f fs (Some (spawn x m g ts)) h = within_does q.links (fitting_all (map (instance_of f.env) ts)) _ _ (λ args. spawns_at_does q f fs x m g args child other)
  performs_does ks child other q k f fs (Some (link t)) h = cc
  performs_does ks child other q k f fs (Some (unlink t)) h = within_does q.links (fit (instance_of f.env t)) _ _ (λ t. to_pid_does _ _ q.links (pid_in t) (λ m. tt))
  performs_does ks child other q k f fs (Some (give_back t)) h = within_does q.links (fit (instance_of f.env t)) _ _ (λ t. leaves_does q k f.target fs t)
  performs_does ks child other q k f fs (Some (raise c t)) h = within_does q.links (fit (instance_of f.env t)) _ _ (λ t. raises_does ks q (f ∷ fs) c t)

  runs_in_does : (ks : List Function) (child other : Option ℕ) (q : Process) (f : Frame) (fs : List Frame) (k : Option Function)
      → Fails has_link k → Does n xs (runs_in ks n child q f fs k) (runs_in ks n other (grow xs q) f fs k)
  runs_in_does ks child other q f fs None h = tt
  runs_in_does ks child other q f fs (Some k) h = performs_does ks child other q k f fs (slice_get k.steps f.place) (none_at is_link k.steps f.place h)

  runs_does : (ks : List Function) (child other : Option ℕ) (q : Process) (fs : List Frame) → have_link ks ≡ false → Does n xs (runs ks n child q fs) (runs ks n other (grow xs q) fs)
  runs_does ks child other q [] h = tt
  runs_does ks child other q (f ∷ fs) h = runs_in_does ks child other (with_frames q fs) f fs (slice_get ks f.function) (none_at has_link ks f.function h)

  begins_does : (ks : List Function) (child other : Option ℕ) (q : Process) (e : Option Entry) → have_link ks ≡ false → Does n xs (begins ks n child q e) (begins ks n other (grow xs q) e)
  begins_does ks child other q None h = runs_does ks child other q q.frames h
  begins_does ks child other q (Some e) h = enters_does ks q q.frames (remotely None) e.args (number_from 0 ks (entry_mfa e))

  act_after_does : (ks : List Function) (child other : Option ℕ) (q : Process) (s : Option Tree) → have_link ks ≡ false → Does n xs (act_after ks n child q s) (act_after ks n other (grow xs q) s)
  act_after_does ks child other q None h = begins_does ks child other q q.entry h
  act_after_does ks child other q (Some r) h = tt

  pub act_does : (ks : List Function) (child other : Option ℕ) (q : Process) → have_link ks ≡ false → Does n xs (act ks n child q) (act ks n other (grow xs q))
  act_does ks child other q h = act_after_does ks child other q q.signal h

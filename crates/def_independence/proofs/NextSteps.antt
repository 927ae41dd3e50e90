-- What is known of the next step of a process says whether it changes that process alone.
use Rattle.std.proofs.Common.{◌≡◌, ℕ, suc, Bool, true, false, ◌&&◌, if◌then◌else◌, List, [], ◌∷◌, length, map, slice_get, Option, Some, None, refl, sym, ap, ◌∙◌, arith}
use Rattle.std.specs.Prelude.{nat_le, is_none, is_some}
use Rattle.std.proofs.lemmas.Bool.Decides.{nat_tests}
use Rattle.def_term.specs.Tree.{Tree, pid_in}
use Rattle.def_term.specs.Names.{Name, word}
use Rattle.def_script.specs.Program.{Class, Step, send, receive, call_remote, call_local, catch, spawn, link, unlink, give_back, raise, Function, Entry, entry_mfa, number_from}
use Rattle.def_node.specs.Event.{Event}
use Rattle.def_node.specs.Values.{instance_of, fits, fit, all_fit, fitting_all}
use Rattle.def_node.specs.Process.{Process, Frame, Exception, Manner, Act, continues, exits, with_frames, step_on, next_step, remotely, locally, catch_manner, exception_of, kept_by, catch_target, raises_to, raises, enters, enters_at, leaves, to_pid, receives, within, calls, spawns_at, performs, runs_in, runs, begins, act_after}
use Rattle.def_node.specs.Limits.{IsEntered}
use Rattle.def_outlook.specs.Outlook.{calls_past_limit, error_past, error_entering_at, error_entering, error_calling, error_of_step, error_ahead, upcoming_in, upcoming_of, upcoming_first, upcoming_after, catch_depth}
use Rattle.def_independence.specs.Alone.{is_alone, alone_by, alone_with}
use Rattle.def_independence.specs.Laws.{AloneIsOfTheStep}

-- ---- acts that are never alone

within_not : {X : Type 0} (ls : List Bool) (o : Option X) (f : X → Act) → ((x : X) → is_alone (f x) ≡ false) → is_alone (within ls o f) ≡ false
within_not ls None f h = refl
within_not ls (Some x) f h = h x

to_pid_not : (f : ℕ → Act) (ls : List Bool) (o : Option ℕ) → ((n : ℕ) → is_alone (f n) ≡ false) → is_alone (to_pid f ls o) ≡ false
to_pid_not f ls None h = refl
to_pid_not f ls (Some n) h = h n

spawns_at_not : (q : Process) (f : Frame) (fs : List Frame) (x : Option Name) (m g : Name) (args : List Tree) (child : Option ℕ) → is_alone (spawns_at q f fs x m g args child) ≡ false
spawns_at_not q f fs x m g args None = refl
spawns_at_not q f fs x m g args (Some c) = refl

and_not : (a b : Bool) → a ≡ false → a ≡ (b && false)
and_not a true h = h
and_not a false h = h

-- ---- calls

entered_if : (b : Bool) (q u : Process) (es : List Event) → is_alone (if b then exits q.links (word "system_limit") [] else continues u es) ≡ (is_none (if b then Some calls_past_limit else None) && true)
entered_if true q u es = refl
entered_if false q u es = refl

enters_at_alone : (ks : List Function) (n : ℕ) (q : Process) (fs : List Frame) (a : Manner) (args : List Tree) (i : ℕ) (k : Option Function)
    → is_alone (enters_at ks n q fs a args i k) ≡ (is_none (error_entering_at (length fs) k) && true)
enters_at_alone ks n q fs a args i None = refl
enters_at_alone ks n q fs a args i (Some k) = entered_if (nat_le 64 (length fs)) q _ _

enters_alone : (ks : List Function) (n : ℕ) (q : Process) (fs : List Frame) (a : Manner) (args : List Tree) (i : Option ℕ)
    → is_alone (enters ks n q fs a args i) ≡ (is_none (error_entering ks (length fs) i) && true)
enters_alone ks n q fs a args None = refl
enters_alone ks n q fs a args (Some i) = enters_at_alone ks n q fs a args i (slice_get ks i)

calls_alone : (ks : List Function) (n : ℕ) (q : Process) (f : Frame) (fs : List Frame) (a : Manner) (m g : Name) (args : List Tree)
    → is_alone (calls ks n q f fs a m g args) ≡ (is_none (error_calling ks (suc (length fs)) m g args) && true)
calls_alone ks n q f fs a m g args = go (all_fit args)
  where
    go : (b : Bool) → is_alone (within q.links (if b then Some args else None) (λ ts. enters ks n (step_on q f fs) (next_step f ∷ fs) a ts (number_from 0 ks (record { module_name = m; function_name = g; arity = length ts }))))
        ≡ (is_none (error_past b (error_entering ks (suc (length fs)) (number_from 0 ks (record { module_name = m; function_name = g; arity = length args })))) && true)
    go true = enters_alone ks n (step_on q f fs) (next_step f ∷ fs) a args (number_from 0 ks (record { module_name = m; function_name = g; arity = length args }))
    go false = refl

-- ---- returns and raises

two_at_least : (n : ℕ) → nat_le 2 (suc (suc n)) ≡ true
two_at_least n = grind (arith, nat_tests)

leaves_alone : (n : ℕ) (q : Process) (k : Function) (x : Option Name) (fs : List Frame) (t : Tree) → is_alone (leaves n q k x fs t) ≡ nat_le 2 (suc (length fs))
leaves_alone n q k x [] t = refl
leaves_alone n q k x (g ∷ gs) t = sym (two_at_least (length gs))

-- there is a frame below those that a raise leaves exactly where a catch step called one
has_frames : List Frame → Bool
has_frames [] = false
has_frames (f ∷ fs) = true

kept_where_caught : (fs : List Frame) → IsEntered fs → has_frames (kept_by fs) ≡ is_some (catch_depth fs)
unfolding has_frames
kept_where_caught [] h = refl
kept_where_caught (f ∷ []) h =
    ap (λ b. has_frames (if b then [] else [])) h ∙ sym (ap (λ b. is_some {T = ℕ} (if b then Some 1 else None)) h)
kept_where_caught (f ∷ g ∷ gs) h = go f.by_catch (kept_where_caught (g ∷ gs) h)
  where
    go : (b : Bool) → has_frames (kept_by (g ∷ gs)) ≡ is_some (catch_depth (g ∷ gs))
        → has_frames (if b then g ∷ gs else kept_by (g ∷ gs)) ≡ is_some (if b then Some (suc (length (g ∷ gs))) else catch_depth (g ∷ gs))
    go true rest = refl
    go false rest = rest

raises_to_alone : (q : Process) (x : Option Name) (gs : List Frame) (e : Exception) (es : List Event) → is_alone (raises_to q x gs e es) ≡ has_frames gs
unfolding has_frames
raises_to_alone q x [] e es = refl
raises_to_alone q x (g ∷ gs) e es = refl

raises_alone : (ks : List Function) (n : ℕ) (q : Process) (fs : List Frame) (c : Class) (t : Tree) → IsEntered fs → is_alone (raises ks n q fs c t) ≡ is_some (catch_depth fs)
raises_alone ks n q fs c t h = raises_to_alone q (catch_target fs) (kept_by fs) (exception_of fs c t) _ ∙ kept_where_caught fs h

-- where the built term is within the limits
built_alone : (ls : List Bool) (t : Tree) (f : Tree → Act) (b : Bool) → is_alone (f t) ≡ b → is_alone (within ls (fit t) f) ≡ (is_none (error_past (fits t) None) && b)
built_alone ls t f b h = go (fits t)
  where
    go : (c : Bool) → is_alone (within ls (if c then Some t else None) f) ≡ (is_none (error_past c None) && b)
    go true = h
    go false = refl

-- ---- the next step

module _ (ks : List Function) (n : ℕ) (child : Option ℕ) where
  performs_alone : (q : Process) (k : Function) (f : Frame) (fs : List Frame) (s : Option Step) → IsEntered (f ∷ fs)
      → is_alone (performs ks n child q k f fs s) ≡ (is_none (error_of_step ks child k f (suc (length fs)) s) && alone_by q.mailbox (is_some (catch_depth (f ∷ fs))) (suc (length fs)) s)
  performs_alone q k f fs None h = leaves_alone n q k f.target fs (word "ok")
  performs_alone q k f fs (Some (send to t)) h =
      and_not _ _ (within_not q.links (fit (instance_of f.env to)) _ (λ to. within_not q.links (fit (instance_of f.env t)) _ (λ t. to_pid_not _ q.links (pid_in to) (λ m. refl))))
  performs_alone q k f fs (Some (receive x)) h = go q.mailbox
    where
      go : (ts : List Tree) → is_alone (receives q f fs x ts) ≡ (is_none (error_of_step ks child k f (suc (length fs)) (Some (receive x))) && alone_by ts (is_some (catch_depth (f ∷ fs))) (suc (length fs)) (Some (receive x)))
      go [] = refl
      go (t ∷ ts) = refl
  performs_alone q k f fs (Some (call_remote x m g ts)) h = calls_alone ks n q f fs (remotely x) m g (map (instance_of f.env) ts)
  performs_alone q k f fs (Some (call_local x g ts)) h = calls_alone ks n q f fs (locally x) k.module_name g (map (instance_of f.env) ts)
  performs_alone q k f fs (Some (catch x m g ts)) h = calls_alone ks n q f fs (catch_manner x) m g (map (instance_of f.env) ts)
  performs_alone q k f fs (Some (spawn x m g ts)) h =
      and_not _ _ (within_not q.links (fitting_all (map (instance_of f.env) ts)) _ (λ args. spawns_at_not q f fs x m g args child))
  performs_alone q k f fs (Some (link t)) h = and_not _ _ (within_not q.links (fit (instance_of f.env t)) _ (λ t. to_pid_not _ q.links (pid_in t) (λ m. refl)))
  performs_alone q k f fs (Some (unlink t)) h = and_not _ _ (within_not q.links (fit (instance_of f.env t)) _ (λ t. to_pid_not _ q.links (pid_in t) (λ m. refl)))
  performs_alone q k f fs (Some (give_back t)) h =
      built_alone q.links (instance_of f.env t) (leaves n q k f.target fs) (nat_le 2 (suc (length fs))) (leaves_alone n q k f.target fs (instance_of f.env t))
  performs_alone q k f fs (Some (raise c t)) h =
      built_alone q.links (instance_of f.env t) (raises ks n q (f ∷ fs) c) (is_some (catch_depth (f ∷ fs))) (raises_alone ks n q (f ∷ fs) c (instance_of f.env t) h)

  runs_in_alone : (count : ℕ) (q : Process) (f : Frame) (fs : List Frame) (k : Option Function) → IsEntered (f ∷ fs)
      → is_alone (runs_in ks n child q f fs k)
      ≡ (is_none (error_ahead ks child count (upcoming_in f (suc (length fs)) k)) && alone_with q.mailbox (is_some (catch_depth (f ∷ fs))) (upcoming_in f (suc (length fs)) k))
  runs_in_alone count q f fs None h = refl
  runs_in_alone count q f fs (Some k) h = performs_alone q k f fs (slice_get k.steps f.place) h

  runs_alone : (count : ℕ) (q : Process) (fs : List Frame) → IsEntered fs
      → is_alone (runs ks n child q fs) ≡ (is_none (error_ahead ks child count (upcoming_of ks fs)) && alone_with q.mailbox (is_some (catch_depth fs)) (upcoming_of ks fs))
  runs_alone count q [] h = refl
  runs_alone count q (f ∷ fs) h = runs_in_alone count (with_frames q fs) f fs (slice_get ks f.function) h

  begins_alone : (q : Process) (e : Option Entry) → IsEntered q.frames
      → is_alone (begins ks n child q e)
      ≡ (is_none (error_ahead ks child (length q.frames) (upcoming_first ks q.frames e)) && alone_with q.mailbox (is_some (catch_depth q.frames)) (upcoming_first ks q.frames e))
  begins_alone q None h = runs_alone (length q.frames) q q.frames h
  begins_alone q (Some e) h = enters_alone ks n q q.frames (remotely None) e.args (number_from 0 ks (entry_mfa e))

  after_alone : (q : Process) (r : Option Tree) → IsEntered q.frames
      → is_alone (act_after ks n child q r)
      ≡ (is_none (error_ahead ks child (length q.frames) (upcoming_after ks q.frames q.entry r)) && alone_with q.mailbox (is_some (catch_depth q.frames)) (upcoming_after ks q.frames q.entry r))
  after_alone q None h = begins_alone q q.entry h
  after_alone q (Some r) h = refl

pub alone_of_step : AloneIsOfTheStep
alone_of_step ks n child q h = after_alone ks n child q q.signal h

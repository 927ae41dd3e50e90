-- A process is said to link to itself or to unlink from itself exactly where it does so; the move has no event.
use Rattle.std.proofs.Common.{◌≡◌, ◌∙◌, ℕ, suc, ◌-◌, ◌==◌, Bool, true, false, cond, List, [], ◌∷◌, map, length, slice_get, Option, Some, None, refl, ap, sym, subst, if◌then◌else◌, eqb-true, eq-eqb}
use Rattle.std.specs.Prelude.{nat_le}
use Rattle.def_term.specs.Alive.{FIRST_PID}
use Rattle.def_term.specs.Tree.{Tree, int, atom, pid, tuple, list, pid_in}
use Rattle.def_term.specs.Names.{Name, word}
use Rattle.def_script.specs.Program.{Step, send, receive, call_remote, call_local, catch, spawn, link, unlink, give_back, raise, Function, Entry, entry_mfa, number_from}
use Rattle.def_node.specs.Event.{Event, linked, unlinked}
use Rattle.def_node.specs.Values.{instance_of, fits, fit, fitting_all}
use Rattle.def_node.specs.Process.{FRAMES, Process, Frame, Exception, Manner, Act, waits, continues, sends, links_to, unlinks_from, spawns, exits, with_frames, step_on, next_step, remotely, locally, catch_manner, exception_of, kept_by, catch_target, raises_to, enters, enters_at, leaves_to, to_pid, receives, within, calls, spawns_at, performs, runs_in, runs, begins, act_after, act}
use Rattle.def_node.specs.Node.{World, moved, idle, put_at, linked_at, linked_to, unlinked_from, place_of_pid, next_pid, after_act, stepped_at, next_of}
use Rattle.def_outlook.specs.Outlook.{OwnLink, links_itself, unlinks_itself, own_link_to, own_link_by, own_link_of, own_link, upcoming_in, upcoming_of, upcoming_first, upcoming_after, living_at, process_with}
use Rattle.def_outlook.specs.Laws.{own_act, GoesOneStepOn, OwnLinkIsOfTheAct, OwnActIsAnOwnLink, OwnLinkHasNoEvent}

-- of an act of the process q with the pid n: which link with itself it is
abbrev IsOwn : Process → ℕ → Option OwnLink → Act → Type 0
IsOwn q n o (links_to r m) = GoesOneStepOn q r × (o ≡ own_link_to n links_itself (Some m))
IsOwn q n o (unlinks_from r m) = GoesOneStepOn q r × (o ≡ own_link_to n unlinks_itself (Some m))
IsOwn q n o a = o ≡ None

-- ---- acts that are none

module _ (q : Process) (n : ℕ) where
  -- the act is no link and no unlink
  abbrev IsNone : Act → Type 0
  IsNone a = IsOwn q n None a

  within_none : {X : Type 0} (ls : List Bool) (o : Option X) (f : X → Act) → ((x : X) → IsNone (f x)) → IsNone (within ls o f)
  within_none ls None f h = refl
  within_none ls (Some x) f h = h x

  sends_none : (r : Process) (t : Tree) (ls : List Bool) (o : Option ℕ) → IsNone (to_pid (λ m. sends r m t) ls o)
  sends_none r t ls None = refl
  sends_none r t ls (Some m) = refl

  enters_at_none : (ks : List Function) (r : Process) (fs : List Frame) (a : Manner) (args : List Tree) (i : ℕ) (o : Option Function) → IsNone (enters_at ks n r fs a args i o)
  enters_at_none ks r fs a args i None = refl
  enters_at_none ks r fs a args i (Some k) = go (nat_le FRAMES (length fs)) _ _
    where
      go : (b : Bool) (p : Process) (es : List Event) → IsNone (cond b (exits r.links (word "system_limit") []) (continues p es))
      go true p es = refl
      go false p es = refl

  enters_none : (ks : List Function) (r : Process) (fs : List Frame) (a : Manner) (args : List Tree) (o : Option ℕ) → IsNone (enters ks n r fs a args o)
  enters_none ks r fs a args None = refl
  enters_none ks r fs a args (Some i) = enters_at_none ks r fs a args i (slice_get ks i)

  calls_none : (ks : List Function) (r : Process) (f : Frame) (fs : List Frame) (a : Manner) (m g : Name) (args : List Tree) → IsNone (calls ks n r f fs a m g args)
  calls_none ks r f fs a m g args =
      within_none r.links (fitting_all args) _
      (λ ts. enters_none ks (step_on r f fs) (next_step f ∷ fs) a ts (number_from 0 ks (record { module_name = m; function_name = g; arity = length ts })))

  leaves_none : (r : Process) (x : Option Name) (fs : List Frame) (t : Tree) (e : Event) → IsNone (leaves_to r x fs t e)
  leaves_none r x [] t e = refl
  leaves_none r x (g ∷ gs) t e = refl

  raises_none : (r : Process) (x : Option Name) (gs : List Frame) (e : Exception) (es : List Event) → IsNone (raises_to r x gs e es)
  raises_none r x [] e es = refl
  raises_none r x (g ∷ gs) e es = refl

  receives_none : (r : Process) (f : Frame) (fs : List Frame) (x : Option Name) (ts : List Tree) → IsNone (receives r f fs x ts)
  receives_none r f fs x [] = refl
  receives_none r f fs x (t ∷ ts) = refl

  spawns_none : (r : Process) (f : Frame) (fs : List Frame) (x : Option Name) (m g : Name) (args : List Tree) (child : Option ℕ) → IsNone (spawns_at r f fs x m g args child)
  spawns_none r f fs x m g args None = refl
  spawns_none r f fs x m g args (Some c) = refl

  -- ---- a link, or an unlink

  -- of a target that is no pid
  no_pid : (ls : List Bool) (f : ℕ → Act) (t : Tree) → pid_in t ≡ None → IsNone (within ls (fit t) (λ u. to_pid f ls (pid_in u)))
  no_pid ls f t none = go (fits t)
    where
      to : (o : Option ℕ) → o ≡ None → IsNone (to_pid f ls o)
      to None e = refl
      to (Some m) e = absurd (let h : Some m ≡ None = e in cc)

      go : (b : Bool) → IsNone (within ls (cond b (Some t) None) (λ u. to_pid f ls (pid_in u)))
      go true = to (pid_in t) none
      go false = refl

  -- by its target, which is within the limits where it is a pid
  link_is_own : (x : OwnLink) (ls : List Bool) (f : ℕ → Act) → ((m : ℕ) → IsOwn q n (own_link_to n x (Some m)) (f m)) → (t : Tree) → IsOwn q n (own_link_to n x (pid_in t)) (within ls (fit t) (λ u. to_pid f ls (pid_in u)))
  link_is_own x ls f h (pid m) = h m
  link_is_own x ls f h (int z) = no_pid ls f (int z) refl
  link_is_own x ls f h (atom a) = no_pid ls f (atom a) refl
  link_is_own x ls f h (tuple ts) = no_pid ls f (tuple ts) refl
  link_is_own x ls f h (list ts) = no_pid ls f (list ts) refl

-- ---- the act of a process

performs_own : (ks : List Function) (n : ℕ) (child : Option ℕ) (q : Process) (k : Function) (f : Frame) (fs : List Frame) (s : Option Step) → q.frames ≡ f ∷ fs
    → IsOwn q n (own_link_by n f.env s) (performs ks n child (with_frames q fs) k f fs s)
performs_own ks n child q k f fs None is = leaves_none q n (with_frames q fs) f.target fs (word "ok") _
performs_own ks n child q k f fs (Some (send to t)) is =
    within_none q n q.links (fit (instance_of f.env to)) _ (λ u. within_none q n q.links (fit (instance_of f.env t)) _ (λ v. sends_none q n (step_on (with_frames q fs) f fs) v q.links (pid_in u)))
performs_own ks n child q k f fs (Some (receive x)) is = receives_none q n (with_frames q fs) f fs x q.mailbox
performs_own ks n child q k f fs (Some (call_remote x m g ts)) is = calls_none q n ks (with_frames q fs) f fs (remotely x) m g (map (instance_of f.env) ts)
performs_own ks n child q k f fs (Some (call_local x g ts)) is = calls_none q n ks (with_frames q fs) f fs (locally x) k.module_name g (map (instance_of f.env) ts)
performs_own ks n child q k f fs (Some (catch x m g ts)) is = calls_none q n ks (with_frames q fs) f fs (catch_manner x) m g (map (instance_of f.env) ts)
performs_own ks n child q k f fs (Some (spawn x m g ts)) is =
    within_none q n q.links (fitting_all (map (instance_of f.env) ts)) _ (λ args. spawns_none q n (with_frames q fs) f fs x m g args child)
performs_own ks n child q k f fs (Some (link t)) is =
    link_is_own q n links_itself q.links (λ m. links_to (step_on (with_frames q fs) f fs) m) (λ m. ((f, fs, is, refl), refl)) (instance_of f.env t)
performs_own ks n child q k f fs (Some (unlink t)) is =
    link_is_own q n unlinks_itself q.links (λ m. unlinks_from (step_on (with_frames q fs) f fs) m) (λ m. ((f, fs, is, refl), refl)) (instance_of f.env t)
performs_own ks n child q k f fs (Some (give_back t)) is =
    within_none q n q.links (fit (instance_of f.env t)) _ (λ u. leaves_none q n (with_frames q fs) f.target fs u _)
performs_own ks n child q k f fs (Some (raise c t)) is =
    within_none q n q.links (fit (instance_of f.env t)) _ (λ u. raises_none q n (with_frames q fs) (catch_target (f ∷ fs)) (kept_by (f ∷ fs)) (exception_of (f ∷ fs) c u) _)

runs_in_own : (ks : List Function) (n : ℕ) (child : Option ℕ) (q : Process) (f : Frame) (fs : List Frame) (o : Option Function) → q.frames ≡ f ∷ fs
    → IsOwn q n (own_link_of n (upcoming_in f (suc (length fs)) o)) (runs_in ks n child (with_frames q fs) f fs o)
runs_in_own ks n child q f fs None is = refl
runs_in_own ks n child q f fs (Some k) is = performs_own ks n child q k f fs (slice_get k.steps f.place) is

runs_own : (ks : List Function) (n : ℕ) (child : Option ℕ) (q : Process) (fs : List Frame) → q.frames ≡ fs → IsOwn q n (own_link_of n (upcoming_of ks fs)) (runs ks n child q fs)
runs_own ks n child q [] is = refl
runs_own ks n child q (f ∷ fs) is = runs_in_own ks n child q f fs (slice_get ks f.function) is

begins_own : (ks : List Function) (n : ℕ) (child : Option ℕ) (q : Process) (o : Option Entry) → IsOwn q n (own_link_of n (upcoming_first ks q.frames o)) (begins ks n child q o)
begins_own ks n child q None = runs_own ks n child q q.frames refl
begins_own ks n child q (Some e) = enters_none q n ks q q.frames (remotely None) e.args (number_from 0 ks (entry_mfa e))

after_own : (ks : List Function) (n : ℕ) (child : Option ℕ) (q : Process) (o : Option Tree) → IsOwn q n (own_link_of n (upcoming_after ks q.frames q.entry o)) (act_after ks n child q o)
after_own ks n child q None = begins_own ks n child q q.entry
after_own ks n child q (Some r) = refl

acts_own : (ks : List Function) (n : ℕ) (child : Option ℕ) (q : Process) → IsOwn q n (own_link ks n q) (act ks n child q)
acts_own ks n child q = after_own ks n child q q.signal

-- ---- the laws

-- a link or an unlink that is said to be with itself is that one, and its target is the process
own_target : (n m : ℕ) (x y : OwnLink) → own_link_to n y (Some m) ≡ Some x → (n ≡ m) × (y ≡ x)
own_target n m x y e = go (n == m) refl e
  where
    go : (b : Bool) → (n == m) ≡ b → cond b (Some y) None ≡ Some x → (n ≡ m) × (y ≡ x)
    go true same h = (eqb-true n m same, let f : Some y ≡ Some x = h in cc)
    go false same h = absurd (let f : None ≡ Some x = h in cc)

said_so : (q : Process) (n : ℕ) (o : Option OwnLink) (x : OwnLink) (a : Act) → IsOwn q n o a → o ≡ Some x → (r : Process) × GoesOneStepOn q r × (a ≡ own_act r n x)
said_so q n o x (links_to r m) h e =
    let is : (n ≡ m) × (links_itself ≡ x) = own_target n m x links_itself (sym h.1 ∙ e) in
    (r, h.0, ap (links_to r) (sym is.0) ∙ ap (own_act r n) is.1)
said_so q n o x (unlinks_from r m) h e =
    let is : (n ≡ m) × (unlinks_itself ≡ x) = own_target n m x unlinks_itself (sym h.1 ∙ e) in
    (r, h.0, ap (unlinks_from r) (sym is.0) ∙ ap (own_act r n) is.1)
said_so q n o x (waits r) h e = absurd (let f : None ≡ Some x = sym h ∙ e in cc)
said_so q n o x (continues r es) h e = absurd (let f : None ≡ Some x = sym h ∙ e in cc)
said_so q n o x (sends r m t) h e = absurd (let f : None ≡ Some x = sym h ∙ e in cc)
said_so q n o x (spawns r c i) h e = absurd (let f : None ≡ Some x = sym h ∙ e in cc)
said_so q n o x (exits ls r es) h e = absurd (let f : None ≡ Some x = sym h ∙ e in cc)

pub own_link_is_of_the_act : OwnLinkIsOfTheAct
own_link_is_of_the_act ks n child q x e = said_so q n (own_link ks n q) x (act ks n child q) (acts_own ks n child q) e

-- of the process itself
itself : (n : ℕ) (x : OwnLink) → own_link_to n x (Some n) ≡ Some x
itself n x = ap (λ b. cond b (Some x) None) (eq-eqb n n refl)

done_so : (q r : Process) (n : ℕ) (o : Option OwnLink) (x : OwnLink) → IsOwn q n o (own_act r n x) → o ≡ Some x
done_so q r n o links_itself h = h.1 ∙ itself n links_itself
done_so q r n o unlinks_itself h = h.1 ∙ itself n unlinks_itself

pub own_act_is_an_own_link : OwnActIsAnOwnLink
own_act_is_an_own_link ks n child q r x e = done_so q r n (own_link ks n q) x (subst (IsOwn q n (own_link ks n q)) e (acts_own ks n child q))

-- what the node makes of such an act
no_event : (w : World) (i n : ℕ) (r : Process) (x : OwnLink) → after_act w i n (own_act r n x) ≡ moved (put_at w i r) []
no_event w i n r links_itself =
    let v : World = put_at w i r in
    ap (λ b. if b then moved v [] else (if linked_at v i n then moved v (linked n n ∷ []) else linked_to v i n n (place_of_pid v n))) (eq-eqb n n refl)
no_event w i n r unlinks_itself =
    let v : World = put_at w i r in
    ap (λ b. if b then moved v [] else (if linked_at v i n then unlinked_from v i n n (place_of_pid v n) else moved v (unlinked n n ∷ []))) (eq-eqb n n refl)

living_slot : (o : Option (Option Process)) (q : Process) → living_at o ≡ Some q → o ≡ Some (Some q)
living_slot None q e = absurd (let f : None ≡ Some q = e in cc)
living_slot (Some None) q e = absurd (let f : None ≡ Some q = e in cc)
living_slot (Some (Some r)) q e = ap (λ (o : Option Process). Some o) e

-- the move of a process that lives is by its act
move_of_living : (ks : List Function) (w : World) (n : ℕ) (q : Process) → process_with w n ≡ Some q → next_of ks w n ≡ after_act w (n - FIRST_PID) n (act ks n (next_pid w) q)
move_of_living ks w n q e = go (nat_le FIRST_PID n) e
  where
    at : Option (Option Process)
    at = slice_get w.slots (n - FIRST_PID)

    go : (b : Bool) → cond b (living_at at) None ≡ Some q → cond b (stepped_at ks w (n - FIRST_PID) n at) (idle w) ≡ after_act w (n - FIRST_PID) n (act ks n (next_pid w) q)
    go true h = ap (stepped_at ks w (n - FIRST_PID) n) (living_slot at q h)
    go false h = absurd (let f : None ≡ Some q = h in cc)

pub own_link_has_no_event : OwnLinkHasNoEvent
own_link_has_no_event ks w n q x there e =
    let does : (r : Process) × GoesOneStepOn q r × (act ks n (next_pid w) q ≡ own_act r n x) = own_link_is_of_the_act ks n (next_pid w) q x e in
    (does.0, does.1, move_of_living ks w n q there ∙ ap (after_act w (n - FIRST_PID) n) does.2 ∙ no_event w (n - FIRST_PID) n does.0 x)

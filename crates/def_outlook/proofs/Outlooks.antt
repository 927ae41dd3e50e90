-- What is known of the next step of a process before it is made is what the step does.
use Rattle.std.proofs.Common.{◌≡◌, ℕ, suc, ◌+◌, Bool, true, false, cond, List, [], ◌∷◌, ◌++◌, length, map, slice_get, Option, Some, None, refl, ap, sym, ◌∙◌, subst}
use Rattle.std.specs.Prelude.{nat_le, filter_map}
use Rattle.std.specs.List.{cons_option}
use Rattle.std.specs.Option.{option_map}
use Rattle.std.proofs.lemmas.List.Elements.{All-head, All-tail}
use Rattle.def_term.specs.Tree.{Tree, pid_in}
use Rattle.def_term.specs.Names.{Name, word}
use Rattle.def_script.specs.Program.{Step, send, receive, call_remote, call_local, catch, spawn, link, unlink, give_back, raise, Function, mfa_of, Entry, entry_mfa, number_from}
use Rattle.def_node.specs.Event.{Event, raised}
use Rattle.def_node.specs.Values.{instance_of, fits, fit, all_fit, fitting_all}
use Rattle.def_node.specs.Process.{FRAMES, Process, Frame, Exception, Manner, Act, waits, continues, sends, links_to, unlinks_from, spawns, exits, with_frames, step_on, next_step, remotely, locally, catch_manner, exception_of, raised_in, left_by, kept_by, catch_target, raises_to, enters, enters_at, leaves_to, to_pid, receives, within, calls, spawns_at, performs, runs_in, runs, begins, act_after, act}
use Rattle.def_outlook.specs.Outlook.{RuntimeError, builds_past_limit, calls_past_limit, sends_to_no_pid, links_to_no_pid, unlinks_from_no_pid, error_reason, error_past, error_without_pid, error_entering, error_entering_at, error_without_child, error_of_step, error_ahead, Upcoming, upcoming_in, upcoming_of, upcoming_first, upcoming_after, upcoming, runtime_error, has_no_message, waits_by, waits_with, is_waiting, addressee_by, addressee_of, addressee, catch_depth}
use Rattle.def_outlook.specs.Laws.{ErrorEndsTheProcess, SuddenEndIsAnError, is_wait, WaitingIsOfTheAct, SendGoesToTheAddressee, CatchHasItsDepth, NoCatchNoDepth}

-- some event
abbrev IsSomeEvent : List Event → Type 0
IsSomeEvent es = (e : Event) × (rest : List Event) × (es ≡ e ∷ rest)

-- of an act that is no error: whether it waits, and to which pid it sends
abbrev Foresees : Bool → Option ℕ → Act → Type 0
Foresees w to (waits q) = w ≡ true
Foresees w to (continues q es) = w ≡ false
Foresees w to (sends q m t) = (w ≡ false) × (to ≡ Some m)
Foresees w to (links_to q m) = w ≡ false
Foresees w to (unlinks_from q m) = w ≡ false
Foresees w to (spawns q c e) = w ≡ false
Foresees w to (exits partners r es) = (w ≡ false) × IsSomeEvent es

-- an error ends the process, and has no event
abbrev Agrees : List Bool → Option RuntimeError → Bool → Option ℕ → Act → Type 0
Agrees ls (Some x) w to a = (w ≡ false) × (a ≡ exits ls (error_reason x) [])
Agrees ls None w to a = Foresees w to a

module _ (ls : List Bool) (w : Bool) (to : Option ℕ) where
  over_limit : w ≡ false → Agrees ls (Some builds_past_limit) w to (exits ls (word "system_limit") [])
  over_limit quiet = (quiet, refl)

  within_agrees : (t : Tree) (x : Option RuntimeError) (f : Tree → Act) → w ≡ false → Agrees ls x w to (f t) → Agrees ls (error_past (fits t) x) w to (within ls (fit t) f)
  within_agrees t x f quiet rest = go (fits t)
    where
      go : (b : Bool) → Agrees ls (cond b x (Some builds_past_limit)) w to (within ls (cond b (Some t) None) f)
      go true = rest
      go false = over_limit quiet

  all_within_agrees : (ts : List Tree) (x : Option RuntimeError) (f : List Tree → Act) → w ≡ false → Agrees ls x w to (f ts) → Agrees ls (error_past (all_fit ts) x) w to (within ls (fitting_all ts) f)
  all_within_agrees ts x f quiet rest = go (all_fit ts)
    where
      go : (b : Bool) → Agrees ls (cond b x (Some builds_past_limit)) w to (within ls (cond b (Some ts) None) f)
      go true = rest
      go false = over_limit quiet

  pid_agrees : (x : RuntimeError) (f : ℕ → Act) (o : Option ℕ) → w ≡ false → error_reason x ≡ word "badarg" → ((m : ℕ) → o ≡ Some m → Foresees w to (f m)) → Agrees ls (error_without_pid x o) w to (to_pid f ls o)
  pid_agrees x f None quiet is rest = (quiet, ap (λ r. exits ls r []) (sym is))
  pid_agrees x f (Some m) quiet is rest = rest m refl

enters_at_agrees : (to : Option ℕ) (ks : List Function) (n : ℕ) (q : Process) (fs : List Frame) (a : Manner) (args : List Tree) (i : ℕ) (o : Option Function)
    → Agrees q.links (error_entering_at (length fs) o) false to (enters_at ks n q fs a args i o)
enters_at_agrees to ks n q fs a args i None = (refl, refl)
enters_at_agrees to ks n q fs a args i (Some k) = go (nat_le FRAMES (length fs)) _ _
  where
    go : (b : Bool) (r : Process) (es : List Event) → Agrees q.links (cond b (Some calls_past_limit) None) false to (cond b (exits q.links (word "system_limit") []) (continues r es))
    go true r es = (refl, refl)
    go false r es = refl

enters_agrees : (to : Option ℕ) (ks : List Function) (n : ℕ) (q : Process) (fs : List Frame) (a : Manner) (args : List Tree) (o : Option ℕ) → Agrees q.links (error_entering ks (length fs) o) false to (enters ks n q fs a args o)
enters_agrees to ks n q fs a args None = (refl, refl)
enters_agrees to ks n q fs a args (Some i) = enters_at_agrees to ks n q fs a args i (slice_get ks i)

leaves_foreseen : (to : Option ℕ) (q : Process) (x : Option Name) (fs : List Frame) (t : Tree) (e : Event) → Foresees false to (leaves_to q x fs t e)
leaves_foreseen to q x [] t e = (refl, (e, [], refl))
leaves_foreseen to q x (g ∷ gs) t e = refl

-- the newest frame, whose function is there, is left with an event
newest_raises : (ks : List Function) (n : ℕ) (e : Exception) (f : Frame) (fs : List Frame) (k : Function) → slice_get ks f.function ≡ Some k → IsSomeEvent (filter_map (raised_in ks n e) (left_by (f ∷ fs)))
newest_raises ks n e f fs k is =
    let rest : List Event = filter_map (raised_in ks n e) (cond f.by_catch [] (left_by fs)) in
    (raised n (mfa_of k) e.class e.value (length fs + 1), rest, ap (λ (o : Option Function). cons_option (option_map (λ m. raised n m e.class e.value (length fs + 1)) (option_map mfa_of o)) rest) is)

raises_foreseen : (to : Option ℕ) (q : Process) (x : Option Name) (gs : List Frame) (e : Exception) (es : List Event) → IsSomeEvent es → Foresees false to (raises_to q x gs e es)
raises_foreseen to q x [] e es some = (refl, some)
raises_foreseen to q x (g ∷ gs) e es some = refl

receives_foreseen : (to : Option ℕ) (q : Process) (f : Frame) (fs : List Frame) (x : Option Name) (ts : List Tree) → Foresees (has_no_message ts) to (receives q f fs x ts)
receives_foreseen to q f fs x [] = refl
receives_foreseen to q f fs x (t ∷ ts) = refl

spawns_agrees : (to : Option ℕ) (q : Process) (f : Frame) (fs : List Frame) (x : Option Name) (m g : Name) (args : List Tree) (child : Option ℕ) → Agrees q.links (error_without_child child) false to (spawns_at q f fs x m g args child)
spawns_agrees to q f fs x m g args None = (refl, refl)
spawns_agrees to q f fs x m g args (Some c) = refl

calls_agree : (to : Option ℕ) (ks : List Function) (n : ℕ) (q : Process) (f : Frame) (fs : List Frame) (a : Manner) (m g : Name) (args : List Tree)
    → Agrees q.links (error_past (all_fit args) (error_entering ks (suc (length fs)) (number_from 0 ks (record { module_name = m; function_name = g; arity = length args })))) false to (calls ks n q f fs a m g args)
calls_agree to ks n q f fs a m g args =
    all_within_agrees q.links false to args (error_entering ks (suc (length fs)) (number_from 0 ks (record { module_name = m; function_name = g; arity = length args }))) _ refl
    (enters_agrees to ks n (step_on q f fs) (next_step f ∷ fs) a args (number_from 0 ks (record { module_name = m; function_name = g; arity = length args })))

performs_agree : (ks : List Function) (n : ℕ) (child : Option ℕ) (q : Process) (k : Function) (f : Frame) (fs : List Frame) (s : Option Step) → slice_get ks f.function ≡ Some k
    → Agrees q.links (error_of_step ks child k f (suc (length fs)) s) (waits_by q.mailbox s) (addressee_by f.env s) (performs ks n child q k f fs s)
performs_agree ks n child q k f fs None is = leaves_foreseen None q f.target fs (word "ok") _
performs_agree ks n child q k f fs (Some (send to t)) is =
    let whom : Option ℕ = pid_in (instance_of f.env to) in
    within_agrees q.links false whom (instance_of f.env to) _ _ refl
    (within_agrees q.links false whom (instance_of f.env t) _ _ refl (pid_agrees q.links false whom sends_to_no_pid _ whom refl refl (λ m is. (refl, is))))
performs_agree ks n child q k f fs (Some (receive x)) is = receives_foreseen None q f fs x q.mailbox
performs_agree ks n child q k f fs (Some (call_remote x m g ts)) is = calls_agree None ks n q f fs (remotely x) m g (map (instance_of f.env) ts)
performs_agree ks n child q k f fs (Some (call_local x g ts)) is = calls_agree None ks n q f fs (locally x) k.module_name g (map (instance_of f.env) ts)
performs_agree ks n child q k f fs (Some (catch x m g ts)) is = calls_agree None ks n q f fs (catch_manner x) m g (map (instance_of f.env) ts)
performs_agree ks n child q k f fs (Some (spawn x m g ts)) is =
    all_within_agrees q.links false None (map (instance_of f.env) ts) _ _ refl (spawns_agrees None q f fs x m g (map (instance_of f.env) ts) child)
performs_agree ks n child q k f fs (Some (link t)) is =
    within_agrees q.links false None (instance_of f.env t) _ _ refl (pid_agrees q.links false None links_to_no_pid _ (pid_in (instance_of f.env t)) refl refl (λ m is. refl))
performs_agree ks n child q k f fs (Some (unlink t)) is =
    within_agrees q.links false None (instance_of f.env t) _ _ refl (pid_agrees q.links false None unlinks_from_no_pid _ (pid_in (instance_of f.env t)) refl refl (λ m is. refl))
performs_agree ks n child q k f fs (Some (give_back t)) is =
    within_agrees q.links false None (instance_of f.env t) None _ refl (leaves_foreseen None q f.target fs (instance_of f.env t) _)
performs_agree ks n child q k f fs (Some (raise c t)) is =
    let e : Exception = exception_of (f ∷ fs) c (instance_of f.env t) in
    within_agrees q.links false None (instance_of f.env t) None _ refl
    (raises_foreseen None q (catch_target (f ∷ fs)) (kept_by (f ∷ fs)) e _ (newest_raises ks n e f fs k is))

-- what is known of the step is what the act is
abbrev AgreesOf : Option RuntimeError → Process → Upcoming → Act → Type 0
AgreesOf x q u a = Agrees q.links x (waits_with q.mailbox u) (addressee_of u) a

runs_in_agrees : (ks : List Function) (n : ℕ) (child : Option ℕ) (q : Process) (f : Frame) (fs : List Frame) (o : Option Function) → slice_get ks f.function ≡ o
    → AgreesOf (error_ahead ks child (suc (length fs)) (upcoming_in f (suc (length fs)) o)) q (upcoming_in f (suc (length fs)) o) (runs_in ks n child q f fs o)
runs_in_agrees ks n child q f fs None is = refl
runs_in_agrees ks n child q f fs (Some k) is = performs_agree ks n child q k f fs (slice_get k.steps f.place) is

runs_agree : (ks : List Function) (n : ℕ) (child : Option ℕ) (q : Process) (fs : List Frame) → AgreesOf (error_ahead ks child (length fs) (upcoming_of ks fs)) q (upcoming_of ks fs) (runs ks n child q fs)
runs_agree ks n child q [] = refl
runs_agree ks n child q (f ∷ fs) = runs_in_agrees ks n child (with_frames q fs) f fs (slice_get ks f.function) refl

begins_agree : (ks : List Function) (n : ℕ) (child : Option ℕ) (q : Process) (o : Option Entry)
    → AgreesOf (error_ahead ks child (length q.frames) (upcoming_first ks q.frames o)) q (upcoming_first ks q.frames o) (begins ks n child q o)
begins_agree ks n child q None = runs_agree ks n child q q.frames
begins_agree ks n child q (Some e) = enters_agrees None ks n q q.frames (remotely None) e.args (number_from 0 ks (entry_mfa e))

acts_agree : (ks : List Function) (n : ℕ) (child : Option ℕ) (q : Process) → q.signal ≡ None → AgreesOf (runtime_error ks child q) q (upcoming ks q) (act ks n child q)
acts_agree ks n child q quiet =
    subst (λ o. AgreesOf (error_ahead ks child (length q.frames) (upcoming_after ks q.frames q.entry o)) q (upcoming_after ks q.frames q.entry o) (act_after ks n child q o)) (sym quiet) (begins_agree ks n child q q.entry)

-- ---- the laws

error_here : (ks : List Function) (n : ℕ) (child : Option ℕ) (q : Process) (x : RuntimeError) (o : Option Tree) → q.signal ≡ o → error_ahead ks child (length q.frames) (upcoming_after ks q.frames q.entry o) ≡ Some x
    → act ks n child q ≡ exits q.links (error_reason x) []
error_here ks n child q x (Some r) is e = absurd (let h : None ≡ Some x = e in cc)
error_here ks n child q x None is e =
    let found : runtime_error ks child q ≡ Some x = ap (λ o. error_ahead ks child (length q.frames) (upcoming_after ks q.frames q.entry o)) is ∙ e in
    (subst (λ y. AgreesOf y q (upcoming ks q) (act ks n child q)) found (acts_agree ks n child q is)).1

pub error_ends_the_process : ErrorEndsTheProcess
error_ends_the_process ks n child q x e = error_here ks n child q x q.signal refl e

sudden : (ls partners : List Bool) (x : Option RuntimeError) (w : Bool) (to : Option ℕ) (a : Act) (r : Tree) → Agrees ls x w to a → a ≡ exits partners r [] → (y : RuntimeError) × (x ≡ Some y) × (r ≡ error_reason y)
sudden ls partners (Some x) w to a r h e = (x, refl, let f : exits ls (error_reason x) [] ≡ exits partners r [] = sym h.1 ∙ e in cc)
sudden ls partners None w to (exits others s es) r h e = absurd (let f : exits others s es ≡ exits partners r [] = e in let g : es ≡ h.1.0 ∷ h.1.1 = h.1.2 in cc)
sudden ls partners None w to (waits q) r h e = absurd (let f : waits q ≡ exits partners r [] = e in cc)
sudden ls partners None w to (continues q es) r h e = absurd (let f : continues q es ≡ exits partners r [] = e in cc)
sudden ls partners None w to (sends q m t) r h e = absurd (let f : sends q m t ≡ exits partners r [] = e in cc)
sudden ls partners None w to (links_to q m) r h e = absurd (let f : links_to q m ≡ exits partners r [] = e in cc)
sudden ls partners None w to (unlinks_from q m) r h e = absurd (let f : unlinks_from q m ≡ exits partners r [] = e in cc)
sudden ls partners None w to (spawns q c f) r h e = absurd (let g : spawns q c f ≡ exits partners r [] = e in cc)

pub sudden_end_is_an_error : SuddenEndIsAnError
sudden_end_is_an_error ks n child q partners r quiet e = sudden q.links partners (runtime_error ks child q) (is_waiting ks q) (addressee ks q) (act ks n child q) r (acts_agree ks n child q quiet) e

waiting : (ls : List Bool) (x : Option RuntimeError) (w : Bool) (to : Option ℕ) (a : Act) → Agrees ls x w to a → w ≡ is_wait a
waiting ls (Some x) w to a h = h.0 ∙ ap is_wait (sym h.1)
waiting ls None w to (waits q) h = h
waiting ls None w to (continues q es) h = h
waiting ls None w to (sends q m t) h = h.0
waiting ls None w to (links_to q m) h = h
waiting ls None w to (unlinks_from q m) h = h
waiting ls None w to (spawns q c e) h = h
waiting ls None w to (exits partners r es) h = h.0

waiting_here : (ks : List Function) (n : ℕ) (child : Option ℕ) (q : Process) (o : Option Tree) → q.signal ≡ o → is_waiting ks q ≡ is_wait (act ks n child q)
waiting_here ks n child q None is = waiting q.links (runtime_error ks child q) (is_waiting ks q) (addressee ks q) (act ks n child q) (acts_agree ks n child q is)
waiting_here ks n child q (Some r) is = ap (λ o. waits_with q.mailbox (upcoming_after ks q.frames q.entry o)) is ∙ ap (λ o. is_wait (act_after ks n child q o)) (sym is)

pub waiting_is_of_the_act : WaitingIsOfTheAct
waiting_is_of_the_act ks n child q = waiting_here ks n child q q.signal refl

sent_to : (ls : List Bool) (x : Option RuntimeError) (w : Bool) (to : Option ℕ) (a : Act) (r : Process) (m : ℕ) (t : Tree) → Agrees ls x w to a → a ≡ sends r m t → to ≡ Some m
sent_to ls (Some x) w to a r m t h e = absurd (let f : exits ls (error_reason x) [] ≡ sends r m t = sym h.1 ∙ e in cc)
sent_to ls None w to (sends q n u) r m t h e = h.1 ∙ (let f : sends q n u ≡ sends r m t = e in cc)
sent_to ls None w to (waits q) r m t h e = absurd (let f : waits q ≡ sends r m t = e in cc)
sent_to ls None w to (continues q es) r m t h e = absurd (let f : continues q es ≡ sends r m t = e in cc)
sent_to ls None w to (links_to q n) r m t h e = absurd (let f : links_to q n ≡ sends r m t = e in cc)
sent_to ls None w to (unlinks_from q n) r m t h e = absurd (let f : unlinks_from q n ≡ sends r m t = e in cc)
sent_to ls None w to (spawns q c g) r m t h e = absurd (let f : spawns q c g ≡ sends r m t = e in cc)
sent_to ls None w to (exits partners s es) r m t h e = absurd (let f : exits partners s es ≡ sends r m t = e in cc)

sent_here : (ks : List Function) (n : ℕ) (child : Option ℕ) (q r : Process) (m : ℕ) (t : Tree) (o : Option Tree) → q.signal ≡ o → act ks n child q ≡ sends r m t → addressee ks q ≡ Some m
sent_here ks n child q r m t None is e = sent_to q.links (runtime_error ks child q) (is_waiting ks q) (addressee ks q) (act ks n child q) r m t (acts_agree ks n child q is) e
sent_here ks n child q r m t (Some s) is e = absurd (let f : exits q.links s [] ≡ sends r m t = ap (act_after ks n child q) (sym is) ∙ e in cc)

pub send_goes_to_the_addressee : SendGoesToTheAddressee
send_goes_to_the_addressee ks n child q r m t e = sent_here ks n child q r m t q.signal refl e

abbrev IsNotByCatch : Frame → Type 0
IsNotByCatch f = f.by_catch ≡ false

-- one frame on
depth_on : (f : Frame) (fs : List Frame) (b : Bool) → f.by_catch ≡ b → catch_depth (f ∷ fs) ≡ cond b (Some (suc (length fs))) (catch_depth fs)
depth_on f fs b e = ap (λ c. cond c (Some (suc (length fs))) (catch_depth fs)) e

pub catch_has_its_depth : CatchHasItsDepth
catch_has_its_depth [] beneath f h e = depth_on f beneath true e
catch_has_its_depth (g ∷ above) beneath f h e =
    depth_on g (above ++ f ∷ beneath) false (All-head IsNotByCatch g above h) ∙ catch_has_its_depth above beneath f (All-tail IsNotByCatch g above h) e

pub no_catch_no_depth : NoCatchNoDepth
no_catch_no_depth [] h = refl
no_catch_no_depth (f ∷ fs) h = depth_on f fs false (All-head IsNotByCatch f fs h) ∙ no_catch_no_depth fs (All-tail IsNotByCatch f fs h)

-- What the acts of a process come to.
use Rattle.std.proofs.Common.{◌≡◌, ℕ, zero, suc, ◌+◌, ◌-◌, ◌<◌, ◌≤◌, Bool, true, false, cond, List, [], ◌∷◌, length, map, reverse, slice_get, Option, Some, None, Result, Ok, Err, refl, ap, sym, ◌∙◌, arith}
use mathlib.Core.List.{reverse_aux}
use Rattle.std.proofs.lemmas.List.{length-reverse, length-map}
use Rattle.std.proofs.lemmas.Bool.Decides.{nat_tests}
use Rattle.std.specs.Prelude.{nat_le}
use Rattle.std.specs.Option.{option_map}
use Rattle.def_term.specs.Tree.{Tree, pid_in}
use Rattle.def_term.specs.Names.{Name, Mfa, word}
use Rattle.def_script.specs.Program.{Function, Entry}
use Rattle.def_node.specs.Event.{Call}
use Rattle.def_node.specs.Values.{Env, params_bound}
use Rattle.def_node.specs.Process.{Process, Frame, Manner, Act, waits, exits, enters, enters_at, mfa_at, caller_of, within, with_frames, performs, runs, runs_in}
use Rattle.tn_process.specs.declared.act.Act.{Act as Answer}
use Rattle.tn_process.specs.declared.process.Process.{Process as State}
use Rattle.tn_process.specs.StepAnswers.{Does, EndsIn}

last_caller : {X : Type 0} (h : X → Frame) (ks : List Function) (xs : List X) (i : ℕ) (x : X) (acc : List Frame)
    → i + 1 ≡ length xs → slice_get xs i ≡ Some x → caller_of ks (reverse_aux (map h xs) acc) ≡ mfa_at ks (h x).function
last_caller h ks [] i x acc e p = absurd (omega arith)
last_caller h ks (y ∷ []) zero x acc e p = let q : y ≡ x = (let r : Some y ≡ Some x = p in cc) in ap (λ z. mfa_at ks (h z).function) q
last_caller h ks (y ∷ []) (suc i) x acc e p = absurd (omega arith)
last_caller h ks (y ∷ z ∷ zs) zero x acc e p = absurd (omega arith)
last_caller h ks (y ∷ z ∷ zs) (suc i) x acc e p = last_caller h ks (z ∷ zs) i x (h y ∷ acc) (omega arith) p

pub caller_last : {X : Type 0} (h : X → Frame) (ks : List Function) (xs : List X) (x : X)
    → slice_get xs (length xs - 1) ≡ Some x → caller_of ks (reverse (map h xs)) ≡ mfa_at ks (h x).function
caller_last h ks [] x p = absurd (let r : None ≡ Some x = p in cc)
caller_last h ks (y ∷ ys) x p = last_caller h ks (y ∷ ys) (length (y ∷ ys) - 1) x [] (omega arith) p

pub none_bound : (env : Env) (ps : List Name) → params_bound env ps [] ≡ env
none_bound env [] = refl
none_bound env (p ∷ ps) = refl

pub depth_below : {X : Type 0} (h : X → Frame) (xs : List X) → length xs < 64 → nat_le 64 (length (reverse (map h xs))) ≡ false
depth_below h xs below = let e : length (reverse (map h xs)) ≡ length xs = length-reverse (map h xs) ∙ length-map xs h in grind (arith, nat_tests)

pub depth_at_limit : {X : Type 0} (h : X → Frame) (xs : List X) → 64 ≤ length xs → nat_le 64 (length (reverse (map h xs))) ≡ true
depth_at_limit h xs above = let e : length (reverse (map h xs)) ≡ length xs = length-reverse (map h xs) ∙ length-map xs h in grind (arith, nat_tests)

pub depth_seen : {X : Type 0} (h : X → Frame) (xs : List X) → length (reverse (map h xs)) ≡ length xs
depth_seen h xs = length-reverse (map h xs) ∙ length-map xs h

pub otherwise : (b : Bool) (x r y : Act) → b ≡ false → x ≡ y → x ≡ cond b r y
otherwise b x r y h e = e ∙ sym (ap (λ v. cond v r y) h)

pub here : (b : Bool) (x y : Act) → b ≡ true → x ≡ cond b x y
here b x y h = sym (ap (λ v. cond v x y) h)

-- a call is the same whether an entry call is due or not
enters_at_after : (ks : List Function) (n : ℕ) (q : Process) (e : Option Entry) (fs : List Frame) (a : Manner) (args : List Tree) (i : ℕ) (k : Option Function)
    → enters_at ks n (record q { entry = e }) fs a args i k ≡ enters_at ks n q fs a args i k
enters_at_after ks n q e fs a args i None = refl
enters_at_after ks n q e fs a args i (Some k) = refl

pub enters_after : (ks : List Function) (n : ℕ) (q : Process) (e : Option Entry) (fs : List Frame) (a : Manner) (args : List Tree) (i : Option ℕ)
    → enters ks n (record q { entry = e }) fs a args i ≡ enters ks n q fs a args i
enters_after ks n q e fs a args None = refl
enters_after ks n q e fs a args (Some i) = enters_at_after ks n q e fs a args i (slice_get ks i)

-- an answer that ends the process, by what it comes to
pub ended : {A E : Type 0} (q : State A) (r : Result (Answer A) E) (f : List Bool → Act) (a : Act) → EndsIn r f → f q.links ≡ a → Does q r a
ended q (Ok x) f a h e = h q ∙ e
ended q (Err x) f a h e = h

-- the same answer, by what it comes to
pub done : {A E : Type 0} (q : State A) (r : Result (Answer A) E) (a b : Act) → Does q r a → a ≡ b → Does q r b
done q (Ok x) a b h e = h ∙ e
done q (Err x) a b h e = h

pub within_pid : (ls : List Bool) (o : Option Tree) (p : Option (Option ℕ)) (f : Option ℕ → Act)
    → p ≡ option_map pid_in o → within ls p f ≡ within ls o (λ t. f (pid_in t))
within_pid ls None p f e = ap (λ v. within ls v f) e
within_pid ls (Some t) p f e = ap (λ v. within ls v f) e

pub within_none : {X : Type 0} (ls : List Bool) (o : Option X) (f : X → Act) → None ≡ o → exits ls (word "system_limit") [] ≡ within ls o f
within_none ls o f is = ap (λ v. within ls v f) is

pub within_some : {X : Type 0} (ls : List Bool) (o : Option X) (f : X → Act) (x : X) (a : Act) → Some x ≡ o → a ≡ f x → a ≡ within ls o f
within_some ls o f x a is e = e ∙ ap (λ v. within ls v f) is

abbrev pub call_from : Mfa → List Tree → Bool → Bool → Option Mfa → ℕ → Call
call_from m ts named exported o d = record { mfa = m; args = ts; named = named; exported = exported; caller = o; depth = d }

pub call_same : (m m' : Mfa) (ts ts' : List Tree) (named exported : Bool) (o o' : Option Mfa) (d d' : ℕ)
    → m ≡ m' → ts ≡ ts' → o ≡ o' → d ≡ d' → call_from m ts named exported o d ≡ call_from m' ts' named exported o' d'
call_same m m' ts ts' named exported o o' d d' em ets eo ed =
    ap (λ x. call_from x ts named exported o d) em
    ∙ ap (λ x. call_from m' x named exported o d) ets
    ∙ ap (λ x. call_from m' ts' named exported x d) eo
    ∙ ap (λ x. call_from m' ts' named exported o' x) ed

-- a step of the newest frame, which was taken off
pub run_here : (ks : List Function) (n : ℕ) (child : Option ℕ) (q p : Process) (f : Frame) (k : Function) → q ≡ with_frames p (f ∷ p.frames)
    → slice_get ks f.function ≡ Some k → performs ks n child p k f p.frames (slice_get k.steps f.place) ≡ runs ks n child q q.frames
run_here ks n child q p f k is found =
    sym (ap (runs_in ks n child p f p.frames) found) ∙ sym (ap (λ (x : Process). runs ks n child x x.frames) is)

pub run_nowhere : (ks : List Function) (n : ℕ) (child : Option ℕ) (q p : Process) (f : Frame) → q ≡ with_frames p (f ∷ p.frames)
    → slice_get ks f.function ≡ None → waits q ≡ runs ks n child q q.frames
run_nowhere ks n child q p f is found =
    ap waits is ∙ sym (ap (runs_in ks n child p f p.frames) found) ∙ sym (ap (λ (x : Process). runs ks n child x x.frames) is)

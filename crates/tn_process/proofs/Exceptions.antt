-- Frames that an exception leaves, one after the other, and what goes on then.
use Rattle.std.proofs.Common.{◌≡◌, ℕ, ◌+◌, ◌<◌, true, false, cond, ◌||◌, List, [], ◌∷◌, ◌++◌, length, map, reverse, Option, Some, None, option_to_list, refl, ap, sym, ◌∙◌, append_assoc, arith}
use Rattle.std.specs.Prelude.{filter_map}
use Rattle.std.specs.List.{list_any, cons_option}
use Rattle.std.specs.Option.{option_map}
use Rattle.std.proofs.lemmas.List.{append-nil}
use mathlib.Core.List.{reverse_aux}
use Rattle.def_term.specs.Names.{Name, Mfa, word}
use Rattle.def_term.specs.Tree.{Tree, tuple, of_elements}
use Rattle.def_script.specs.Program.{Class, error, throw, Function}
use Rattle.def_node.specs.Event.{Event, raised}
use Rattle.def_node.specs.Values.{rebound_target}
use Rattle.def_node.specs.Process.{Frame, Process, Exception, continues, exits, with_frames, with_env, exception_of, raised_in, left_by, kept_by, catch_target, caught_as, exit_reason, raises_to, leaves_by}
use Rattle.def_node.proofs.Raises.{events_on, kept_on, target_on}

-- ---- whether a catch step called a frame

any_mapped : {X : Type 0} (h : X → Frame) (xs : List X) → list_any (λ x. (h x).by_catch) xs ≡ list_any (λ f. f.by_catch) (map h xs)
any_mapped h [] = refl
any_mapped h (x ∷ xs) = ap (λ b. (h x).by_catch || b) (any_mapped h xs)

any_onto : {X : Type 0} (h : X → Frame) (xs ys : List X) → list_any (λ x. (h x).by_catch) (reverse_aux xs ys) ≡ list_any (λ f. f.by_catch) (reverse_aux (map h xs) (map h ys))
any_onto h [] ys = any_mapped h ys
any_onto h (x ∷ xs) ys = any_onto h xs (x ∷ ys)

pub any_caught : {X : Type 0} (h : X → Frame) (xs : List X) → list_any (λ x. (h x).by_catch) (reverse xs) ≡ list_any (λ f. f.by_catch) (reverse (map h xs))
any_caught h xs = any_onto h xs []

-- a throw where none did
pub uncaught : (fs : List Frame) (c : Class) (t u : Tree) → c ≡ throw → list_any (λ f. f.by_catch) fs ≡ false → u ≡ tuple (of_elements (word "nocatch" ∷ t ∷ []))
    → (let e : Exception = record { class = error; value = u } in e ≡ exception_of fs c t)
uncaught fs c t u is none same =
    let E : Tree → Exception = λ v. record { class = error; value = v } in
    ap E same ∙ sym (ap (λ k. exception_of fs k t) is ∙ ap (λ b. cond b (record { class = throw; value = t }) (E (tuple (of_elements (word "nocatch" ∷ t ∷ []))))) none)

-- ---- frame by frame

-- q is the process before the exception, p what it is now, and es are the events so far
pub record UnwindsSo (ks : List Function) (n : ℕ) (e : Exception) (q p : Process) (es : List Event) : Type 0 where
  pub rest : q ≡ with_frames p q.frames
  pub kept : kept_by p.frames ≡ kept_by q.frames
  pub target : catch_target p.frames ≡ catch_target q.frames
  pub events : es ++ filter_map (raised_in ks n e) (left_by p.frames) ≡ filter_map (raised_in ks n e) (left_by q.frames)

-- all frames that it leaves came off
pub record Unwinds (ks : List Function) (n : ℕ) (e : Exception) (q p : Process) (target : Option Name) (es : List Event) : Type 0 where
  pub frames : p ≡ with_frames q (kept_by q.frames)
  pub target_is : target ≡ catch_target q.frames
  pub events : es ≡ filter_map (raised_in ks n e) (left_by q.frames)

pub unwinds_none : (ks : List Function) (n : ℕ) (e : Exception) (q : Process) (es : List Event) → es ≡ [] → UnwindsSo ks n e q q es
unwinds_none ks n e q es none = record {
  rest = refl;
  kept = refl;
  target = refl;
  events = ap (λ xs. xs ++ filter_map (raised_in ks n e) (left_by q.frames)) none;
}

-- the process is another in its frames alone
rest_on : (q p r : Process) (f : Frame) → q ≡ with_frames p q.frames → p ≡ with_frames r (f ∷ r.frames) → q ≡ with_frames r q.frames
rest_on q p r f rest pops = rest ∙ ap (λ (x : Process). with_frames x q.frames) pops

frames_on : (p r : Process) (f : Frame) → p ≡ with_frames r (f ∷ r.frames) → p.frames ≡ f ∷ r.frames
frames_on p r f pops = ap (λ (x : Process). x.frames) pops

events_so : (xs : List Event) (o : Option Event) (rest : List Event) → (xs ++ option_to_list o) ++ rest ≡ xs ++ cons_option o rest
events_so xs None rest = ap (λ ys. ys ++ rest) (append-nil xs)
events_so xs (Some x) rest = append_assoc xs (x ∷ []) rest

events_last : (xs : List Event) (o : Option Event) → xs ++ option_to_list o ≡ xs ++ cons_option o []
events_last xs None = refl
events_last xs (Some x) = refl

pub unwinds_next : (ks : List Function) (n : ℕ) (e : Exception) (q p r : Process) (es new : List Event) (f : Frame) (depth : ℕ)
    → p ≡ with_frames r (f ∷ r.frames) → f.by_catch ≡ false → depth ≡ length r.frames + 1 → new ≡ es ++ option_to_list (raised_in ks n e (f, depth))
    → UnwindsSo ks n e q p es → UnwindsSo ks n e q r new
unwinds_next ks n e q p r es new f depth pops is deep more so_far = record {
  rest = rest_on q p r f so_far.rest pops;
  kept = sym (ap kept_by (frames_on p r f pops) ∙ kept_on f r.frames false is) ∙ so_far.kept;
  target = sym (ap catch_target (frames_on p r f pops) ∙ target_on f r.frames false is) ∙ so_far.target;
  events =
      let left = filter_map (raised_in ks n e) (left_by r.frames) in
      ap (λ xs. xs ++ left) (more ∙ ap (λ d. es ++ option_to_list (raised_in ks n e (f, d))) deep)
      ∙ events_so es (raised_in ks n e (f, length r.frames + 1)) left
      ∙ sym (ap (λ fs. es ++ filter_map (raised_in ks n e) (left_by fs)) (frames_on p r f pops) ∙ ap (λ xs. es ++ xs) (events_on ks n e f r.frames false is))
      ∙ so_far.events;
}

-- the last frame that is left is one that a catch step called
pub unwinds_to_catch : (ks : List Function) (n : ℕ) (e : Exception) (q p r : Process) (es new : List Event) (f : Frame) (depth : ℕ)
    → p ≡ with_frames r (f ∷ r.frames) → f.by_catch ≡ true → depth ≡ length r.frames + 1 → new ≡ es ++ option_to_list (raised_in ks n e (f, depth))
    → UnwindsSo ks n e q p es → Unwinds ks n e q r f.target new
unwinds_to_catch ks n e q p r es new f depth pops is deep more so_far = record {
  frames =
      let kept : r.frames ≡ kept_by q.frames = sym (ap kept_by (frames_on p r f pops) ∙ kept_on f r.frames true is) ∙ so_far.kept in
      ap (λ fs. with_frames r fs) kept ∙ sym (ap (λ (x : Process). with_frames x (kept_by q.frames)) (rest_on q p r f so_far.rest pops));
  target_is = sym (ap catch_target (frames_on p r f pops) ∙ target_on f r.frames true is) ∙ so_far.target;
  events =
      more ∙ ap (λ d. es ++ option_to_list (raised_in ks n e (f, d))) deep
      ∙ events_last es (raised_in ks n e (f, length r.frames + 1))
      ∙ sym (ap (λ fs. es ++ filter_map (raised_in ks n e) (left_by fs)) (frames_on p r f pops) ∙ ap (λ xs. es ++ xs) (events_on ks n e f r.frames true is))
      ∙ so_far.events;
}

-- no frame is left to come off
pub unwinds_all : (ks : List Function) (n : ℕ) (e : Exception) (q p r : Process) (es : List Event)
    → r ≡ p → p.frames ≡ [] → UnwindsSo ks n e q p es → Unwinds ks n e q r None es
unwinds_all ks n e q p r es same none so_far = record {
  frames =
      let kept : p.frames ≡ kept_by q.frames = none ∙ sym (ap kept_by none) ∙ so_far.kept in
      same ∙ ap (λ fs. with_frames p fs) kept ∙ sym (ap (λ (x : Process). with_frames x (kept_by q.frames)) so_far.rest);
  target_is = sym (ap catch_target none) ∙ so_far.target;
  events = sym (ap (λ fs. es ++ filter_map (raised_in ks n e) (left_by fs)) none ∙ append-nil es) ∙ so_far.events;
}

pub fewer : (p r : Process) (f : Frame) → p ≡ with_frames r (f ∷ r.frames) → length r.frames < length p.frames
fewer p r f pops = omega (arith, ap (λ (x : Process). length x.frames) pops)

-- ---- the event of one frame

pub gains_none : (n : ℕ) (e : Exception) (depth : ℕ) (es : List Event) (o : Option Mfa) → None ≡ o → es ≡ es ++ option_to_list (option_map (λ m. raised n m e.class e.value depth) o)
gains_none n e depth es o none = sym (append-nil es) ∙ ap (λ p. es ++ option_to_list (option_map (λ m. raised n m e.class e.value depth) p)) none

pub gains_one : (n : ℕ) (e : Exception) (depth : ℕ) (es new : List Event) (o : Option Mfa) (m : Mfa) (t : Tree)
    → Some m ≡ o → t ≡ e.value → new ≡ es ++ raised n m e.class t depth ∷ [] → new ≡ es ++ option_to_list (option_map (λ m. raised n m e.class e.value depth) o)
gains_one n e depth es new o m t there same more =
    more ∙ ap (λ v. es ++ raised n m e.class v depth ∷ []) same
    ∙ ap (λ p. es ++ option_to_list (option_map (λ m. raised n m e.class e.value depth) p)) there

-- ---- what goes on then

-- the process goes on in the newest of the frames that are kept
pub goes_on : (ks : List Function) (n : ℕ) (e : Exception) (q p r : Process) (f : Frame) → p ≡ with_frames q (kept_by q.frames) → p ≡ with_frames r (f ∷ r.frames)
    → continues (with_frames r (with_env f (rebound_target (catch_target q.frames) (caught_as e.class e.value) f.env) ∷ r.frames)) (filter_map (raised_in ks n e) (left_by q.frames)) ≡ leaves_by ks n q q.frames e
goes_on ks n e q p r f kept pops =
    let events = filter_map (raised_in ks n e) (left_by q.frames) in
    let frames = with_env f (rebound_target (catch_target q.frames) (caught_as e.class e.value) f.env) ∷ r.frames in
    let is : kept_by q.frames ≡ f ∷ r.frames = ap (λ (x : Process). x.frames) (sym kept ∙ pops) in
    ap (λ (x : Process). continues (with_frames x frames) events) (sym pops ∙ kept)
    ∙ sym (ap (λ fs. raises_to q (catch_target q.frames) fs e events) is)

-- no frame is kept
pub ends : (ks : List Function) (n : ℕ) (e : Exception) (q p r : Process) → p ≡ with_frames q (kept_by q.frames) → r ≡ p → p.frames ≡ []
    → exits r.links (exit_reason e.class e.value) (filter_map (raised_in ks n e) (left_by q.frames)) ≡ leaves_by ks n q q.frames e
ends ks n e q p r kept same none =
    let events = filter_map (raised_in ks n e) (left_by q.frames) in
    let is : kept_by q.frames ≡ [] = ap (λ (x : Process). x.frames) (sym kept) ∙ none in
    ap (λ (x : Process). exits x.links (exit_reason e.class e.value) events) (same ∙ kept)
    ∙ sym (ap (λ fs. raises_to q (catch_target q.frames) fs e events) is)

over_kept : (q : Process) (gs : List Frame) (x : Option Name) (fs : List Frame) (e : Exception) (es : List Event) → raises_to (with_frames q gs) x fs e es ≡ raises_to q x fs e es
over_kept q gs x [] e es = refl
over_kept q gs x (f ∷ fs) e es = refl

-- an exception in these frames, whichever the process has
pub over_frames : (ks : List Function) (n : ℕ) (q : Process) (gs fs : List Frame) (e : Exception) → leaves_by ks n (with_frames q gs) fs e ≡ leaves_by ks n q fs e
over_frames ks n q gs fs e = over_kept q gs (catch_target fs) (kept_by fs) e (filter_map (raised_in ks n e) (left_by fs))

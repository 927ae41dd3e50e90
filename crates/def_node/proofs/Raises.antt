-- Which frames a raise leaves, and where it goes on.
use Rattle.std.proofs.Common.{◌≡◌, ℕ, ◌+◌, ◌-◌, Bool, true, false, cond, ◌||◌, List, [], ◌∷◌, ◌++◌, length, map, ◌⊎◌, inl, inr, refl, ap, sym, ◌∙◌, arith}
use Rattle.std.specs.List.{list_any, cons_option}
use Rattle.std.specs.Prelude.{filter_map}
use Rattle.std.proofs.lemmas.List.Elements.{All-nil, All-cons, All-head, All-tail}
use Rattle.def_term.specs.Tree.{Tree, tuple, more, none}
use Rattle.def_term.specs.Names.{word}
use Rattle.def_script.specs.Program.{Class, error, throw, exit, Function}
use Rattle.def_node.specs.Event.{Event}
use Rattle.def_node.specs.Process.{Frame, Process, continues, exits, resume, Exception, exception_of, exit_reason, caught_as, raised_in, left_by, kept_by, catch_target, raises_to, leaves_by}
use Rattle.def_node.specs.Laws.{NoneByCatch, LeavesDownToACatch, LeavesAllFrames, down_from, LeftHaveTheirDepths, events_of_raise, caught_value, CaughtRaiseGoesOn, UncaughtErrorEnds, UncaughtExitEnds, UncaughtThrowIsAnError, RaiseIsCaughtOrNot}

abbrev frames : List (Frame × ℕ) → List Frame
frames ls = map (λ l. l.0) ls

abbrev IsByCatch : Frame → Type 0
IsByCatch f = f.by_catch ≡ false

-- ---- what is left, and what is kept

left_on : (f : Frame) (fs : List Frame) (b : Bool) → f.by_catch ≡ b → frames (left_by (f ∷ fs)) ≡ f ∷ cond b [] (frames (left_by fs))
left_on f fs true e = ap (λ b. frames ((f, length fs + 1) ∷ cond b [] (left_by fs))) e
left_on f fs false e = ap (λ b. frames ((f, length fs + 1) ∷ cond b [] (left_by fs))) e

-- one frame on: what is kept, whose target the value goes to, and the events of those left
pub kept_on : (f : Frame) (fs : List Frame) (b : Bool) → f.by_catch ≡ b → kept_by (f ∷ fs) ≡ cond b fs (kept_by fs)
kept_on f fs b e = ap (λ b. cond b fs (kept_by fs)) e

pub target_on : (f : Frame) (fs : List Frame) (b : Bool) → f.by_catch ≡ b → catch_target (f ∷ fs) ≡ cond b f.target (catch_target fs)
target_on f fs b e = ap (λ b. cond b f.target (catch_target fs)) e

pub events_on : (ks : List Function) (n : ℕ) (e : Exception) (f : Frame) (fs : List Frame) (b : Bool) → f.by_catch ≡ b
    → filter_map (raised_in ks n e) (left_by (f ∷ fs)) ≡ cons_option (raised_in ks n e (f, length fs + 1)) (cond b [] (filter_map (raised_in ks n e) (left_by fs)))
events_on ks n e f fs true is = ap (λ b. filter_map (raised_in ks n e) ((f, length fs + 1) ∷ cond b [] (left_by fs))) is
events_on ks n e f fs false is = ap (λ b. filter_map (raised_in ks n e) ((f, length fs + 1) ∷ cond b [] (left_by fs))) is

left_down : (above beneath : List Frame) (f : Frame) → NoneByCatch above → f.by_catch ≡ true → frames (left_by (above ++ f ∷ beneath)) ≡ above ++ f ∷ []
left_down [] beneath f h e = left_on f beneath true e
left_down (g ∷ above) beneath f h e =
    left_on g (above ++ f ∷ beneath) false (All-head IsByCatch g above h)
    ∙ ap (λ fs. g ∷ fs) (left_down above beneath f (All-tail IsByCatch g above h) e)

kept_down : (above beneath : List Frame) (f : Frame) → NoneByCatch above → f.by_catch ≡ true → kept_by (above ++ f ∷ beneath) ≡ beneath
kept_down [] beneath f h e = kept_on f beneath true e
kept_down (g ∷ above) beneath f h e = kept_on g (above ++ f ∷ beneath) false (All-head IsByCatch g above h) ∙ kept_down above beneath f (All-tail IsByCatch g above h) e

target_down : (above beneath : List Frame) (f : Frame) → NoneByCatch above → f.by_catch ≡ true → catch_target (above ++ f ∷ beneath) ≡ f.target
target_down [] beneath f h e = target_on f beneath true e
target_down (g ∷ above) beneath f h e = target_on g (above ++ f ∷ beneath) false (All-head IsByCatch g above h) ∙ target_down above beneath f (All-tail IsByCatch g above h) e

pub leaves_down_to_a_catch : LeavesDownToACatch
leaves_down_to_a_catch above beneath f h e = (left_down above beneath f h e, kept_down above beneath f h e)

all_left : (fs : List Frame) → NoneByCatch fs → frames (left_by fs) ≡ fs
all_left [] h = refl
all_left (f ∷ fs) h = left_on f fs false (All-head IsByCatch f fs h) ∙ ap (λ gs. f ∷ gs) (all_left fs (All-tail IsByCatch f fs h))

none_kept : (fs : List Frame) → NoneByCatch fs → kept_by fs ≡ []
none_kept [] h = refl
none_kept (f ∷ fs) h = kept_on f fs false (All-head IsByCatch f fs h) ∙ none_kept fs (All-tail IsByCatch f fs h)

pub leaves_all_frames : LeavesAllFrames
leaves_all_frames fs h = (all_left fs h, none_kept fs h)

abbrev HaveDepths : ℕ → List (Frame × ℕ) → Type 0
HaveDepths n ls = map (λ l. l.1) ls ≡ down_from n (frames ls)

pub left_have_their_depths : LeftHaveTheirDepths
left_have_their_depths [] = refl
left_have_their_depths (f ∷ fs) = go f.by_catch (left_have_their_depths fs)
  where
    first : (length fs + 1) - 1 ≡ length fs
    first = omega arith

    whole : length (f ∷ fs) ≡ length fs + 1
    whole = omega arith

    go : (b : Bool) → HaveDepths (length fs) (left_by fs) → HaveDepths (length (f ∷ fs)) ((f, length fs + 1) ∷ cond b [] (left_by fs))
    go true h = ap (λ n. n ∷ []) (sym whole)
    go false h = ap (λ n. n ∷ map (λ l. l.1) (left_by fs)) (sym whole) ∙ ap (λ ds. length (f ∷ fs) ∷ ds) (h ∙ ap (λ n. down_from n (frames (left_by fs))) (sym first ∙ ap (λ n. n - 1) (sym whole)))

-- ---- what is raised

none_any : (fs : List Frame) → NoneByCatch fs → list_any (λ f. f.by_catch) fs ≡ false
none_any [] h = refl
none_any (f ∷ fs) h = ap (λ b. b || list_any (λ f. f.by_catch) fs) (All-head IsByCatch f fs h) ∙ none_any fs (All-tail IsByCatch f fs h)

true_or : (b : Bool) → (b || true) ≡ true
true_or true = refl
true_or false = refl

one_any : (above beneath : List Frame) (f : Frame) → f.by_catch ≡ true → list_any (λ g. g.by_catch) (above ++ f ∷ beneath) ≡ true
one_any [] beneath f e = ap (λ b. b || list_any (λ g. g.by_catch) beneath) e
one_any (g ∷ above) beneath f e = ap (λ b. g.by_catch || b) (one_any above beneath f e) ∙ true_or g.by_catch

abbrev thrown : Bool → Tree → Exception
thrown b t = cond b (record { class = throw; value = t }) (record { class = error; value = tuple (more (word "nocatch") (more t none)) })

caught_as_it_is : (fs : List Frame) (c : Class) (t : Tree) → list_any (λ f. f.by_catch) fs ≡ true → exception_of fs c t ≡ record { class = c; value = t }
caught_as_it_is fs error t e = refl
caught_as_it_is fs throw t e = ap (λ b. thrown b t) e
caught_as_it_is fs exit t e = refl

value_is : (c : Class) (t : Tree) → caught_as c t ≡ caught_value c t
value_is error t = refl
value_is throw t = refl
value_is exit t = refl

pub caught_raise_goes_on : CaughtRaiseGoesOn
caught_raise_goes_on ks n q above beneath f g c t h e =
    let fs : List Frame = above ++ f ∷ g ∷ beneath in
    let x : Exception = record { class = c; value = t } in
    let es : List Event = events_of_raise ks n fs c t in
    ap (leaves_by ks n q fs) (caught_as_it_is fs c t (one_any above (g ∷ beneath) f e))
    ∙ ap (λ v. raises_to q v (kept_by fs) x es) (target_down above (g ∷ beneath) f h e)
    ∙ ap (λ gs. raises_to q f.target gs x es) (kept_down above (g ∷ beneath) f h e)
    ∙ ap (λ v. continues (resume q f.target v g beneath) es) (value_is c t)

-- an exception that leaves all frames
ends : (ks : List Function) (n : ℕ) (q : Process) (fs : List Frame) (c : Class) (t : Tree) → NoneByCatch fs
    → leaves_by ks n q fs (record { class = c; value = t }) ≡ exits q.links (exit_reason c t) (events_of_raise ks n fs c t)
ends ks n q fs c t h = ap (λ gs. raises_to q (catch_target fs) gs (record { class = c; value = t }) (events_of_raise ks n fs c t)) (none_kept fs h)

pub uncaught_error_ends : UncaughtErrorEnds
uncaught_error_ends ks n q fs t h = ends ks n q fs error t h

pub uncaught_exit_ends : UncaughtExitEnds
uncaught_exit_ends ks n q fs t h = ends ks n q fs exit t h

pub uncaught_throw_is_an_error : UncaughtThrowIsAnError
uncaught_throw_is_an_error ks n q fs t h = ap (λ b. leaves_by ks n q fs (thrown b t)) (none_any fs h)

-- ---- each raise is caught or not

abbrev Caught : List Frame → Type 0
Caught fs = (above beneath : List Frame) × (f g : Frame) × (fs ≡ above ++ f ∷ g ∷ beneath) × NoneByCatch above × (f.by_catch ≡ true)

one_above : (f : Frame) (fs : List Frame) → f.by_catch ≡ false → Caught fs → Caught (f ∷ fs)
one_above f fs is c = (f ∷ c.0, c.1, c.2, c.3, ap (f ∷◌) c.4, All-cons IsByCatch f c.0 is c.5, c.6)

pub raise_is_caught_or_not : RaiseIsCaughtOrNot
raise_is_caught_or_not [] h = inl (All-nil IsByCatch)
raise_is_caught_or_not (f ∷ []) h = inl (All-cons IsByCatch f [] h (All-nil IsByCatch))
raise_is_caught_or_not (f ∷ g ∷ gs) h = go f.by_catch refl (raise_is_caught_or_not (g ∷ gs) h)
  where
    go : (b : Bool) → f.by_catch ≡ b → NoneByCatch (g ∷ gs) ⊎ Caught (g ∷ gs) → NoneByCatch (f ∷ g ∷ gs) ⊎ Caught (f ∷ g ∷ gs)
    go true is rest = inr ([], gs, f, g, refl, (All-nil IsByCatch), is)
    go false is (inl k) = inl (All-cons IsByCatch f (g ∷ gs) is k)
    go false is (inr c) = inr (one_above f (g ∷ gs) is c)

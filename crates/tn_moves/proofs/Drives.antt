-- Runs by plans are runs by their picks.
use Rattle.std.proofs.Common.{◌≡◌, ◌∙◌, ◌+◌, ◌<◌, ◌≤◌, ℕ, zero, suc, min, List, [], ◌∷◌, ◌++◌, length, map, take, drop, get_or, refl, sym, ap, ap₂, subst, append-nil, append_assoc, arith}
use Rattle.std.proofs.lemmas.List.{take_all, take_more, take-append-drop}
use Rattle.def_script.specs.Program.{Program}
use Rattle.def_run.specs.Run.{moves}
use Rattle.def_run.specs.Round.{pass}
use Rattle.def_run.specs.Laws.{repeat_picks}
use Rattle.def_moves.specs.Directives.{picks_of_directives}
use Rattle.def_run.proofs.Replay.{moves_bounded}
use Rattle.def_moves.proofs.Picks.{directives_move, tries, tries_of_directive, in_order}
use Rattle.tn_trace.specs.Runs.{IsRun}
use Rattle.tn_trace.specs.Follows.{AddsFrom}
use Rattle.tn_trace.specs.Within.{AreTaken, EndsWithin}
use Rattle.tn_trace.specs.declared.run.Extent.{Extent}
use Rattle.tn_trace.specs.declared.run.Extent.TheVariants.{All, TooMuch}
use Rattle.tn_trace.specs.declared.run.Run.{Run}
use Rattle.tn_trace.specs.Bounds.{HasMoreBytes}
use Rattle.tn_trace.specs.Items.{AreTexts}
use Rattle.tn_trace.specs.Recorders.{HasRecorded}
use Rattle.tn_trace.specs.Transcripts.{bytes_in_all, listing_bytes, slot_lines}
use Rattle.tn_trace.specs.declared.bound.MostBytes.{MostBytes}
use Rattle.tn_trace.specs.declared.recorder.Recorder.{Recorder}
use Rattle.tn_trace.specs.declared.sinks.Lines.{Lines}
use Rattle.tn_trace.proofs.Bounds.{at_most, longer_all, recorded_bytes}
use Rattle.tn_trace.proofs.ListingBytes.{first_moves_on}
use Rattle.tn_trace.proofs.Within.{ends_of, ends_then, ends_short}
use Rattle.tn_moves.specs.Directives.{directive_seen}
use Rattle.tn_moves.specs.Drives.{tries_for, tries_of, tries_of_plan, IsDriven, IsDrivenThrough}
use Rattle.tn_moves.specs.Plans.{plan_limit, plan_picks}
use Rattle.tn_moves.specs.declared.directive.Directive.{Directive}
use Rattle.tn_moves.specs.declared.directive.Directive.TheVariants.{Times, UntilIdle, Everybody}
use Rattle.tn_moves.specs.declared.course.Tries.{Tries}
use Rattle.tn_moves.specs.declared.plan.Plan.{Plan}
use Rattle.tn_moves.specs.declared.plan.Plan.TheVariants.{Picks, Directives}

-- ---- what is tried

tries_of-append : (t : Tries) (ds es : List Directive) → tries_of t (ds ++ es) ≡ tries_of t ds ++ tries_of t es
tries_of-append t [] es = refl
tries_of-append t (d ∷ ds) es = ap (λ xs. tries_for t d ++ xs) (tries_of-append t ds es) ∙ sym (append_assoc (tries_for t d) (tries_of t ds) (tries_of t es))

pub tries_more : (t : Tries) (ds : List Directive) (i : ℕ) (d : Directive) → i < length ds → tries_of t (take i ds) ++ tries_for t (get_or ds i d) ≡ tries_of t (take (i + 1) ds)
tries_more t ds i d below =
    ap (λ xs. tries_of t (take i ds) ++ xs) (sym (append-nil (tries_for t (get_or ds i d)))) ∙ sym (tries_of-append t (take i ds) (get_or ds i d ∷ [])) ∙ ap (tries_of t) (sym (take_more ds i d below))

pub tries_left : (t : Tries) (ds : List Directive) (i : ℕ) → tries_of t (take i ds) ++ tries_of t (drop i ds) ≡ tries_of t ds
tries_left t ds i = sym (tries_of-append t (take i ds) (drop i ds)) ∙ ap (tries_of t) (take-append-drop i ds)

-- where the pass and the number of times are so
module _ (most : ℕ) (t : Tries) (m : t.most ≡ most + 1) (q : t.pass.now ≡ pass) where
  tries_are : (d : Directive) → tries_for t d ≡ tries_of_directive most (directive_seen d)
  tries_are (Times count pick) = refl
  tries_are (UntilIdle pick) = ap (repeat_picks (pick ∷ [])) m
  tries_are Everybody = ap (λ l. repeat_picks l t.most) q ∙ ap (repeat_picks pass) m

  pub all_tries_are : (ds : List Directive) → tries_of t ds ≡ tries most (map directive_seen ds)
  all_tries_are [] = refl
  all_tries_are (d ∷ ds) = ap₂ ◌++◌ (tries_are d) (all_tries_are ds)

-- ---- one directive more

module _ {A O G : Type 0} (Seen : O → Program → List ℕ → Type 0) (Adds : Program → List ℕ → ℕ → O → O → G → G → Type 0) (Exceeds : O → Type 0) (p : Program) (limit : ℕ) (t : Tries) (before : List ℕ) (ds : List Directive) (i : ℕ) (d : Directive)
    (old mid new : Run A O) (out between out' : G) (below : i < length ds) where
  pub directive_more : (extent : Extent) → EndsWithin Seen Adds Exceeds p limit before (tries_of t (take i ds)) old mid out between All
      → EndsWithin Seen Adds Exceeds p limit (before ++ tries_of t (take i ds)) (tries_for t (get_or ds i d)) mid new between out' extent → EndsWithin Seen Adds Exceeds p limit before (tries_of t (take (i + 1) ds)) old new out out' extent
  directive_more extent a b =
      ends_of Seen Adds Exceeds p limit extent before (tries_of t (take i ds) ++ tries_for t (get_or ds i d)) (tries_of t (take (i + 1) ds)) old new out out' (tries_more t ds i d below)
      (ends_then Seen Adds Exceeds p limit extent before (tries_of t (take i ds)) (tries_for t (get_or ds i d)) old mid new out between out' a b)

  pub directives_stop : EndsWithin Seen Adds Exceeds p limit before (tries_of t (take i ds)) old mid out between All
      → EndsWithin Seen Adds Exceeds p limit (before ++ tries_of t (take i ds)) (tries_for t (get_or ds i d)) mid new between out' TooMuch → EndsWithin Seen Adds Exceeds p limit before (tries_of t ds) old new out out' TooMuch
  directives_stop a b =
      ends_of Seen Adds Exceeds p limit TooMuch before (tries_of t (take (i + 1) ds) ++ tries_of t (drop (i + 1) ds)) (tries_of t ds) old new out out' (tries_left t ds (i + 1))
      (ends_short Seen Adds Exceeds p limit before (tries_of t (take (i + 1) ds)) (tries_of t (drop (i + 1) ds)) old new out out' (directive_more TooMuch a b))

-- ---- all directives

first_taken : (p : Program) (limit : ℕ) (extent : Extent) (tried front made : List ℕ) → take limit (moves p tried) ≡ made → AreTaken extent tried front → AreTaken extent made (take limit (moves p front))
first_taken p limit All tried front made is h = ap (λ xs. take limit (moves p xs)) h ∙ is
first_taken p limit TooMuch tried front made is h =
    let longer = first_moves_on p limit front h.0 in
    (longer.0, sym is ∙ ap (λ xs. take limit (moves p xs)) h.1 ∙ longer.1)

-- what is tried makes these picks
pub driven : {A O G : Type 0} (Seen : O → Program → List ℕ → Type 0) (Adds : Program → List ℕ → ℕ → O → O → G → G → Type 0) (Exceeds : O → Type 0) (p : Program) (limit : ℕ) (tried made : List ℕ) (observer : O) (old new : Run A O) (out out' : G) (extent : Extent) → take limit (moves p tried) ≡ made → old.observer ≡ observer
    → EndsWithin Seen Adds Exceeds p limit [] tried old new out out' extent → IsDriven Seen Adds Exceeds p made observer new out out' extent
driven Seen Adds Exceeds p limit tried made observer old new out out' extent is same ends = record {
  limit = limit;
  front = take limit (moves p ends.front);
  taken = first_taken p limit extent tried ends.front made is ends.taken;
  run = ends.follows;
  added = subst (λ o. AddsFrom Adds p [] (take limit (moves p ends.front)) o new.observer out out') same (subst (λ js. AddsFrom Adds p js (take limit (moves p ends.front)) old.observer new.observer out out') (nothing_moves limit) ends.added);
  bounded = ends.bounded;
}
  where
    nothing_moves : (n : ℕ) → take n (moves p []) ≡ []
    nothing_moves zero = refl
    nothing_moves (suc n) = refl

pub directives_make : (p : Program) (limit most : ℕ) (t : Tries) (ds : List Directive) → most ≡ min limit 65536 → t.most ≡ most + 1 → t.pass.now ≡ pass → take (min limit 65536) (moves p (tries_of t ds)) ≡ picks_of_directives p limit (map directive_seen ds)
directives_make p limit most t ds is m q =
    ap (λ xs. take (min limit 65536) (moves p xs)) (all_tries_are (min limit 65536) t (m ∙ ap (λ n. n + 1) is) q ds) ∙ sym (in_order p limit (map directive_seen ds))

-- ---- all of a plan

pub plan_makes : {A : Type 0} (p : Program) (limit most : ℕ) (t : Tries) (plan : Plan A) → limit ≡ plan_limit plan → most ≡ min limit 65536 → t.most ≡ most + 1 → t.pass.now ≡ pass → take (min limit 65536) (moves p (tries_of_plan t plan)) ≡ moves p (plan_picks p plan)
plan_makes p limit most t (Picks picks) l is m q = ap (λ n. take (min n 65536) (moves p picks.now)) l ∙ take_all 65536 (moves p picks.now) (moves_bounded p picks.now)
plan_makes p limit most t (Directives n ds) l is m q =
    directives_make p limit most t ds.items is m q ∙ ap (λ k. picks_of_directives p k (map directive_seen ds.items)) l ∙ sym (directives_move p n (map directive_seen ds.items))

-- ---- a run without a bound, and one that keeps text

pub unbounded : {A O G : Type 0} (Seen : O → Program → List ℕ → Type 0) (Adds : Program → List ℕ → ℕ → O → O → G → G → Type 0) (p : Program) (picks : List ℕ) (observer : O) (r : Run A O) (out out' : G) (extent : Extent)
    → IsDriven Seen Adds (λ o. ⊥) p (moves p picks) observer r out out' extent → IsDrivenThrough Seen Adds p picks observer r out out'
unbounded Seen Adds p picks observer r out out' All d = record {
  limit = d.limit;
  run = subst (λ js. IsRun Seen p d.limit js r) d.taken d.run;
  added = subst (λ js. AddsFrom Adds p [] js observer r.observer out out') d.taken d.added;
}
unbounded Seen Adds p picks observer r out out' TooMuch d = absurd d.bounded

nothing_below : (n : ℕ) → 0 ≤ n
nothing_below n = omega arith

-- what was added is of the picks that moved, which are no more than may move
pub all_added : {O G : Type 0} (Adds : Program → List ℕ → ℕ → O → O → G → G → Type 0) (p : Program) (picks : List ℕ) (old new : O) (out out' : G) → AddsFrom Adds p [] (moves p picks) old new out out'
    → AddsFrom Adds p (take 65536 []) (take 65536 (moves p picks)) old new out out'
all_added Adds p picks old new out out' h =
    subst (λ js. AddsFrom Adds p js (take 65536 (moves p picks)) old new out out') (sym (take_all 65536 [] (nothing_below 65536)))
    (subst (λ js. AddsFrom Adds p [] js old new out out') (sym (take_all 65536 (moves p picks) (moves_bounded p picks))) h)

module _ {A G : Type 0} (Adds : Program → List ℕ → ℕ → Recorder A (Lines A) → Recorder A (Lines A) → G → G → Type 0) (p : Program) (picks : List ℕ) (bound : MostBytes) (observer : Recorder A (Lines A)) (r : Run A (Recorder A (Lines A))) (out out' : G) where
  pub lines_fit : IsDriven (HasRecorded AreTexts) Adds (HasMoreBytes bound) p picks observer r out out' All → listing_bytes p picks ≤ bound.bytes
  lines_fit d =
      let here : bytes_in_all (slot_lines r.observer.slots.items) ≡ listing_bytes p picks = recorded_bytes p d.front r.observer d.run.seen ∙ ap (listing_bytes p) d.taken in
      omega (arith, here, at_most bound.bytes (bytes_in_all (slot_lines r.observer.slots.items)) d.bounded)

  pub lines_too_long : IsDriven (HasRecorded AreTexts) Adds (HasMoreBytes bound) p picks observer r out out' TooMuch → bound.bytes < listing_bytes p picks
  lines_too_long d =
      let here : bound.bytes < listing_bytes p d.front = omega (arith, d.bounded, recorded_bytes p d.front r.observer d.run.seen) in
      longer_all p bound.bytes picks d.front d.taken.0 d.taken.1 here

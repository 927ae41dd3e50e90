-- The core through one more pick, and what is read of it.
use Rattle.std.proofs.Common.{◌≡◌, ◌∙◌, ℕ, zero, suc, ◌<◌, ◌≤◌, ◌-◌, List, [], ◌∷◌, ◌++◌, length, map, get_or, Some, None, Option, IfSome, Ok, Err, refl, sym, ap, subst, arith}
use Rattle.std.specs.Prelude.{slice_get}
use Rattle.std.specs.Option.{option_map}
use Rattle.std.specs.Result.{IsOkAnd}
use Rattle.tn_trace.specs.declared.item.StepFault.{StepFault}
use denote.Ref.{Bor}
use Rattle.def_term.specs.Names.{Name}
use Rattle.def_script.specs.Program.{Program}
use Rattle.def_script.specs.Exports.{Exports}
use Rattle.def_run.specs.Run.{HistoryItem, moves, events}
use Rattle.def_script.specs.Exports.{exports_of}
use Rattle.def_script.specs.Script.{creations}
use Rattle.def_run.specs.Listing.{messages}
use Rattle.def_run.proofs.Replay.{moves_bounded}
use Rattle.tn_trace.specs.Tracks.{Track, track_after, tracks_from}
use Rattle.tn_trace.specs.Slots.{IsTracked, EachPair}
use Rattle.tn_trace.specs.Items.{item_seen, AreTerms}
use Rattle.def_term.specs.Tree.{Tree}
use Rattle.tn_program.specs.Views.{program_of}
use Rattle.tn_program.specs.declared.parts.Program as code
use Rattle.tn_trace.specs.Advances.{IsTermRun, IsAdvanceOf, Advances}
use Rattle.tn_trace.specs.Recorders.{HasRecorded, HandsOutAnswer}
use Rattle.tn_trace.specs.Runs.{Steps}
use Rattle.tn_trace.specs.Cores.{CoreValue, core_of, IsOwnRun, spent_core, IsStepOf, Lists, creation_numbered}
use Rattle.tn_trace.specs.declared.item.Answer.{Answer}
use Rattle.tn_trace.specs.declared.item.Answer.TheVariants as answers
use Rattle.tn_trace.specs.declared.item.StepFault.TheVariants as faults
use Rattle.tn_trace.specs.declared.slot.Slot.{Slot}
use Rattle.std.specs.declared.vec.Vec.{Vec}
use Rattle.tn_trace.specs.declared.item.Item.{Item}
use Rattle.tn_trace.specs.declared.run.PickOutcome.{PickOutcome}
use Rattle.tn_trace.specs.declared.run.Run.{Run}
use Rattle.tn_trace.specs.declared.recorder.Recorder.{Recorder}
use Rattle.tn_trace.specs.declared.sinks.Terms.{Terms}
use Rattle.tn_term.specs.Views.{alive_of}
use Rattle.tn_text.specs.WrittenTrees.{written_tree}
use Rattle.tn_text.specs.declared.written_term.WrittenTerm.{WrittenTerm}

-- a full journal has no more than 65,536 entries
pub full_is : (p : Program) (picks : List ℕ) → moves p picks ≡ picks → 65536 ≤ length picks → length picks ≡ 65536
full_is p picks all full =
    let bound : length (moves p picks) ≤ 65536 = moves_bounded p picks in
    let same : length (moves p picks) ≡ length picks = ap length all in
    omega arith

-- what is at a place
pub each_got : {S : Type 0} (P : Track → S → Type 0) (o : Exports) (items : List HistoryItem) (n i : ℕ) (ss : List (Name × Name)) (slots : List S) (slot : S) → EachPair P (tracks_from o items n ss) slots → i < length slots → slot ≡ get_or slots i slot
    → (s : Name × Name) × (k : ℕ) × (slice_get ss i ≡ Some s) × P (track_after o items k s.0) slot
each_got P o items n i [] [] slot h below is = absurd (omega arith)
each_got P o items n i [] (x ∷ slots) slot h below is = absurd h
each_got P o items n i (s ∷ ss) [] slot h below is = absurd h
each_got P o items n zero (s ∷ ss) (x ∷ slots) slot h below is = (s, n, refl, subst (P (track_after o items n s.0)) (sym is) h.0)
each_got P o items n (suc i) (s ∷ ss) (x ∷ slots) slot h below is = each_got P o items (suc n) i ss slots slot h.1 (omega arith) is

pub none_got : {S : Type 0} (P : Track → S → Type 0) (o : Exports) (items : List HistoryItem) (n i : ℕ) (ss : List (Name × Name)) (slots : List S) → EachPair P (tracks_from o items n ss) slots → length slots ≤ i → slice_get ss i ≡ None
none_got P o items n i [] [] h past = refl
none_got P o items n i [] (x ∷ slots) h past = absurd h
none_got P o items n i (s ∷ ss) [] h past = absurd h
none_got P o items n zero (s ∷ ss) (x ∷ slots) h past = absurd (omega arith)
none_got P o items n (suc i) (s ∷ ss) (x ∷ slots) h past = none_got P o items (suc n) i ss slots h.1 (omega arith)

creation_suc : (p : Program) (n : ℕ) → (n ≡ 0 → ⊥) → creation_numbered p n ≡ slice_get (creations p.commands) (n - 1)
creation_suc p zero h = absurd (h refl)
creation_suc p (suc n) h = ap (slice_get (creations p.commands)) (omega arith)

-- the sessions of a recorder by their places
module _ {A K : Type 0} (Keeps : K → List Tree → Type 0) (p : Program) (picks : List ℕ) (r : Recorder A K) (run : HasRecorded Keeps r p picks) where
  sessions_in : (xs : List (Slot A K)) → xs ≡ r.slots.items → EachPair (IsTracked Keeps (exports_of p) (alive_of r.living)) (tracks_from (exports_of p) (events p picks) 1 (creations p.commands)) xs
  sessions_in xs same = subst (EachPair (IsTracked Keeps (exports_of p) (alive_of r.living)) (tracks_from (exports_of p) (events p picks) 1 (creations p.commands))) (sym same) run.sessions

  pub kept_at : (i : ℕ) (xs : List (Slot A K)) (slot : Slot A K) → xs ≡ r.slots.items → i < length xs → slot ≡ get_or xs i slot
      → (s : Name × Name) × (slice_get (creations p.commands) i ≡ Some s) × Keeps slot.kept (messages s.0 p picks)
  kept_at i xs slot same below at =
      let found = each_got (IsTracked Keeps (exports_of p) (alive_of r.living)) (exports_of p) (events p picks) 1 i (creations p.commands) xs slot (sessions_in xs same) below at in
      (found.0, found.2, found.3.kept)

  pub none_at : (i : ℕ) (xs : List (Slot A K)) → xs ≡ r.slots.items → length xs ≤ i → slice_get (creations p.commands) i ≡ None
  none_at i xs same past = none_got (IsTracked Keeps (exports_of p) (alive_of r.living)) (exports_of p) (events p picks) 1 i (creations p.commands) xs (sessions_in xs same) past

-- what a core stands for
abbrev core_seen : {A : Type 0} → code.Program A → Option (Run A (Recorder A (Terms A))) → CoreValue
core_seen program o = record { program = program_of program; journal = option_map (λ r. r.journal.items) o }

-- a core that has a run
module _ {A : Type 0} (program : code.Program A) (o : Option (Run A (Recorder A (Terms A)))) (r : Run A (Recorder A (Terms A))) (v : CoreValue)
    (seen : core_seen program o ≡ v) (owned : IfSome o (IsOwnRun program)) (is : o ≡ Some r) where
  pub run_is : IsOwnRun program r
  run_is = subst (λ x. IfSome x (IsOwnRun program)) is owned

  value_is : core_of (program_of program) r.journal.items ≡ v
  value_is = ap (core_seen program) (sym is) ∙ seen

  pub where_run : (P : CoreValue → List ℕ → Type 0) → P (core_of (program_of program) r.journal.items) r.journal.items → IfSome v.journal (P v)
  where_run P h = subst (λ (w : CoreValue). IfSome w.journal (P w)) value_is h

  -- it isn't spent
  pub not_spent : {Q : Type 0} → v.journal ≡ None → Q
  not_spent none = absurd (cc (ap (λ (w : CoreValue). w.journal) value_is ∙ none))

  pub listed : (n : ℕ) (xs : List (Slot A (Terms A))) (slot : Slot A (Terms A)) (ts : Bor (List (WrittenTerm A))) → (n ≡ 0 → ⊥) → xs ≡ r.observer.slots.items → n - 1 < length xs → slot ≡ get_or xs (n - 1) slot → ts.now ≡ slot.kept.terms.items
      → IfSome v.journal (λ picks. IsOkAnd {E = StepFault} (Ok (Some ts)) (Lists v.program picks n))
  listed n xs slot ts positive same below at terms =
      let found = kept_at AreTerms (program_of program) r.journal.items r.observer run_is.seen (n - 1) xs slot same below at in
      where_run (λ w picks. IsOkAnd {E = StepFault} (Ok (Some ts)) (Lists w.program picks n)) (found.0, creation_suc (program_of program) n positive ∙ found.1, ap (map written_tree) terms ∙ found.2)

  pub unlisted : (n : ℕ) (xs : List (Slot A (Terms A))) → (n ≡ 0 → ⊥) → xs ≡ r.observer.slots.items → length xs ≤ n - 1
      → IfSome v.journal (λ picks. IsOkAnd {E = StepFault} (Ok None) (Lists {A = A} v.program picks n))
  unlisted n xs positive same past =
      where_run (λ w picks. IsOkAnd {E = StepFault} (Ok None) (Lists {A = A} w.program picks n))
      (creation_suc (program_of program) n positive ∙ none_at AreTerms (program_of program) r.journal.items r.observer run_is.seen (n - 1) xs same past)

-- a core that has none is spent
pub where_none : {A : Type 0} (program : code.Program A) (o : Option (Run A (Recorder A (Terms A)))) (v : CoreValue) (P : List ℕ → Type 0) → core_seen program o ≡ v → o ≡ None → IfSome v.journal P
where_none program o v P seen is = subst (λ (w : CoreValue). IfSome w.journal P) (ap (core_seen program) (sym is) ∙ seen) tt

-- a run of some picks is that of its own journal
pub own_run : {A : Type 0} (p : Program) (picks : List ℕ) (r : Run A (Recorder A (Terms A))) → IsTermRun p picks r → IsTermRun p r.journal.items r
own_run p picks r run = subst (λ xs. IsTermRun p xs r) (sym run.journaled) run

-- what a step came to
pub term_steps : {A : Type 0} (p : Program) (picks : List ℕ) (pick : ℕ) (old new : Run A (Recorder A (Terms A))) (items items' : Vec (Item A) A) (a b : PickOutcome) → a ≡ b
    → Steps (HasRecorded AreTerms) (HandsOutAnswer (λ v xs. map item_seen v.items ≡ xs)) p 65536 picks pick a old new items items' → Steps (HasRecorded AreTerms) (HandsOutAnswer (λ v xs. map item_seen v.items ≡ xs)) p 65536 picks pick b old new items items'
term_steps p picks pick old new items items' a b same h = subst (λ d. Steps (HasRecorded AreTerms) (HandsOutAnswer (λ v xs. map item_seen v.items ≡ xs)) p 65536 picks pick d old new items items') same h

-- what the run answers one more pick is what the core answers, and the core afterwards
answered_on : {A : Type 0} (p : Program) (picks : List ℕ) (pick : ℕ) (old new : Run A (Recorder A (Terms A))) (a : Answer A) → IsAdvanceOf p picks pick old new (Ok a) → IsStepOf p picks pick (core_of p new.journal.items) (Ok a)
answered_on p picks pick old new (answers.Moved items) h = record { room = h.0; after = ap (core_of p) h.1.journaled; moved = h.1.moved; answered = h.2 }
answered_on p picks pick old new answers.Idle h = record { room = h.0; after = ap (core_of p) h.1.journaled; moved = h.1.moved; idle = h.2 }

run_after : {A : Type 0} (p : Program) (picks : List ℕ) (pick : ℕ) (old new : Run A (Recorder A (Terms A))) (a : Answer A) → IsAdvanceOf p picks pick old new (Ok a) → IsTermRun p new.journal.items new
run_after p picks pick old new (answers.Moved items) h = own_run p (picks ++ pick ∷ []) new h.1
run_after p picks pick old new answers.Idle h = own_run p picks new h.1

module _ {A : Type 0} (program : code.Program A) (o : Option (Run A (Recorder A (Terms A)))) (r new : Run A (Recorder A (Terms A))) (v : CoreValue)
    (seen : core_seen program o ≡ v) (owned : IfSome o (IsOwnRun program)) (is : o ≡ Some r) (pick : ℕ) where
  pub steps_on : (a : Answer A) → Advances program pick r new (Ok a) → IfSome v.journal (λ picks. IsStepOf v.program picks pick (core_of (program_of program) new.journal.items) (Ok a))
  steps_on a advances =
      where_run program o r v seen owned is (λ w picks. IsStepOf w.program picks pick (core_of (program_of program) new.journal.items) (Ok a))
      (answered_on (program_of program) r.journal.items pick r new a (advances r.journal.items (run_is program o r v seen owned is)))

  pub runs_on : (a : Answer A) → Advances program pick r new (Ok a) → IsOwnRun program new
  runs_on a advances = run_after (program_of program) r.journal.items pick r new a (advances r.journal.items (run_is program o r v seen owned is))

  pub full_on : Advances program pick r new (Err faults.LimitReached) → IfSome v.journal (λ picks. IsStepOf {A = A} v.program picks pick (core_of (program_of program) new.journal.items) (Err faults.LimitReached))
  full_on advances =
      let h = advances r.journal.items (run_is program o r v seen owned is) in
      where_run program o r v seen owned is (λ w picks. IsStepOf {A = A} w.program picks pick (core_of (program_of program) new.journal.items) (Err faults.LimitReached))
      (h.0, ap (λ (k : Run A (Recorder A (Terms A))). core_of (program_of program) k.journal.items) h.1)

  pub full_run : Advances program pick r new (Err faults.LimitReached) → IsOwnRun program new
  full_run advances = let h = advances r.journal.items (run_is program o r v seen owned is) in subst (IsOwnRun program) (sym h.1) (run_is program o r v seen owned is)

  pub never_on : {Q : Type 0} → Advances program pick r new (Err faults.Spent) → Q
  never_on advances = absurd (advances r.journal.items (run_is program o r v seen owned is))

  pub refused_on : Advances program pick r new (Err faults.OutOfMemory) → IfSome v.journal (λ picks. IsStepOf {A = A} v.program picks pick (spent_core (program_of program)) (Err faults.OutOfMemory))
  refused_on advances =
      where_run program o r v seen owned is (λ w picks. IsStepOf {A = A} w.program picks pick (spent_core (program_of program)) (Err faults.OutOfMemory))
      (advances r.journal.items (run_is program o r v seen owned is), refl)

-- What is gathered of what sinks keep.
use Rattle.std.proofs.Common.{◌≡◌, ◌∙◌, ℕ, zero, suc, ◌+◌, ◌<◌, ◌≤◌, List, [], ◌∷◌, ◌++◌, length, map, take, get_or, refl, sym, ap, subst, arith}
use Rattle.std.proofs.lemmas.List.{take_more, take_all}
use Rattle.std.specs.declared.vec.Vec.{Vec}
use Rattle.def_term.specs.Tree.{Tree}
use Rattle.def_explore.specs.Rests.{each_process, all_pids}
use Rattle.tn_messages.specs.MessageViews.{trees_seen, lists_seen}
use Rattle.tn_messages.specs.declared.shared_message.SharedMessage.{SharedMessage}
use Rattle.tn_trace.specs.Slots.{EachPair}
use Rattle.tn_trace.proofs.SinkLemmas.{mapped_more, one_more_seen}
use Rattle.tn_search.specs.Sinks.{AreMessages, AreOfProcesses}
use Rattle.tn_search.specs.declared.total_sink.TotalSink.{TotalSink}
use Rattle.tn_search.specs.declared.process_sink.ProcessSink.{ProcessSink}

-- what is beside the element at a place, and as many are there
pair_at : {T S : Type 0} (P : T → S → Type 0) (ts : List T) (ss : List S) (i : ℕ) (t : T) (s : S) → EachPair P ts ss → i < length ss → s ≡ get_or ss i s → P (get_or ts i t) s
pair_at P [] [] i t s h below is = absurd (omega arith)
pair_at P [] (x ∷ ss) i t s h below is = absurd h
pair_at P (y ∷ ts) [] i t s h below is = absurd h
pair_at P (y ∷ ts) (x ∷ ss) zero t s h below is = subst (P y) (sym is) h.0
pair_at P (y ∷ ts) (x ∷ ss) (suc i) t s h below is = pair_at P ts ss i t s h.1 (omega arith) is

pair_lengths : {T S : Type 0} (P : T → S → Type 0) (ts : List T) (ss : List S) → EachPair P ts ss → length ts ≡ length ss
pair_lengths P [] [] h = refl
pair_lengths P [] (x ∷ ss) h = absurd h
pair_lengths P (y ∷ ts) [] h = absurd h
pair_lengths P (y ∷ ts) (x ∷ ss) h = ap suc (pair_lengths P ts ss h.1)

-- all messages of each
pub all_of_each : {A : Type 0} (mss : List (List Tree)) (sinks : List (TotalSink A)) → EachPair (λ ms k. AreMessages k ms) mss sinks → map (λ (k : TotalSink A). trees_seen k.messages) sinks ≡ mss
all_of_each [] [] h = refl
all_of_each [] (k ∷ sinks) h = absurd h
all_of_each (ms ∷ mss) [] h = absurd h
all_of_each (ms ∷ mss) (k ∷ sinks) h = ap (λ xs. xs ∷ map (λ (k : TotalSink _). trees_seen k.messages) sinks) h.0 ∙ ap (λ xss. ms ∷ xss) (all_of_each mss sinks h.1)

-- those of each process, of the first sinks
abbrev pub AreListsUpTo : {A : Type 0} → ℕ → List (ProcessSink A) → List (Vec (Vec (SharedMessage A) A) A) → Type 0
AreListsUpTo i sinks lists = (mss : List (List Tree)) → EachPair (λ ms k. AreOfProcesses k ms) mss sinks → map lists_seen lists ≡ map (each_process all_pids) (take i mss)

pub no_lists : {A : Type 0} (sinks : List (ProcessSink A)) → AreListsUpTo 0 sinks []
no_lists sinks mss h = refl

pub lists_more : {A : Type 0} (i : ℕ) (sinks : List (ProcessSink A)) (sink : ProcessSink A) (lists new : List (Vec (Vec (SharedMessage A) A) A)) (one : Vec (Vec (SharedMessage A) A) A) → i < length sinks → sink ≡ get_or sinks i sink → new ≡ lists ++ one ∷ []
    → ((ms : List Tree) → AreOfProcesses sink ms → lists_seen one ≡ each_process all_pids ms) → AreListsUpTo i sinks lists → AreListsUpTo (i + 1) sinks new
lists_more i sinks sink lists new one below is added gives so_far mss h =
    let ms : List Tree = get_or mss i [] in
    let long : length mss ≡ length sinks = pair_lengths (λ xs k. AreOfProcesses k xs) mss sinks h in
    one_more_seen lists_seen lists new one (each_process all_pids ms) (map (each_process all_pids) (take i mss)) added (gives ms (pair_at (λ xs k. AreOfProcesses k xs) mss sinks i [] sink h below is)) (so_far mss h)
    ∙ sym (ap (map (each_process all_pids)) (take_more mss i [] (omega arith)) ∙ mapped_more (each_process all_pids) (take i mss) ms)

pub all_lists : {A : Type 0} (i : ℕ) (sinks : List (ProcessSink A)) (lists : List (Vec (Vec (SharedMessage A) A) A)) → length sinks ≤ i → AreListsUpTo i sinks lists → (mss : List (List Tree)) → EachPair (λ ms k. AreOfProcesses k ms) mss sinks
    → map lists_seen lists ≡ map (each_process all_pids) mss
all_lists i sinks lists past so_far mss h =
    let long : length mss ≡ length sinks = pair_lengths (λ xs k. AreOfProcesses k xs) mss sinks h in
    so_far mss h ∙ ap (map (each_process all_pids)) (take_all i mss (omega arith))

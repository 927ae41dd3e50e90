-- What is remarked of a run, session by session, move by move, and its lines.
use Rattle.std.proofs.Common.{◌≡◌, ◌∙◌, ℕ, zero, suc, ◌+◌, ◌-◌, ◌<◌, ◌≤◌, Bool, true, false, if◌then◌else◌, List, [], ◌∷◌, ◌++◌, map, take, drop, length, get_or, flat_map, slice_get, Option, Some, None, refl, sym, ap, ap₂, subst, append-nil, append_assoc, add-one, arith}
use Rattle.std.proofs.lemmas.List.{take_all, map-append}
use Rattle.std.specs.Option.{option_map}
use Rattle.std.specs.declared.vec.Vec.{Vec}
use Rattle.std.specs.Str.{bytes_eq}
use Rattle.def_term.specs.Alive.{Alive}
use Rattle.def_term.specs.Names.{Name}
use Rattle.def_script.specs.Program.{Program, Command, session_of}
use Rattle.def_script.specs.Exports.{Exports, exports_of}
use Rattle.def_node.specs.Event.{Event}
use Rattle.def_session.specs.State.{absent_session}
use Rattle.def_run.specs.Run.{HistoryItem, event_item, command_item, PickStep, moves, run_state_of, pick_step_after}
use Rattle.def_run.specs.History.{NamedSession, session_in, moments_from}
use Rattle.def_run.proofs.Replay.{moves_bounded}
use Rattle.def_explain.specs.CommandReasons.{CommandReason, command_reason}
use Rattle.def_explain.specs.Remarks.{reasons_in, run_reasons, remarks_after, remarks, is_some_remark, has_remarks, has_traps, has_reason_line, reply_and_reason}
use Rattle.def_explain.proofs.Remarks.{reasons_by, reasons_from, of_moments, of_events, reasons_by_picks, reasons_again, moves_have_the_remarks, nothing_after_commands, no_reason_line_no_remark}
use Rattle.def_run.specs.Listing.{replies, lines_of}
use Rattle.def_text.specs.Tokens.{TokenSpan, Tokens}
use Rattle.def_text.proofs.Unique.{same_tokens}
use Rattle.def_explain.specs.CommandPlaces.{before_form, command_starts}
use Rattle.tn_remark.specs.TextLines.{text_line, lines_of_texts, text_seen, texts_seen}
use Rattle.tn_trace.specs.Transcripts.{TranscriptValue, transcript_of}
use Rattle.tn_trace.specs.Observers.{IsNextMove, SeesMove}
use Rattle.tn_trace.specs.Follows.{AddsEach, AddsFrom}
use Rattle.tn_trace.specs.Slots.{EachPair}
use Rattle.tn_trace.specs.declared.journal.JournalEntry.{JournalEntry}
use Rattle.tn_trace.specs.declared.slot.Slot.{Slot}
use Rattle.tn_trace.proofs.Moves.{place_more}
use Rattle.tn_trace.specs.NamedSessions.{sessions_after}
use Rattle.tn_trace.specs.NamedSessions.{HasState}
use Rattle.tn_replay.specs.RemarkedSessions.{has_some, HasRemarked, AddsReasons}
use Rattle.tn_replay.specs.RemarkLines.{remark_line, IsFrontOfPicks, AreRemarkLines}
use Rattle.tn_trace.specs.declared.discard.Discard.{Discard}
use Rattle.tn_replay.specs.declared.remark_observer.RemarkObserver.{RemarkObserver}
use Rattle.tn_trace.proofs.NamedSessions.{sessions_more}

-- ---- the session of a command

-- the session beside a slot
there : {A : Type 0} (o : Exports) (living : Alive) (ss : List NamedSession) (slots : List (Slot A Discard)) (i : ℕ) (slot : Slot A Discard) → EachPair (HasState o living) ss slots → i < length slots → slot ≡ get_or slots i slot
    → (s : NamedSession) × (drop i ss ≡ s ∷ drop (suc i) ss) × HasState o living s slot
there o living [] [] i slot h below is = absurd (omega arith)
there o living [] (t ∷ ts) i slot h below is = absurd h
there o living (s ∷ ss) [] i slot h below is = absurd h
there o living (s ∷ ss) (t ∷ ts) zero slot h below is = (s, refl, subst (HasState o living s) (sym is) h.0)
there o living (s ∷ ss) (t ∷ ts) (suc i) slot h below is = there o living ss ts i slot h.1 (omega arith) is

none_there : {A : Type 0} (o : Exports) (living : Alive) (ss : List NamedSession) (slots : List (Slot A Discard)) (i : ℕ) → EachPair (HasState o living) ss slots → length slots ≤ i → drop i ss ≡ []
none_there o living [] [] zero h past = refl
none_there o living [] [] (suc i) h past = refl
none_there o living [] (t ∷ ts) i h past = absurd h
none_there o living (s ∷ ss) [] i h past = absurd h
none_there o living (s ∷ ss) (t ∷ ts) zero h past = absurd (omega arith)
none_there o living (s ∷ ss) (t ∷ ts) (suc i) h past = none_there o living ss ts i h.1 (omega arith)

-- the first of some sessions has the name, or hasn't
first_named : (o : Exports) (n : Name) (s : NamedSession) (ss : List NamedSession) (b : Bool) → bytes_eq n s.0 ≡ b → session_in o n (s ∷ ss) ≡ (if b then s.1 else session_in o n ss)
first_named o n s ss b e = ap (λ c. if c then s.1 else session_in o n ss) e

pub named_here : {A : Type 0} (o : Exports) (living : Alive) (n : Name) (ss : List NamedSession) (slots : List (Slot A Discard)) (i : ℕ) (slot : Slot A Discard) → EachPair (HasState o living) ss slots → i < length slots → slot ≡ get_or slots i slot
    → bytes_eq n slot.name ≡ true → session_in o n (drop i ss) ≡ session_in o n ss → (s : NamedSession) × HasState o living s slot × (s.1 ≡ session_in o n ss)
named_here o living n ss slots i slot h below is named so_far =
    let t = there o living ss slots i slot h below is in
    let own : bytes_eq n t.0.0 ≡ true = ap (bytes_eq n) (sym t.2.name) ∙ named in
    (t.0, t.2, sym (first_named o n t.0 (drop (suc i) ss) true own) ∙ ap (session_in o n) (sym t.1) ∙ so_far)

pub named_later : {A : Type 0} (o : Exports) (living : Alive) (n : Name) (ss : List NamedSession) (slots : List (Slot A Discard)) (i : ℕ) (slot : Slot A Discard) → EachPair (HasState o living) ss slots → i < length slots → slot ≡ get_or slots i slot
    → bytes_eq n slot.name ≡ false → session_in o n (drop i ss) ≡ session_in o n ss → session_in o n (drop (i + 1) ss) ≡ session_in o n ss
named_later o living n ss slots i slot h below is other so_far =
    let t = there o living ss slots i slot h below is in
    let own : bytes_eq n t.0.0 ≡ false = ap (bytes_eq n) (sym t.2.name) ∙ other in
    ap (λ k. session_in o n (drop k ss)) (add-one i) ∙ sym (first_named o n t.0 (drop (suc i) ss) false own) ∙ ap (session_in o n) (sym t.1) ∙ so_far

pub not_named : {A : Type 0} (o : Exports) (living : Alive) (n : Name) (ss : List NamedSession) (slots : List (Slot A Discard)) (i : ℕ) → EachPair (HasState o living) ss slots → length slots ≤ i
    → session_in o n (drop i ss) ≡ session_in o n ss → absent_session o ≡ session_in o n ss
not_named o living n ss slots i h past so_far = sym (ap (session_in o n) (none_there o living ss slots i h past)) ∙ so_far

-- ---- a move

abbrev pub said : List (Option CommandReason) → List (Option (List ℕ))
said rs = map (option_map reply_and_reason) rs

-- the observer saw a move that shows this
pub move_remarked : {A : Type 0} (p : Program) (picks : List ℕ) (entry : JournalEntry) (shown : List HistoryItem) (old new : RemarkObserver A) (out out' : Vec (Option (Vec ℕ A)) A) → IsNextMove p picks entry shown
    → HasRemarked new p (picks ++ entry.pick ∷ [])
    → texts_seen out'.items ≡ texts_seen out.items ++ said (reasons_in (exports_of p) (moments_from (exports_of p) 0 0 (sessions_after p picks) shown))
    → SeesMove HasRemarked AddsReasons p picks entry.pick old new out out'
move_remarked p picks entry shown old new out out' next sessions written =
    let o : Exports = exports_of p in
    let ss : List NamedSession = sessions_after p picks in
    record {
      after = sessions;
      added = written ∙ ap (λ xs. texts_seen out.items ++ said (reasons_in o (moments_from o 0 0 ss xs))) (sym next.shows);
    }

-- of events nothing is said
pub events_said : (o : Exports) (ss : List NamedSession) (es : List Event) (texts : List (Option (List ℕ))) → texts ≡ texts ++ said (reasons_in o (moments_from o 0 0 ss (map event_item es)))
events_said o ss es texts = sym (ap (λ rs. texts ++ said rs) (of_moments o [] 0 0 ss (map event_item es) ∙ of_events o [] ss es) ∙ append-nil texts)

-- of a command its reason
pub command_said : {A : Type 0} (o : Exports) (ss : List NamedSession) (c : Command) (out out' : List (Option (Vec ℕ A))) (text : Option (Vec ℕ A)) (r : Option CommandReason) → out' ≡ out ++ text ∷ [] → text_seen text ≡ option_map reply_and_reason r
    → r ≡ command_reason o (session_in o (session_of c) ss) c → texts_seen out' ≡ texts_seen out ++ said (reasons_in o (moments_from o 0 0 ss (command_item c ∷ [])))
command_said o ss c out out' text r added is because =
    ap texts_seen added ∙ map-append text_seen out (text ∷ []) ∙ ap (λ t. texts_seen out ++ t ∷ []) (is ∙ ap (option_map reply_and_reason) because)

-- ---- all picks

abbrev later : Program → List ℕ → List ℕ → List (Option CommandReason)
later p picks rest = reasons_from (exports_of p) p.functions (run_state_of p picks) (sessions_after p picks) rest

remarked : {A : Type 0} (p : Program) (more picks : List ℕ) (old new : RemarkObserver A) (out out' : Vec (Option (Vec ℕ A)) A) → AddsEach AddsReasons p picks more old new out out' → texts_seen out'.items ≡ texts_seen out.items ++ said (later p picks more)
remarked p [] picks old new out out' h = ap (λ (v : Vec _ _). texts_seen v.items) h.1 ∙ sym (append-nil (texts_seen out.items))
remarked p (pick ∷ more) picks old new out out' h =
    let o : Exports = exports_of p in
    let t : PickStep = pick_step_after p picks pick in
    let here : List (Option CommandReason) = reasons_by o p.functions (sessions_after p picks) t.shown in
    remarked p more (picks ++ pick ∷ []) h.0 new h.1 out' h.3
    ∙ ap (λ l. l ++ said (later p (picks ++ pick ∷ []) more)) (h.2 ∙ ap (λ rs. texts_seen out.items ++ said rs) (of_moments o p.functions 0 0 (sessions_after p picks) t.shown))
    ∙ append_assoc (texts_seen out.items) (said here) (said (later p (picks ++ pick ∷ []) more))
    ∙ ap (λ l. texts_seen out.items ++ l) (sym (map-append (option_map reply_and_reason) here (later p (picks ++ pick ∷ []) more)))
    ∙ ap (λ q. texts_seen out.items ++ said (here ++ reasons_from o p.functions q (sessions_after p (picks ++ pick ∷ [])) more)) (place_more p picks pick)
    ∙ ap (λ ss. texts_seen out.items ++ said (here ++ reasons_from o p.functions t.after ss more)) (sessions_more p picks pick)

-- what was added of a whole run
pub run_remarked : {A : Type 0} (p : Program) (picks : List ℕ) (old new : RemarkObserver A) (out out' : Vec (Option (Vec ℕ A)) A) → AddsFrom AddsReasons p (take 65536 []) (take 65536 (moves p picks)) old new out out'
    → texts_seen out'.items ≡ texts_seen out.items ++ said (run_reasons p picks)
run_remarked p picks old new out out' h =
    let none : take 65536 [] ≡ [] = take_all 65536 [] (nothing_below 65536) in
    let all : moves p picks ≡ h.more = sym (take_all 65536 (moves p picks) (moves_bounded p picks)) ∙ h.longer ∙ ap (λ js. js ++ h.more) none in
    remarked p h.more [] old new out out' (subst (λ js. AddsEach AddsReasons p js h.more old new out out') none h.added)
    ∙ ap (λ js. texts_seen out.items ++ said (later p [] js)) (sym all)
    ∙ ap (λ rs. texts_seen out.items ++ said rs) (sym (reasons_by_picks p (moves p picks)) ∙ reasons_again p picks)
  where
    nothing_below : (n : ℕ) → 0 ≤ n
    nothing_below n = omega arith

-- ---- whether something is remarked, and its lines

some_after : (n : ℕ) (rs : List (Option CommandReason)) → has_some (said rs) ≡ is_some_remark (remarks_after n rs)
some_after n [] = refl
some_after n (None ∷ rs) = some_after (suc n) rs
some_after n (Some r ∷ rs) = refl

pub some_said : (p : Program) (picks : List ℕ) → has_some (said (run_reasons p picks)) ≡ is_some_remark (remarks p picks)
some_said p picks = some_after 0 (run_reasons p picks)

lines_after : (name bytes starts : List ℕ) (n : ℕ) (rs : List (Option CommandReason)) → lines_of_texts name bytes starts n (said rs) ≡ flat_map (remark_line name bytes starts) (remarks_after n rs)
lines_after name bytes starts n [] = refl
lines_after name bytes starts n (None ∷ rs) = lines_after name bytes starts (suc n) rs
lines_after name bytes starts n (Some r ∷ rs) =
    let at : n ≡ suc n - 1 = omega arith in
    ap₂ (λ k l. text_line name bytes (slice_get starts k) (suc n) (reply_and_reason r) ++ l) at (lines_after name bytes starts (suc n) rs)

pub lines_said : (name bytes starts : List ℕ) (p : Program) (picks : List ℕ) → lines_of_texts name bytes starts 0 (said (run_reasons p picks)) ≡ flat_map (remark_line name bytes starts) (remarks p picks)
lines_said name bytes starts p picks = lines_after name bytes starts 0 (run_reasons p picks)

-- ---- the picks that are needed

-- the picks up to the last command give the same
pub front_has : (p : Program) (picks front : List ℕ) → IsFrontOfPicks picks front → remarks p front ≡ remarks p picks
front_has p picks front h = sym (nothing_after_commands p front h.0 h.2) ∙ ap (remarks p) (sym h.1)

-- where no line of the replies begins as one with a reason, and no specification has a trap
pub quiet_run : (p : Program) (picks text : List ℕ) (t : TranscriptValue) → t ≡ transcript_of p picks → text ≡ t.replied → has_reason_line true text ≡ false → has_traps p ≡ false → false ≡ has_remarks p picks
quiet_run p picks text t is at none no_trap =
    let lines : text ≡ lines_of (replies p picks) = at ∙ ap (λ (u : TranscriptValue). u.replied) is in
    sym (ap is_some_remark (no_reason_line_no_remark p picks (ap (has_reason_line true) (sym lines) ∙ none) no_trap))

-- the journal up to the last command
pub journal_has : (p : Program) (picks journal front : List ℕ) (t : TranscriptValue) → t ≡ transcript_of p picks → journal ≡ t.journal → IsFrontOfPicks journal front → remarks p front ≡ remarks p picks
journal_has p picks journal front t is at h =
    front_has p journal front h ∙ ap (remarks p) (at ∙ ap (λ (u : TranscriptValue). u.journal) is) ∙ moves_have_the_remarks p picks

-- ---- the lines of a text

pub lines_are : (name bytes starts first lines : List ℕ) (ts : List (Option (List ℕ))) (p : Program) (picks front : List ℕ) → IsFrontOfPicks picks front → first ≡ [] → lines ≡ first ++ lines_of_texts name bytes starts 0 ts → ts ≡ said (run_reasons p front)
    → (xs : List TokenSpan) × Tokens bytes xs × (starts ≡ command_starts before_form xs) → AreRemarkLines name bytes (remarks p picks) lines
lines_are name bytes starts first lines ts p picks front h none written texts begin = λ l.
    let same : begin.0 ≡ l.tokens = same_tokens 0 bytes begin.0 l.tokens begin.1 l.are in
    written ∙ ap (λ f. f ++ lines_of_texts name bytes starts 0 ts) none ∙ ap (lines_of_texts name bytes starts 0) texts ∙ lines_said name bytes starts p front
    ∙ ap₂ (λ b rs. flat_map (remark_line name bytes b) rs) (begin.2 ∙ ap (command_starts before_form) same) (front_has p picks front h)

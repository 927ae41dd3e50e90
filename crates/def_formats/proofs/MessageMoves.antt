-- Each message has its move.
use Rattle.std.proofs.Common.{◌≡◌, ◌∙◌, ◌⊎◌, inl, inr, ℕ, zero, suc, ◌-◌, ◌<◌, ◌≤◌, List, [], ◌∷◌, ◌++◌, length, take, get_or, replicate, filter, refl, sym, ap, subst, length-append, take_all, take-suc, arith}
use Rattle.std.proofs.lemmas.Bool.{cases_lt}
use Rattle.std.proofs.lemmas.List.{length-replicate, get_or-replicate, get_or_append_left, get_or-append_right}
use Rattle.def_term.specs.Tree.{Tree, pid}
use Rattle.def_term.specs.Names.{Name, word}
use Rattle.def_term.specs.Text.{is_written_bare}
use Rattle.def_script.specs.Program.{Program}
use Rattle.def_script.specs.Exports.{Exports, exports_of}
use Rattle.def_session.specs.State.{absent_session}
use Rattle.def_run.specs.Run.{HistoryItem, history_from, run_state_after, start, events, moves}
use Rattle.def_run.specs.View.{is_own}
use Rattle.def_run.specs.Listing.{messages, messages_from, session_after}
use Rattle.def_run.proofs.Appends.{shown-append, own-append, messages-append}
use Rattle.def_run.proofs.Replay.{events_again}
use Rattle.def_run.proofs.Samples.{creates, sets, script_a}
use Rattle.def_formats.specs.MessageMoves.{message_count_after, moves_by, moves_of_messages}
use Rattle.def_formats.specs.Laws.{EachMessageHasItsMove}

-- ---- worked rows

-- the fourth move is the send
moves_of_send_hi : moves_of_messages (script_a (pid 101) (creates "s1" "t1" ∷ sets "s1" (word "all") ("send" ∷ []) ∷ [])) (0 ∷ 0 ∷ 100 ∷ 100 ∷ []) ≡ (4 ∷ []) ∷ []
unfolding is_written_bare
moves_of_send_hi = refl

-- idle picks are no moves
moves_with_idle_picks : moves_of_messages (script_a (pid 101) (creates "s1" "t1" ∷ sets "s1" (word "all") ("send" ∷ []) ∷ [])) (0 ∷ 999 ∷ 0 ∷ 100 ∷ 999 ∷ 100 ∷ []) ≡ (4 ∷ []) ∷ []
unfolding is_written_bare
moves_with_idle_picks = refl

-- ---- numbers that grow

-- none is greater than the next one, up to the n-th
abbrev pub Grows : (ℕ → ℕ) → ℕ → Type 0
Grows counts n = (k : ℕ) → k < n → counts k ≤ counts (suc k)

pub moves_length : (counts : ℕ → ℕ) (n : ℕ) → counts 0 ≡ 0 → Grows counts n → length (moves_by counts n) ≡ counts n
moves_length counts zero none grows = sym none
moves_length counts (suc n) none grows =
    let before = moves_length counts n none (λ k l. grows k (omega (arith, l))) in
    let more = grows n (omega arith) in
    length-append (moves_by counts n) (replicate (counts (suc n) - counts n) (suc n))
    ∙ omega (arith, before, more, length-replicate (counts (suc n) - counts n) (suc n))

-- the place is after so many, and before so many
record IsBetween (counts : ℕ → ℕ) (n k m : ℕ) : Type 0 where
  within : m ≤ n
  before : counts (m - 1) ≤ k
  after : k < counts m

later : (counts : ℕ → ℕ) (n k m : ℕ) → IsBetween counts n k m → IsBetween counts (suc n) k m
later counts n k m h = record { within = omega (arith, h.within); before = h.before; after = h.after }

last : (counts : ℕ → ℕ) (n k : ℕ) → counts n ≤ k → k < counts (suc n) → IsBetween counts (suc n) k (suc n)
last counts n k b a =
    let one_less : n ≡ suc n - 1 = omega arith in
    record { within = omega arith; before = subst (λ j. counts j ≤ k) one_less b; after = a }

-- the place of k, before or after the last number, given that of each before the last one
by_place : (counts : ℕ → ℕ) (n k : ℕ) → counts 0 ≡ 0 → Grows counts (suc n) → ((k < counts n) → IsBetween counts n k (get_or (moves_by counts n) k 0)) → k < counts (suc n)
    → (k < counts n) ⊎ (counts n ≤ k) → IsBetween counts (suc n) k (get_or (moves_by counts (suc n)) k 0)
by_place counts n k none grows before l place = placed place
  where
    own : List ℕ
    own = replicate (counts (suc n) - counts n) (suc n)

    size : length (moves_by counts n) ≡ counts n
    size = moves_length counts n none (λ j i. grows j (omega (arith, i)))

    placed : (k < counts n) ⊎ (counts n ≤ k) → IsBetween counts (suc n) k (get_or (moves_by counts (suc n)) k 0)
    placed (inl h) =
        subst (IsBetween counts (suc n) k) (sym (get_or_append_left (moves_by counts n) own 0 k (omega (arith, size, h)))) (later counts n k (get_or (moves_by counts n) k 0) (before h))
    placed (inr h) =
        let there : get_or (moves_by counts (suc n)) k 0 ≡ suc n =
        get_or-append_right (moves_by counts n) own (counts n) k 0 size h
        ∙ get_or-replicate (counts (suc n) - counts n) (k - counts n) (suc n) 0 (omega (arith, h, l)) in
        subst (IsBetween counts (suc n) k) (sym there) (last counts n k h l)

move_at : (counts : ℕ → ℕ) (n : ℕ) → counts 0 ≡ 0 → Grows counts n → (k : ℕ) → k < counts n → IsBetween counts n k (get_or (moves_by counts n) k 0)
move_at counts zero none grows k l = absurd (omega (arith, none, l))
move_at counts (suc n) none grows k l =
    by_place counts n k none grows (λ h. move_at counts n none (λ j i. grows j (omega (arith, i))) k h) l (cases_lt k (counts n))

-- ---- messages

more_messages : (s : Name) (p : Program) (xs ys : List ℕ) → length (messages s p xs) ≤ length (messages s p (xs ++ ys))
more_messages s p xs ys =
    let o : Exports = exports_of p in
    let next : List HistoryItem = history_from p.functions (run_state_after p.functions (start p) xs) ys in
    let own : List HistoryItem = filter (is_own s) (events p xs) in
    let more : List Tree = messages_from o (session_after o (absent_session o) own) (filter (is_own s) next) in
    let seen : filter (is_own s) (events p (xs ++ ys)) ≡ own ++ filter (is_own s) next = ap (filter (is_own s)) (shown-append p.functions (start p) xs ys) ∙ own-append s (events p xs) next in
    let grown : messages s p (xs ++ ys) ≡ messages s p xs ++ more = ap (messages_from o (absent_session o)) seen ∙ messages-append o (absent_session o) own (filter (is_own s) next) in
    omega (arith, ap length grown, length-append (messages s p xs) more)

pub counts_grow : (s : Name) (p : Program) (picks : List ℕ) → Grows (message_count_after s p picks) (length picks)
counts_grow s p picks k l =
    subst (λ ps. message_count_after s p picks k ≤ length (messages s p ps)) (sym (take-suc picks k 0 l)) (more_messages s p (take k picks) (get_or picks k 0 ∷ []))

counted : (s : Name) (p : Program) (picks : List ℕ) → message_count_after s p (moves p picks) (length (moves p picks)) ≡ length (messages s p picks)
counted s p picks =
    let o : Exports = exports_of p in
    ap (λ ps. length (messages s p ps)) (take_all (length (moves p picks)) (moves p picks) (omega arith))
    ∙ ap (λ h. length (messages_from o (absent_session o) (filter (is_own s) h))) (events_again p picks)

pub each_message_has_its_move : EachMessageHasItsMove
each_message_has_its_move s p picks =
    let moved : List ℕ = moves p picks in
    let counts : ℕ → ℕ = message_count_after s p moved in
    let whole : counts (length moved) ≡ length (messages s p picks) = counted s p picks in
    let grows : Grows counts (length moved) = counts_grow s p moved in
    (moves_length counts (length moved) refl grows ∙ whole, λ k l. let h = move_at counts (length moved) refl grows k (omega (arith, whole, l)) in record { moved = h.within; before = h.before; after = h.after })

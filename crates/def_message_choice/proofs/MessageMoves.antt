-- The move at which a session sends its message of a number, and its account.
use Rattle.std.proofs.Common.{◌≡◌, ◌∙◌, ◌⊎◌, inl, inr, ◌+◌, ◌<◌, ℕ, zero, suc, Bool, true, false, ◌&&◌, if◌then◌else◌, Option, Some, None, List, [], ◌∷◌, ◌++◌, length, take, refl, sym, ap, subst, append-nil, append_assoc, length-append, arith}
use Rattle.std.specs.Prelude.{flat_map, filter, slice_get, codes}
use Rattle.std.specs.Option.{is_some}
use Rattle.def_term.specs.Tree.{Tree}
use Rattle.def_term.specs.Names.{Name}
use Rattle.def_script.specs.Program.{Function, Program}
use Rattle.def_script.specs.Exports.{Exports, exports_of}
use Rattle.def_outlook.specs.Outlook.{Outlook, outlook}
use Rattle.def_session.specs.State.{absent_session}
use Rattle.def_run.specs.Run.{HistoryItem, RunState, PickStep, pick_step, moves_from, start, moves}
use Rattle.def_run.specs.View.{is_own}
use Rattle.def_run.specs.Listing.{messages, messages_from}
use Rattle.def_run.specs.History.{NamedSession, MoveHistory, all_after_items, moments_from, move_history, move_histories_from, named_sessions}
use Rattle.def_run.proofs.Replay.{events_again}
use Rattle.def_explain.specs.Runs.{AccountEntry, shows, shows_nothing, makes, entries_of_moments}
use Rattle.def_explain.specs.RunTexts.{Filter, is_session, is_move, item_text, filter_entries, entry_text, account_text}
use Rattle.def_explain.proofs.Mismatches.{self_equal}
use Rattle.def_explore.proofs.Alike.{messages_on}
use Rattle.def_message_choice.specs.MessageNumbers.{message_of_number, SendsAtMove, move_after, move_of_message}
use Rattle.def_message_choice.specs.ChosenAccounts.{text_of_number}
use Rattle.def_message_choice.specs.Laws.{MoveOfMessageIsComputed, NoMoveWhereNoMessage, NoAccountWhereNoMessage}
use Rattle.def_message_choice.proofs.Accounts.{no-begin, no-end, some-text}

-- ---- listings only grow

get-kept : (ts us : List Tree) (i : ℕ) (t : Tree) → slice_get ts i ≡ Some t → slice_get (ts ++ us) i ≡ Some t
get-kept [] us i t h = absurd (cc h)
get-kept (x ∷ ts) us zero t h = h
get-kept (x ∷ ts) us (suc i) t h = get-kept ts us i t h

number-kept : (k : ℕ) (ts us : List Tree) (t : Tree) → message_of_number k ts ≡ Some t → message_of_number k (ts ++ us) ≡ Some t
number-kept zero ts us t h = absurd (cc h)
number-kept (suc i) ts us t h = get-kept ts us i t h

module _ (s : Name) (k : ℕ) (p : Program) where
  -- the k-th message after some moves
  abbrev at : List ℕ → Option Tree
  at js = message_of_number k (messages s p js)

  none-before : (js more : List ℕ) → at (js ++ more) ≡ None → at js ≡ None
  none-before js more h = go (at js) refl
    where
      go : (x : Option Tree) → at js ≡ x → at js ≡ None
      go None e = e
      go (Some t) e =
          let grown = messages_on s p js more in
          absurd (cc (sym (number-kept k (messages s p js) _ t e) ∙ sym (ap (message_of_number k) grown) ∙ h))

  none-at-start : at [] ≡ None
  none-at-start = go k
    where
      go : (n : ℕ) → message_of_number n [] ≡ None
      go zero = refl
      go (suc i) = refl

  -- ---- the move

  -- of later moves: so many come before it
  record IsAfter (before later : List ℕ) (m : ℕ) : Type 0 where
    earlier : ℕ
    below : earlier < length later
    next : m ≡ suc (length before + earlier)
    none : at (before ++ take earlier later) ≡ None
    message : Tree
    sent : at (before ++ take (suc earlier) later) ≡ Some message

  found : (before later : List ℕ) (m : ℕ) → at before ≡ None → move_after s k p before later ≡ Some m → IsAfter before later m
  found before [] m none h = absurd (cc h)
  found before (pick ∷ later) m none h = go (at (before ++ pick ∷ [])) refl h (found (before ++ pick ∷ []) later m)
    where
      go : (x : Option Tree) → at (before ++ pick ∷ []) ≡ x → (if is_some x then Some (suc (length before)) else move_after s k p (before ++ pick ∷ []) later) ≡ Some m
          → (at (before ++ pick ∷ []) ≡ None → move_after s k p (before ++ pick ∷ []) later ≡ Some m → IsAfter (before ++ pick ∷ []) later m) → IsAfter before (pick ∷ later) m
      go (Some t) e is again =
          let number : suc (length before) ≡ m = cc is in
          record { earlier = 0; below = omega arith; next = omega (arith, number); none = ap at (append-nil before) ∙ none; message = t; sent = e }
      go None e is again =
          let r = again e is in
          let longer = length-append before (pick ∷ []) in
          record {
            earlier = suc r.earlier;
            below = omega (arith, r.below);
            next = omega (arith, r.next, longer);
            none = ap at (sym (append_assoc before (pick ∷ []) (take r.earlier later))) ∙ r.none;
            message = r.message;
            sent = ap at (sym (append_assoc before (pick ∷ []) (take (suc r.earlier) later))) ∙ r.sent;
          }

  sure : (before later : List ℕ) (m j : ℕ) (t : Tree) → j < length later → m ≡ suc (length before + j) → at (before ++ take j later) ≡ None → at (before ++ take (suc j) later) ≡ Some t → move_after s k p before later ≡ Some m
  sure before [] m j t below next none sent = absurd (omega (arith, below))
  sure before (pick ∷ later) m zero t below next none sent =
      let number : suc (length before) ≡ m = omega (arith, next) in
      ap (λ x. if is_some x then Some (suc (length before)) else move_after s k p (before ++ pick ∷ []) later) sent ∙ ap Some number
  sure before (pick ∷ later) m (suc j) t below next none sent =
      let here : at ((before ++ pick ∷ []) ++ take j later) ≡ None = ap at (append_assoc before (pick ∷ []) (take j later)) ∙ none in
      let there : at ((before ++ pick ∷ []) ++ take (suc j) later) ≡ Some t = ap at (append_assoc before (pick ∷ []) (take (suc j) later)) ∙ sent in
      let longer = length-append before (pick ∷ []) in
      let number : m ≡ suc (length (before ++ pick ∷ []) + j) = omega (arith, next, longer) in
      ap (λ x. if is_some x then Some (suc (length before)) else move_after s k p (before ++ pick ∷ []) later) (none-before (before ++ pick ∷ []) (take j later) here)
      ∙ sure (before ++ pick ∷ []) later m j t (omega (arith, below)) number here there

  none-found : (before later : List ℕ) → at before ≡ None → move_after s k p before later ≡ None → at (before ++ later) ≡ None
  none-found before [] none h = ap at (append-nil before) ∙ none
  none-found before (pick ∷ later) none h = go (at (before ++ pick ∷ [])) refl h (none-found (before ++ pick ∷ []) later)
    where
      go : (x : Option Tree) → at (before ++ pick ∷ []) ≡ x → (if is_some x then Some (suc (length before)) else move_after s k p (before ++ pick ∷ []) later) ≡ None
          → (at (before ++ pick ∷ []) ≡ None → move_after s k p (before ++ pick ∷ []) later ≡ None → at ((before ++ pick ∷ []) ++ later) ≡ None) → at (before ++ pick ∷ later) ≡ None
      go (Some t) e is again = absurd (cc is)
      go None e is again = ap at (sym (append_assoc before (pick ∷ []) later)) ∙ again e is

  none-to-find : (before later : List ℕ) → at (before ++ later) ≡ None → move_after s k p before later ≡ None
  none-to-find before [] h = refl
  none-to-find before (pick ∷ later) h =
      let whole : at ((before ++ pick ∷ []) ++ later) ≡ None = ap at (append_assoc before (pick ∷ []) later) ∙ h in
      ap (λ x. if is_some x then Some (suc (length before)) else move_after s k p (before ++ pick ∷ []) later) (none-before (before ++ pick ∷ []) later whole)
      ∙ none-to-find (before ++ pick ∷ []) later whole

  -- the picks that moved have the same listing
  at-again : (picks : List ℕ) → at (moves p picks) ≡ at picks
  at-again picks = ap (λ items. message_of_number k (messages_from (exports_of p) (absent_session (exports_of p)) (filter (is_own s) items))) (events_again p picks)

pub move_of_message_is_computed : MoveOfMessageIsComputed
move_of_message_is_computed s k p picks m = (there, back)
  where
    there : move_of_message s k p picks ≡ Some m → (t : Tree) × SendsAtMove s k p picks m t
    there h =
        let r = found s k p [] (moves p picks) m (none-at-start s k p) h in
        let number : m ≡ suc r.earlier = omega (arith, r.next) in (
          r.message,
          record {
            earlier = r.earlier;
            next = number;
            moves_so = r.below;
            none_before = r.none;
            sent = ap (λ n. message_of_number k (messages s p (take n (moves p picks)))) number ∙ r.sent;
          },
        )

    back : (t : Tree) × SendsAtMove s k p picks m t → move_of_message s k p picks ≡ Some m
    back (t, r) =
        let number : m ≡ suc (0 + r.earlier) = omega (arith, r.next) in
        sure s k p [] (moves p picks) m r.earlier t r.moves_so number r.none_before (ap (λ n. message_of_number k (messages s p (take n (moves p picks)))) (sym r.next) ∙ r.sent)

pub no_move_where_no_message : NoMoveWhereNoMessage
no_move_where_no_message s k p picks = (
  λ h. sym (at-again s k p picks) ∙ none-found s k p [] (moves p picks) (none-at-start s k p) h,
  λ h. none-to-find s k p [] (moves p picks) (at-again s k p picks ∙ h),
)

-- ---- the account of a move

-- one of the entries begins the move of this number
abbrev BeginsMove : ℕ → List AccountEntry → Type 0
BeginsMove m [] = ⊥
BeginsMove m (shows j pick x ∷ es) = (j ≡ m) ⊎ BeginsMove m es
BeginsMove m (shows_nothing j pick ∷ es) = (j ≡ m) ⊎ BeginsMove m es
BeginsMove m (makes n l ∷ es) = BeginsMove m es

begins-later : (m : ℕ) (xs ys : List AccountEntry) → BeginsMove m ys → BeginsMove m (xs ++ ys)
begins-later m [] ys h = h
begins-later m (shows j pick x ∷ xs) ys h = inr (begins-later m xs ys h)
begins-later m (shows_nothing j pick ∷ xs) ys h = inr (begins-later m xs ys h)
begins-later m (makes n l ∷ xs) ys h = begins-later m xs ys h

-- then what is selected has a text, where the move is
module _ (a : Filter) (m : ℕ) (selects : is_move a.move m ≡ true) where
  some-account : (k : ℕ) (es : List AccountEntry) → BeginsMove m es → flat_map entry_text (filter_entries a k es) ≡ [] → ⊥
  some-account k [] h e = h
  some-account k (shows j pick x ∷ es) h e = go (is_move a.move j) refl h e (some-account j es)
    where
      go : (b : Bool) → is_move a.move j ≡ b → (j ≡ m) ⊎ BeginsMove m es → flat_map entry_text (if b then shows j pick x ∷ filter_entries a j es else filter_entries a j es) ≡ []
          → (BeginsMove m es → flat_map entry_text (filter_entries a j es) ≡ [] → ⊥) → ⊥
      go true is i f again = some-text j pick (item_text x) (no-begin (entry_text (shows j pick x)) (flat_map entry_text (filter_entries a j es)) f)
      go false is (inl same) f again = cc (sym selects ∙ ap (is_move a.move) (sym same) ∙ is)
      go false is (inr i) f again = again i f
  some-account k (shows_nothing j pick ∷ es) h e = go (is_move a.move j) refl h e (some-account j es)
    where
      go : (b : Bool) → is_move a.move j ≡ b → (j ≡ m) ⊎ BeginsMove m es → flat_map entry_text (if b then shows_nothing j pick ∷ filter_entries a j es else filter_entries a j es) ≡ []
          → (BeginsMove m es → flat_map entry_text (filter_entries a j es) ≡ [] → ⊥) → ⊥
      go true is i f again = some-text j pick (codes " nothing") (no-begin (entry_text (shows_nothing j pick)) (flat_map entry_text (filter_entries a j es)) f)
      go false is (inl same) f again = cc (sym selects ∙ ap (is_move a.move) (sym same) ∙ is)
      go false is (inr i) f again = again i f
  some-account k (makes n l ∷ es) h e = go (is_move a.move k && is_session a.session n) e (some-account k es h)
    where
      go : (b : Bool) → flat_map entry_text (if b then makes n l ∷ filter_entries a k es else filter_entries a k es) ≡ [] → (flat_map entry_text (filter_entries a k es) ≡ [] → ⊥) → ⊥
      go true f again = again (no-end (entry_text (makes n l)) (flat_map entry_text (filter_entries a k es)) f)
      go false f again = again f

-- the moves of a run begin with their numbers
module _ (o : Exports) (fs : List Function) where
  abbrev entries_in : List MoveHistory → List AccountEntry
  entries_in hs = flat_map (λ h. entries_of_moments o h.outlook h.number h.pick h.moments) hs

  begins-here : (l : Outlook) (k n pick : ℕ) (ss : List NamedSession) (xs : List HistoryItem) (rest : List AccountEntry) → k ≡ n → BeginsMove n (entries_of_moments o l k pick (moments_from o k pick ss xs) ++ rest)
  begins-here l k n pick ss [] rest e = inl e
  begins-here l k n pick ss (x ∷ xs) rest e = inl e

  begins-each : (q : RunState) (k j : ℕ) (ss : List NamedSession) (picks : List ℕ) → j < length (moves_from fs q picks) → BeginsMove (suc (k + j)) (entries_in (move_histories_from o fs q k ss picks))
  begins-each q k j ss [] below = absurd (omega (arith, below))
  begins-each q k j ss (pick ∷ picks) below = go (pick_step fs q pick) (pick_step fs q pick).moved j below (λ r n i us. begins-each r n i us picks)
    where
      go : (t : PickStep) (b : Bool) (i : ℕ) → i < length ((if b then pick ∷ [] else []) ++ moves_from fs t.after picks)
          → ((r : RunState) (n i : ℕ) (us : List NamedSession) → i < length (moves_from fs r picks) → BeginsMove (suc (n + i)) (entries_in (move_histories_from o fs r n us picks)))
          → BeginsMove (suc (k + i)) (entries_in (if b then move_history o (suc k) pick (outlook fs q.world pick) ss t.shown ∷ move_histories_from o fs t.after (suc k) (all_after_items o ss t.shown) picks else move_histories_from o fs t.after k ss picks))
      go t true zero low again =
          let number : suc k ≡ suc (k + 0) = omega arith in
          begins-here (outlook fs q.world pick) (suc k) (suc (k + 0)) pick ss t.shown (entries_in (move_histories_from o fs t.after (suc k) (all_after_items o ss t.shown) picks)) number
      go t true (suc i) low again =
          let here : List AccountEntry = entries_of_moments o (outlook fs q.world pick) (suc k) pick (moments_from o (suc k) pick ss t.shown) in
          let rest : List AccountEntry = entries_in (move_histories_from o fs t.after (suc k) (all_after_items o ss t.shown) picks) in
          let number : suc (suc k + i) ≡ suc (k + suc i) = omega arith in
          subst (λ n. BeginsMove n (here ++ rest)) number (begins-later (suc (suc k + i)) here rest (again t.after (suc k) i (all_after_items o ss t.shown) (omega (arith, low))))
      go t false i low again = again t.after k i ss low

-- a move that is there has an account
pub some_account_of_move : (n : Option Name) (p : Program) (picks : List ℕ) (m j : ℕ) → m ≡ suc j → j < length (moves p picks) → account_text (record { session = n; move = Some m }) p picks ≡ [] → ⊥
some_account_of_move n p picks m j is below e =
    let number : suc (0 + j) ≡ m = omega (arith, is) in
    some-account (record { session = n; move = Some m }) m (self_equal m) 0 _ (subst (λ i. BeginsMove i (entries_in (exports_of p) p.functions (move_histories_from (exports_of p) p.functions (start p) 0 (named_sessions p) picks))) number
    (begins-each (exports_of p) p.functions (start p) 0 j (named_sessions p) picks below)) e

abbrev of_session : Name → Filter
of_session s = record { session = Some s; move = None }

pub no_account_where_no_message : NoAccountWhereNoMessage
no_account_where_no_message s k p picks = (there (move_of_message s k p picks) refl, back)
  where
    there : (x : Option ℕ) → move_of_message s k p picks ≡ x → text_of_number (of_session s) p picks x ≡ [] → message_of_number k (messages s p picks) ≡ None
    there None e h = (no_move_where_no_message s k p picks).0 e
    there (Some m) e h =
        let at : (t : Tree) × SendsAtMove s k p picks m t = (move_of_message_is_computed s k p picks m).0 e in
        absurd (some_account_of_move (Some s) p picks m at.1.earlier at.1.next at.1.moves_so h)

    back : message_of_number k (messages s p picks) ≡ None → text_of_number (of_session s) p picks (move_of_message s k p picks) ≡ []
    back h = ap (text_of_number (of_session s) p picks) ((no_move_where_no_message s k p picks).1 h)

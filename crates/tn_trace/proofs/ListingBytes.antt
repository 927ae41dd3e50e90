-- How many bytes the listings of a run have, which more picks don't make fewer.
use Rattle.std.proofs.Common.{◌≡◌, ◌∙◌, ℕ, zero, suc, ◌+◌, ◌<◌, ◌≤◌, List, [], ◌∷◌, ◌++◌, length, map, take, refl, sym, ap, subst, length-append, arith}
use Rattle.std.specs.Prelude.{filter}
use Rattle.std.proofs.lemmas.Grind.{flat_map-append}
use Rattle.std.proofs.lemmas.List.Sums.{sum_by-cons}
use Rattle.def_term.specs.Names.{Name}
use Rattle.def_script.specs.Program.{Program}
use Rattle.def_script.specs.Exports.{Exports, exports_of}
use Rattle.def_script.specs.Script.{creations}
use Rattle.def_session.specs.State.{absent_session}
use Rattle.def_run.specs.Run.{HistoryItem, start, events, moves, moves_from, history_from, run_state_of}
use Rattle.def_run.specs.View.{is_own}
use Rattle.def_run.specs.Listing.{messages_from, session_after, lines_of, line_of}
use Rattle.def_run.proofs.Appends.{own-append, messages-append, shown-append, moves-append}
use Rattle.def_run.proofs.Replay.{events_again}
use Rattle.tn_trace.specs.Transcripts.{bytes_in_all, listing_bytes}

-- the lines of a session after these items
abbrev pub lines_over : Exports → List HistoryItem → Name × Name → List ℕ
lines_over o items s = lines_of (messages_from o (absent_session o) (filter (is_own s.0) items))

module _ (o : Exports) (items more : List HistoryItem) where
  lines_grow : (s : Name × Name) → length (lines_over o items s) ≤ length (lines_over o (items ++ more) s)
  lines_grow s =
      let seen : List HistoryItem = filter (is_own s.0) items in
      let after : List HistoryItem = filter (is_own s.0) more in
      let first = messages_from o (absent_session o) seen in
      let rest = messages_from o (session_after o (absent_session o) seen) after in
      let longer : lines_over o (items ++ more) s ≡ lines_of first ++ lines_of rest =
      ap (λ xs. lines_of (messages_from o (absent_session o) xs)) (own-append s.0 items more)
      ∙ ap lines_of (messages-append o (absent_session o) seen after) ∙ flat_map-append line_of first rest in
      let counted : length (lines_over o (items ++ more) s) ≡ length (lines_of first) + length (lines_of rest) = ap length longer ∙ length-append (lines_of first) (lines_of rest) in
      omega (arith, counted)

  bytes_first : (ts : List HistoryItem) (s : Name × Name) (ss : List (Name × Name)) → bytes_in_all (map (lines_over o ts) (s ∷ ss)) ≡ length (lines_over o ts s) + bytes_in_all (map (lines_over o ts) ss)
  bytes_first ts s ss = sum_by-cons (λ n. n) (length (lines_over o ts s)) (map length (map (lines_over o ts) ss))

  all_grow : (ss : List (Name × Name)) → bytes_in_all (map (lines_over o items) ss) ≤ bytes_in_all (map (lines_over o (items ++ more)) ss)
  all_grow [] = omega arith
  all_grow (s ∷ ss) =
      let one : length (lines_over o items s) ≤ length (lines_over o (items ++ more) s) = lines_grow s in
      let others : bytes_in_all (map (lines_over o items) ss) ≤ bytes_in_all (map (lines_over o (items ++ more)) ss) = all_grow ss in
      omega (arith, one, others, bytes_first items s ss, bytes_first (items ++ more) s ss)

-- more picks
pub bytes_grow : (p : Program) (picks more : List ℕ) → listing_bytes p picks ≤ listing_bytes p (picks ++ more)
bytes_grow p picks more =
    subst (λ items. listing_bytes p picks ≤ bytes_in_all (map (lines_over (exports_of p) items) (creations p.commands))) (sym (shown-append p.functions (start p) picks more))
    (all_grow (exports_of p) (events p picks) (history_from p.functions (run_state_of p picks) more) (creations p.commands))

-- the picks that moved
pub bytes_again : (p : Program) (picks : List ℕ) → listing_bytes p (moves p picks) ≡ listing_bytes p picks
bytes_again p picks = ap (λ items. bytes_in_all (map (lines_over (exports_of p) items) (creations p.commands))) (events_again p picks)

-- no pick
pub bytes_at_start : (p : Program) → listing_bytes p [] ≡ 0
bytes_at_start p = go (creations p.commands)
  where
    go : (ss : List (Name × Name)) → bytes_in_all (map (lines_over (exports_of p) []) ss) ≡ 0
    go [] = refl
    go (s ∷ ss) = go ss

first_on : (n : ℕ) (xs ys : List ℕ) → (zs : List ℕ) × (take n (xs ++ ys) ≡ take n xs ++ zs)
first_on zero xs ys = ([], refl)
first_on (suc n) [] ys = (take (suc n) ys, refl)
first_on (suc n) (x ∷ xs) ys = let r = first_on n xs ys in (r.0, ap (λ l. x ∷ l) r.1)

-- the first that moved of more picks
pub first_moves_on : (p : Program) (limit : ℕ) (before more : List ℕ) → (zs : List ℕ) × (take limit (moves p (before ++ more)) ≡ take limit (moves p before) ++ zs)
first_moves_on p limit before more =
    let longer = first_on limit (moves p before) (moves_from p.functions (run_state_of p before) more) in
    (longer.0, ap (take limit) (moves-append p.functions (start p) before more) ∙ longer.1)

pub limited_grow : (p : Program) (limit : ℕ) (before more : List ℕ) → listing_bytes p (take limit (moves p before)) ≤ listing_bytes p (take limit (moves p (before ++ more)))
limited_grow p limit before more =
    let longer = first_moves_on p limit before more in
    subst (λ js. listing_bytes p (take limit (moves p before)) ≤ listing_bytes p js) (sym longer.1) (bytes_grow p (take limit (moves p before)) longer.0)

-- once they have too many bytes
pub longer_on : (p : Program) (limit most : ℕ) (before more : List ℕ) → most < listing_bytes p (take limit (moves p before)) → most < listing_bytes p (take limit (moves p (before ++ more)))
longer_on p limit most before more long = omega (arith, long, limited_grow p limit before more)

-- The moves of a run, pick by pick: what is compared after one more, its lines, and what the account of what a node does otherwise has of it.
use Rattle.std.proofs.Common.{◌≡◌, ◌∙◌, ℕ, suc, ◌+◌, Bool, true, false, not, ◌||◌, Option, None, if◌then◌else◌, List, [], ◌∷◌, ◌++◌, map, length, refl, sym, ap, append-nil, append_assoc, arith}
use Rattle.std.proofs.lemmas.List.{map-append}
use Rattle.def_term.specs.Names.{Name}
use Rattle.def_script.specs.Program.{Function, Program}
use Rattle.def_script.specs.Exports.{Exports, exports_of}
use Rattle.def_outlook.specs.Outlook.{Outlook, outlook}
use Rattle.def_run.specs.Run.{HistoryItem, RunState, PickStep, pick_step, history_from, moves_from, run_state_after, start, events, moves, run_state_of, pick_step_after}
use Rattle.def_run.specs.History.{NamedSession, all_after, all_after_items, named_sessions, MoveHistory, move_history, move_histories_from, move_histories}
use Rattle.def_run.proofs.Replay.{pick_kept}
use Rattle.def_explain.specs.RunTexts.{Filter}
use Rattle.def_running_node.specs.NodeComparisons.{Comparison, NamedLine, comparison_at_start, after_pick, lines_of_move, items_of, after_moves, lines_of_moves, comparison_after, lines_of_run, is_difference, lines_differ, lines_are_open}
use Rattle.def_running_node.specs.NodeNotes.{has_node_line, moves_that_differ, text_of_node_move, text_of_node_moves, node_account_text}
use Rattle.tn_running_node.specs.NodeMoves.{outlook_after, lines_of_next}

-- ---- the history

-- what a move shows
pub items_of_history : (o : Exports) (k pick : ℕ) (l : Outlook) (ss : List NamedSession) (xs : List HistoryItem) → items_of (move_history o k pick l ss xs) ≡ xs
items_of_history o k pick l ss [] = refl
items_of_history o k pick l ss (x ∷ xs) = ap (λ ys. x ∷ ys) (items_of_history o k pick l (all_after o ss x) xs)

sessions-append : (o : Exports) (ss : List NamedSession) (xs ys : List HistoryItem) → all_after_items o ss (xs ++ ys) ≡ all_after_items o (all_after_items o ss xs) ys
sessions-append o ss [] ys = refl
sessions-append o ss (x ∷ xs) ys = sessions-append o (all_after o ss x) xs ys

module _ (o : Exports) (fs : List Function) where
  -- the moves of some picks, and of those after them
  histories-append : (q : RunState) (k : ℕ) (ss : List NamedSession) (xs ys : List ℕ)
      → move_histories_from o fs q k ss (xs ++ ys) ≡ move_histories_from o fs q k ss xs ++ move_histories_from o fs (run_state_after fs q xs) (k + length (moves_from fs q xs)) (all_after_items o ss (history_from fs q xs)) ys
  histories-append q k ss [] ys =
      let number : k ≡ k + 0 = omega arith in
      ap (λ n. move_histories_from o fs q n ss ys) number
  histories-append q k ss (x ∷ xs) ys = go (pick_step fs q x) (pick_step fs q x).moved (λ e. ap (λ (t : PickStep). t.shown) (pick_kept fs q x e)) refl (λ r j us. histories-append r j us xs ys)
    where
      go : (t : PickStep) (b : Bool) → (t.moved ≡ false → t.shown ≡ []) → t.moved ≡ b
          → ((r : RunState) (j : ℕ) (us : List NamedSession) → move_histories_from o fs r j us (xs ++ ys) ≡ move_histories_from o fs r j us xs ++ move_histories_from o fs (run_state_after fs r xs) (j + length (moves_from fs r xs)) (all_after_items o us (history_from fs r xs)) ys)
          → (if b then move_history o (suc k) x (outlook fs q.world x) ss t.shown ∷ move_histories_from o fs t.after (suc k) (all_after_items o ss t.shown) (xs ++ ys) else move_histories_from o fs t.after k ss (xs ++ ys))
          ≡ (if b then move_history o (suc k) x (outlook fs q.world x) ss t.shown ∷ move_histories_from o fs t.after (suc k) (all_after_items o ss t.shown) xs else move_histories_from o fs t.after k ss xs)
          ++ move_histories_from o fs (run_state_after fs t.after xs) (k + length ((if b then x ∷ [] else []) ++ moves_from fs t.after xs)) (all_after_items o ss (t.shown ++ history_from fs t.after xs)) ys
      go t true none e again =
          let front : List MoveHistory = move_history o (suc k) x (outlook fs q.world x) ss t.shown ∷ move_histories_from o fs t.after (suc k) (all_after_items o ss t.shown) xs in
          let n : ℕ = length (moves_from fs t.after xs) in
          let number : suc k + n ≡ k + suc n = omega arith in
          ap (λ hs. move_history o (suc k) x (outlook fs q.world x) ss t.shown ∷ hs) (again t.after (suc k) (all_after_items o ss t.shown))
          ∙ ap (λ j. front ++ move_histories_from o fs (run_state_after fs t.after xs) j (all_after_items o (all_after_items o ss t.shown) (history_from fs t.after xs)) ys) number
          ∙ ap (λ us. front ++ move_histories_from o fs (run_state_after fs t.after xs) (k + suc n) us ys) (sym (sessions-append o ss t.shown (history_from fs t.after xs)))
      go t false none e again =
          again t.after k ss
          ∙ ap (λ is. move_histories_from o fs t.after k ss xs ++ move_histories_from o fs (run_state_after fs t.after xs) (k + length (moves_from fs t.after xs)) (all_after_items o ss (is ++ history_from fs t.after xs)) ys) (sym (none e))

  -- picks that don't move can be left out
  histories-again : (q : RunState) (k : ℕ) (ss : List NamedSession) (picks : List ℕ) → move_histories_from o fs q k ss (moves_from fs q picks) ≡ move_histories_from o fs q k ss picks
  histories-again q k ss [] = refl
  histories-again q k ss (pick ∷ picks) = go (pick_step fs q pick) (pick_step fs q pick).moved refl refl (λ r j us. histories-again r j us picks)
    where
      go : (t : PickStep) (b : Bool) → pick_step fs q pick ≡ t → t.moved ≡ b
          → ((r : RunState) (j : ℕ) (us : List NamedSession) → move_histories_from o fs r j us (moves_from fs r picks) ≡ move_histories_from o fs r j us picks)
          → move_histories_from o fs q k ss ((if b then pick ∷ [] else []) ++ moves_from fs t.after picks)
          ≡ (if b then move_history o (suc k) pick (outlook fs q.world pick) ss t.shown ∷ move_histories_from o fs t.after (suc k) (all_after_items o ss t.shown) picks else move_histories_from o fs t.after k ss picks)
      go t true e m again =
          let made : List ℕ = moves_from fs t.after picks in
          let first : PickStep → MoveHistory = λ u. move_history o (suc k) pick (outlook fs q.world pick) ss u.shown in
          let later : PickStep → List MoveHistory = λ u. move_histories_from o fs u.after (suc k) (all_after_items o ss u.shown) made in
          ap (λ (u : PickStep). if u.moved then first u ∷ later u else move_histories_from o fs u.after k ss made) e
          ∙ ap (λ c. if c then first t ∷ later t else move_histories_from o fs t.after k ss made) m
          ∙ ap (λ hs. first t ∷ hs) (again t.after (suc k) (all_after_items o ss t.shown))
      go t false e m again =
          let same : t.after ≡ q = ap (λ (u : PickStep). u.after) (sym e ∙ pick_kept fs q pick (ap (λ (u : PickStep). u.moved) e ∙ m)) in
          ap (λ r. move_histories_from o fs r k ss (moves_from fs t.after picks)) (sym same) ∙ again t.after k ss

-- the move of one more pick, where it moves
abbrev pub move_of_next : Program → List ℕ → ℕ → MoveHistory
move_of_next p picks pick = move_history (exports_of p) (suc (length (moves p picks))) pick (outlook_after p picks pick) (all_after_items (exports_of p) (named_sessions p) (events p picks)) (pick_step_after p picks pick).shown

-- one more pick
pub histories_more : (p : Program) (picks : List ℕ) (pick : ℕ) → move_histories p (picks ++ pick ∷ []) ≡ move_histories p picks ++ (if (pick_step_after p picks pick).moved then move_of_next p picks pick ∷ [] else [])
histories_more p picks pick =
    let o : Exports = exports_of p in
    let number : 0 + length (moves p picks) ≡ length (moves p picks) = omega arith in
    histories-append o p.functions (start p) 0 (named_sessions p) picks (pick ∷ [])
    ∙ ap (λ n. move_histories p picks ++ move_histories_from o p.functions (run_state_of p picks) n (all_after_items o (named_sessions p) (events p picks)) (pick ∷ [])) number

-- the picks that moved give the same
pub histories_again : (p : Program) (picks : List ℕ) → move_histories p (moves p picks) ≡ move_histories p picks
histories_again p picks = histories-again (exports_of p) p.functions (start p) 0 (named_sessions p) picks

-- ---- several moves

pub moves_then : (o : Exports) (c : Comparison) (hs gs : List MoveHistory) → after_moves o c (hs ++ gs) ≡ after_moves o (after_moves o c hs) gs
moves_then o c [] gs = refl
moves_then o c (h ∷ hs) gs = moves_then o (after_pick o h.outlook h.pick c (items_of h)) hs gs

pub lines_then : (o : Exports) (c : Comparison) (hs gs : List MoveHistory) → lines_of_moves o c (hs ++ gs) ≡ lines_of_moves o c hs ++ lines_of_moves o (after_moves o c hs) gs
lines_then o c [] gs = refl
lines_then o c (h ∷ hs) gs = ap (λ ls. lines_of_move o h.outlook h.pick c (items_of h) ∷ ls) (lines_then o (after_pick o h.outlook h.pick c (items_of h)) hs gs)

text_then : (o : Exports) (a : Filter) (c : Comparison) (hs gs : List MoveHistory) → text_of_node_moves o a c (hs ++ gs) ≡ text_of_node_moves o a c hs ++ text_of_node_moves o a (after_moves o c hs) gs
text_then o a c [] gs = refl
text_then o a c (h ∷ hs) gs =
    let here : List ℕ = text_of_node_move o a h (lines_of_move o h.outlook h.pick c (items_of h)) in
    let d : Comparison = after_pick o h.outlook h.pick c (items_of h) in
    ap (λ l. here ++ l) (text_then o a d hs gs) ∙ sym (append_assoc here (text_of_node_moves o a d hs) (text_of_node_moves o a (after_moves o d hs) gs))

-- one more move
pub text_of_one_more : (o : Exports) (a : Filter) (c : Comparison) (hs : List MoveHistory) (h : MoveHistory)
    → text_of_node_moves o a c (hs ++ h ∷ []) ≡ text_of_node_moves o a c hs ++ text_of_node_move o a h (lines_of_move o h.outlook h.pick (after_moves o c hs) (items_of h))
text_of_one_more o a c hs h =
    text_then o a c hs (h ∷ []) ∙ ap (λ l. text_of_node_moves o a c hs ++ l) (append-nil (text_of_node_move o a h (lines_of_move o h.outlook h.pick (after_moves o c hs) (items_of h))))

-- ---- one more pick, whether or not it moves

module _ (o : Exports) (k pick : ℕ) (l : Outlook) (ss : List NamedSession) (xs : List HistoryItem) where
  compared_by : (c : Comparison) (b : Bool) → after_moves o c (if b then move_history o k pick l ss xs ∷ [] else []) ≡ (if b then after_pick o l pick c xs else c)
  compared_by c true = ap (after_pick o l pick c) (items_of_history o k pick l ss xs)
  compared_by c false = refl

  lines_by : (c : Comparison) (b : Bool) → lines_of_moves o c (if b then move_history o k pick l ss xs ∷ [] else []) ≡ (if b then lines_of_move o l pick c xs ∷ [] else [])
  lines_by c true = ap (λ ys. lines_of_move o l pick c ys ∷ []) (items_of_history o k pick l ss xs)
  lines_by c false = refl

  text_by : (a : Filter) (c : Comparison) (b : Bool) → text_of_node_moves o a c (if b then move_history o k pick l ss xs ∷ [] else []) ≡ (if b then text_of_node_move o a (move_history o k pick l ss xs) (lines_of_move o l pick c xs) else [])
  text_by a c true =
      append-nil (text_of_node_move o a (move_history o k pick l ss xs) (lines_of_move o l pick c (items_of (move_history o k pick l ss xs))))
      ∙ ap (λ ys. text_of_node_move o a (move_history o k pick l ss xs) (lines_of_move o l pick c ys)) (items_of_history o k pick l ss xs)
  text_by a c false = refl

module _ (p : Program) (picks : List ℕ) (pick : ℕ) where
  -- what is compared
  pub comparison_more : (n : Option Name) → comparison_after n p (picks ++ pick ∷ []) ≡ (if (pick_step_after p picks pick).moved then after_pick (exports_of p) (outlook_after p picks pick) pick (comparison_after n p picks) (pick_step_after p picks pick).shown else comparison_after n p picks)
  comparison_more n =
      let o : Exports = exports_of p in
      let t : PickStep = pick_step_after p picks pick in
      ap (after_moves o (comparison_at_start n p)) (histories_more p picks pick)
      ∙ moves_then o (comparison_at_start n p) (move_histories p picks) (if t.moved then move_of_next p picks pick ∷ [] else [])
      ∙ compared_by o (suc (length (moves p picks))) pick (outlook_after p picks pick) (all_after_items o (named_sessions p) (events p picks)) t.shown (comparison_after n p picks) t.moved

  pub comparison_moved : (n : Option Name) → (pick_step_after p picks pick).moved ≡ true → comparison_after n p (picks ++ pick ∷ []) ≡ after_pick (exports_of p) (outlook_after p picks pick) pick (comparison_after n p picks) (pick_step_after p picks pick).shown
  comparison_moved n e = comparison_more n ∙ ap (λ b. if b then after_pick (exports_of p) (outlook_after p picks pick) pick (comparison_after n p picks) (pick_step_after p picks pick).shown else comparison_after n p picks) e

  pub comparison_stays : (n : Option Name) → (pick_step_after p picks pick).moved ≡ false → comparison_after n p (picks ++ pick ∷ []) ≡ comparison_after n p picks
  comparison_stays n e = comparison_more n ∙ ap (λ b. if b then after_pick (exports_of p) (outlook_after p picks pick) pick (comparison_after n p picks) (pick_step_after p picks pick).shown else comparison_after n p picks) e

  -- the lines
  pub lines_more : (n : Option Name) → lines_of_run n p (picks ++ pick ∷ []) ≡ lines_of_run n p picks ++ (if (pick_step_after p picks pick).moved then lines_of_next n p picks pick ∷ [] else [])
  lines_more n =
      let o : Exports = exports_of p in
      let t : PickStep = pick_step_after p picks pick in
      ap (lines_of_moves o (comparison_at_start n p)) (histories_more p picks pick)
      ∙ lines_then o (comparison_at_start n p) (move_histories p picks) (if t.moved then move_of_next p picks pick ∷ [] else [])
      ∙ ap (λ ls. lines_of_run n p picks ++ ls) (lines_by o (suc (length (moves p picks))) pick (outlook_after p picks pick) (all_after_items o (named_sessions p) (events p picks)) t.shown (comparison_after n p picks) t.moved)

  -- the text of the account
  abbrev pub text_of_next : Filter → List ℕ
  text_of_next a = if (pick_step_after p picks pick).moved then text_of_node_move (exports_of p) a (move_of_next p picks pick) (lines_of_next a.session p picks pick) else []

  pub account_more : (a : Filter) → node_account_text a p (picks ++ pick ∷ []) ≡ node_account_text a p picks ++ text_of_next a
  account_more a =
      let o : Exports = exports_of p in
      let t : PickStep = pick_step_after p picks pick in
      ap (text_of_node_moves o a (comparison_at_start a.session p)) (histories_more p picks pick)
      ∙ text_then o a (comparison_at_start a.session p) (move_histories p picks) (if t.moved then move_of_next p picks pick ∷ [] else [])
      ∙ ap (λ l. node_account_text a p picks ++ l) (text_by o (suc (length (moves p picks))) pick (outlook_after p picks pick) (all_after_items o (named_sessions p) (events p picks)) t.shown a (comparison_after a.session p picks) t.moved)

-- the picks that moved give the same
pub lines_again : (n : Option Name) (p : Program) (picks : List ℕ) → lines_of_run n p (moves p picks) ≡ lines_of_run n p picks
lines_again n p picks = ap (lines_of_moves (exports_of p) (comparison_at_start n p)) (histories_again p picks)

pub account_again : (a : Filter) (p : Program) (picks : List ℕ) → node_account_text a p (moves p picks) ≡ node_account_text a p picks
account_again a p picks = ap (text_of_node_moves (exports_of p) a (comparison_at_start a.session p)) (histories_again p picks)

-- ---- whether a move has lines

or-true : (a : Bool) → (a || true) ≡ true
or-true true = refl
or-true false = refl

pub any_line : (ls : List NamedLine) → (lines_differ ls || lines_are_open ls) ≡ has_node_line ls
any_line [] = refl
any_line (l ∷ ls) = go (is_difference l.1)
  where
    go : (b : Bool) → ((b || lines_differ ls) || (not b || lines_are_open ls)) ≡ true
    go true = refl
    go false = or-true (lines_differ ls)

flag_by : (ls : List NamedLine) (b : Bool) → map has_node_line (if b then ls ∷ [] else []) ≡ (if b then has_node_line ls ∷ [] else [])
flag_by ls true = refl
flag_by ls false = refl

pub moves_that_differ_more : (p : Program) (picks : List ℕ) (pick : ℕ) → moves_that_differ p (picks ++ pick ∷ []) ≡ moves_that_differ p picks ++ (if (pick_step_after p picks pick).moved then has_node_line (lines_of_next None p picks pick) ∷ [] else [])
moves_that_differ_more p picks pick =
    let t : PickStep = pick_step_after p picks pick in
    ap (map has_node_line) (lines_more p picks pick None)
    ∙ map-append has_node_line (lines_of_run None p picks) (if t.moved then lines_of_next None p picks pick ∷ [] else [])
    ∙ ap (λ bs. moves_that_differ p picks ++ bs) (flag_by (lines_of_next None p picks pick) t.moved)

pub moves_that_differ_again : (p : Program) (picks : List ℕ) → moves_that_differ p (moves p picks) ≡ moves_that_differ p picks
moves_that_differ_again p picks = ap (map has_node_line) (lines_again None p picks)

-- A note counts the moves of a run that have a line, and the account of a node is empty where there is none.
use Rattle.std.proofs.Common.{◌≡◌, suc, ◌||◌, ◌⊎◌, inl, inr, ◌≤◌, ◌+◌, ℕ, Bool, true, false, cond, List, [], ◌∷◌, ◌++◌, map, flat_map, length, count_by, Option, Some, None, refl, ap, sym, ◌∙◌, subst, arith, if◌then◌else◌}
use Rattle.std.specs.List.{list_any}
use Rattle.std.proofs.lemmas.Bool.{false≢true}
use Rattle.std.proofs.lemmas.List.Sums.{sum_by-cons, count_by-le-length}
use Rattle.std.proofs.lemmas.List.{length-map}
use Rattle.def_term.specs.Names.{Name}
use Rattle.def_script.specs.Exports.{Exports, exports_of}
use Rattle.def_run.specs.History.{MoveHistory, move_histories}
use Rattle.def_explain.specs.NodeCommands.{can_differ}
use Rattle.def_explain.specs.Runs.{entries_of_moments}
use Rattle.def_explain.specs.RunTexts.{Filter, filter_entries, entry_text}
use Rattle.def_running_node.specs.NodeComparisons.{Comparison, NamedLine, comparison_at_start, after_pick, items_of, lines_of_move, lines_of_moves, lines_of_run, named_line_text}
use Rattle.def_running_node.specs.NodeNotes.{has_node_line, moves_that_differ, NodeNote, text_of_node_move, text_of_node_moves}
use Rattle.def_running_node.specs.Laws.{EachMoveHasLines, NoteWhereSomeLine, NoteCountsMoves, NoAccountWhereNoLine}

-- ---- moves and lines

length-lines : (o : Exports) (c : Comparison) (hs : List MoveHistory) → length (lines_of_moves o c hs) ≡ length hs
length-lines o c [] = refl
length-lines o c (h ∷ hs) = ap suc (length-lines o (after_pick o h.outlook h.pick c (items_of h)) hs)

pub each_move_has_lines : EachMoveHasLines
each_move_has_lines n p picks = length-lines (exports_of p) (comparison_at_start n p) (move_histories p picks)

-- ---- the note

-- the note, where a move has a line, and a command can lead to such a move
abbrev note_where : Bool → List Bool → Option NodeNote
note_where b bs = if b then Some (record { differing = count_by (λ x. x) bs; moves = length bs }) else None

abbrev note_by : (a b : Bool) → List Bool → Option NodeNote
note_by a b bs = if a then note_where b bs else None

none-by : (a b : Bool) (bs : List Bool) → note_by a b bs ≡ None → (a ≡ false) ⊎ (b ≡ false)
none-by true true bs h = absurd (cc h)
none-by true false bs h = inr refl
none-by false b bs h = inl refl

none-of : (a b : Bool) (bs : List Bool) → (a ≡ false) ⊎ (b ≡ false) → note_by a b bs ≡ None
none-of a b bs (inl h) = ap (λ x. note_by x b bs) h
none-of false b bs (inr h) = refl
none-of true b bs (inr h) = ap (λ x. note_by true x bs) h

pub note_where_some_line : NoteWhereSomeLine
note_where_some_line p picks =
    let bs : List Bool = moves_that_differ p picks in
    (none-by (can_differ p) (list_any (λ b. b) bs) bs, none-of (can_differ p) (list_any (λ b. b) bs) bs)

-- what it counts
count-map : (ls : List (List NamedLine)) → count_by (λ b. b) (map has_node_line ls) ≡ count_by has_node_line ls
count-map [] = refl
count-map (l ∷ ls) =
    sum_by-cons (λ b. cond b 1 0) (has_node_line l) (map has_node_line ls)
    ∙ ap (λ n. cond (has_node_line l) 1 0 + n) (count-map ls)
    ∙ sym (sum_by-cons (λ x. cond (has_node_line x) 1 0) l ls)

one-of : (bs : List Bool) → list_any (λ b. b) bs ≡ true → 1 ≤ count_by (λ b. b) bs
one-of [] h = absurd (false≢true h)
one-of (b ∷ bs) h = subst (λ n. 1 ≤ n) (sym (sum_by-cons (λ x. cond x 1 0) b bs)) (go b h (one-of bs))
  where
    go : (b : Bool) → (b || list_any (λ x. x) bs) ≡ true → (list_any (λ x. x) bs ≡ true → 1 ≤ count_by (λ x. x) bs) → 1 ≤ cond b 1 0 + count_by (λ x. x) bs
    go true k rest = omega arith
    go false k rest = let more : 1 ≤ count_by (λ x. x) bs = rest k in omega arith

-- what a note of these is
note-is : (a b : Bool) (bs : List Bool) (n : NodeNote) → note_by a b bs ≡ Some n → (b ≡ true) × (n.differing ≡ count_by (λ x. x) bs) × (n.moves ≡ length bs)
note-is true true bs n h =
    let is : n ≡ record { differing = count_by (λ x. x) bs; moves = length bs } = cc h in
    (refl, ap (λ m. m.differing) is, ap (λ m. m.moves) is)
note-is true false bs n h = absurd (cc h)
note-is false b bs n h = absurd (cc h)

pub note_counts_moves : NoteCountsMoves
note_counts_moves p picks n h =
    let lines : List (List NamedLine) = lines_of_run None p picks in
    let bs : List Bool = map has_node_line lines in
    let is : (list_any (λ x. x) bs ≡ true) × (n.differing ≡ count_by (λ x. x) bs) × (n.moves ≡ length bs) = note-is (can_differ p) (list_any (λ x. x) bs) bs n h in
    let less : count_by (λ x. x) bs ≤ length bs = count_by-le-length (λ x. x) bs in
    let one : 1 ≤ count_by (λ x. x) bs = one-of bs is.0 in
    record {
      with_line = is.1 ∙ count-map lines;
      one_at_least = subst (λ m. 1 ≤ m) (sym is.1) one;
      no_more = subst (λ m. m ≤ n.moves) (sym is.1) (subst (λ m. count_by (λ x. x) bs ≤ m) (sym is.2) less);
      all_moves = is.2 ∙ length-map lines has_node_line ∙ each_move_has_lines None p picks;
    }

-- ---- the account

-- of these sessions, and of all moves
abbrev of_all_moves : Option Name → Filter
of_all_moves n = record { session = n; move = None }

no-end : (a b : List ℕ) → a ++ b ≡ [] → b ≡ []
no-end [] b h = h
no-end (x ∷ a) b h = absurd (cc h)

no-begin : (a b : List ℕ) → a ++ b ≡ [] → a ≡ []
no-begin [] b h = refl
no-begin (x ∷ a) b h = absurd (cc h)

-- a move with a line has a text
some-text : (o : Exports) (n : Option Name) (h : MoveHistory) (l : NamedLine) (ls : List NamedLine) → text_of_node_move o (of_all_moves n) h (l ∷ ls) ≡ [] → ⊥
some-text o n h l ls e =
    let above : List ℕ = flat_map entry_text (filter_entries (of_all_moves n) h.number (entries_of_moments o h.outlook h.number h.pick h.moments)) in
    let lines : flat_map named_line_text (l ∷ ls) ≡ [] = no-end above (flat_map named_line_text (l ∷ ls)) e in
    let first : named_line_text l ≡ [] = no-begin (named_line_text l) (flat_map named_line_text ls) lines in
    cc first

no-text : (o : Exports) (n : Option Name) (c : Comparison) (hs : List MoveHistory) → text_of_node_moves o (of_all_moves n) c hs ≡ [] → list_any has_node_line (lines_of_moves o c hs) ≡ false
no-text o n c [] e = refl
no-text o n c (h ∷ hs) e =
    let next : Comparison = after_pick o h.outlook h.pick c (items_of h) in
    go (lines_of_move o h.outlook h.pick c (items_of h)) (text_of_node_moves o (of_all_moves n) next hs) (list_any has_node_line (lines_of_moves o next hs)) e (no-text o n next hs)
  where
    go : (ls : List NamedLine) (rest : List ℕ) (b : Bool) → text_of_node_move o (of_all_moves n) h ls ++ rest ≡ [] → (rest ≡ [] → b ≡ false) → (has_node_line ls || b) ≡ false
    go [] rest b k g = g k
    go (l ∷ ls) rest b k g = absurd (some-text o n h l ls (no-begin (text_of_node_move o (of_all_moves n) h (l ∷ ls)) rest k))

no-account : (o : Exports) (n : Option Name) (c : Comparison) (hs : List MoveHistory) → list_any has_node_line (lines_of_moves o c hs) ≡ false → text_of_node_moves o (of_all_moves n) c hs ≡ []
no-account o n c [] e = refl
no-account o n c (h ∷ hs) e =
    let next : Comparison = after_pick o h.outlook h.pick c (items_of h) in
    go (lines_of_move o h.outlook h.pick c (items_of h)) (text_of_node_moves o (of_all_moves n) next hs) (list_any has_node_line (lines_of_moves o next hs)) e (no-account o n next hs)
  where
    go : (ls : List NamedLine) (rest : List ℕ) (b : Bool) → (has_node_line ls || b) ≡ false → (b ≡ false → rest ≡ []) → text_of_node_move o (of_all_moves n) h ls ++ rest ≡ []
    go [] rest b k g = g k
    go (l ∷ ls) rest b k g = absurd (false≢true (sym k))

pub no_account_where_no_line : NoAccountWhereNoLine
no_account_where_no_line n p picks =
    let c : Comparison = comparison_at_start n p in
    (no-text (exports_of p) n c (move_histories p picks), no-account (exports_of p) n c (move_histories p picks))

-- The account of the chosen moves is empty exactly where no move is chosen.
use Rattle.std.proofs.Common.{◌≡◌, ℕ, Bool, true, false, ◌||◌, if◌then◌else◌, Option, None, refl, sym}
use Rattle.std.specs.Prelude.{List, [], ◌∷◌, ◌++◌, flat_map, codes, decimal}
use Rattle.std.specs.List.{list_any}
use Rattle.std.proofs.lemmas.Bool.{false≢true}
use Rattle.def_term.specs.Names.{Name}
use Rattle.def_script.specs.Exports.{Exports, exports_of}
use Rattle.def_run.specs.History.{Moment, MoveHistory, move_histories}
use Rattle.def_explain.specs.Runs.{AccountEntry, shows, shows_nothing, made_by_all, entries_of_moment, entries_of_moments}
use Rattle.def_explain.specs.RunTexts.{Filter, item_text, move_text, filter_entries, entry_text}
use Rattle.def_message_choice.specs.MessageChoices.{MessageChoice, is_chosen}
use Rattle.def_message_choice.specs.ChosenAccounts.{text_of_move, text_of_chosen}
use Rattle.def_message_choice.specs.Laws.{NoAccountWhereNoneIsChosen}

-- of these sessions, and of all moves
abbrev of_all_moves : Option Name → Filter
of_all_moves n = record { session = n; move = None }

pub no-begin : (a b : List ℕ) → a ++ b ≡ [] → a ≡ []
no-begin [] b h = refl
no-begin (x ∷ a) b h = absurd (cc h)

pub no-end : (a b : List ℕ) → a ++ b ≡ [] → b ≡ []
no-end [] b h = h
no-end (x ∷ a) b h = absurd (cc h)

-- the text of a move isn't empty
pub some-text : (k pick : ℕ) (rest : List ℕ) → move_text k pick rest ≡ [] → ⊥
some-text k pick rest e = cc (no-end (decimal k ++ 32 ∷ decimal pick ++ rest) (10 ∷ []) e)

-- a move has a line at least
some-line : (o : Exports) (n : Option Name) (h : MoveHistory) → text_of_move o (of_all_moves n) h ≡ [] → ⊥
some-line o n h e = go h.moments e
  where
    go : (ms : List Moment) → flat_map entry_text (filter_entries (of_all_moves n) h.number (entries_of_moments o h.outlook h.number h.pick ms)) ≡ [] → ⊥
    go [] k = some-text h.number h.pick (codes " nothing") (no-begin (entry_text (shows_nothing h.number h.pick)) [] k)
    go (m ∷ ms) k =
        let rest : List AccountEntry = made_by_all o h.outlook m.before m.item ++ flat_map (entries_of_moment o h.outlook) ms in
        some-text m.move m.pick (item_text m.item) (no-begin (entry_text (shows m.move m.pick m.item)) (flat_map entry_text (filter_entries (of_all_moves n) m.move rest)) k)

module _ (c : MessageChoice) (o : Exports) (n : Option Name) where
  none-chosen : (hs : List MoveHistory) → flat_map (text_of_chosen c o (of_all_moves n)) hs ≡ [] → list_any (is_chosen c n) hs ≡ false
  none-chosen [] e = refl
  none-chosen (h ∷ hs) e = go (is_chosen c n h) e (none-chosen hs)
    where
      go : (b : Bool) → (if b then text_of_move o (of_all_moves n) h else []) ++ flat_map (text_of_chosen c o (of_all_moves n)) hs ≡ []
          → (flat_map (text_of_chosen c o (of_all_moves n)) hs ≡ [] → list_any (is_chosen c n) hs ≡ false) → (b || list_any (is_chosen c n) hs) ≡ false
      go true k rest = absurd (some-line o n h (no-begin (text_of_move o (of_all_moves n) h) (flat_map (text_of_chosen c o (of_all_moves n)) hs) k))
      go false k rest = rest k

  no-text : (hs : List MoveHistory) → list_any (is_chosen c n) hs ≡ false → flat_map (text_of_chosen c o (of_all_moves n)) hs ≡ []
  no-text [] e = refl
  no-text (h ∷ hs) e = go (is_chosen c n h) e (no-text hs)
    where
      go : (b : Bool) → (b || list_any (is_chosen c n) hs) ≡ false → (list_any (is_chosen c n) hs ≡ false → flat_map (text_of_chosen c o (of_all_moves n)) hs ≡ [])
          → (if b then text_of_move o (of_all_moves n) h else []) ++ flat_map (text_of_chosen c o (of_all_moves n)) hs ≡ []
      go true k rest = absurd (false≢true (sym k))
      go false k rest = rest k

pub no_account_where_none_is_chosen : NoAccountWhereNoneIsChosen
no_account_where_none_is_chosen c n p picks = (none-chosen c (exports_of p) n (move_histories p picks), no-text c (exports_of p) n (move_histories p picks))

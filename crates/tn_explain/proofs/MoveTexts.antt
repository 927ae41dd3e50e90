-- The text of the entries of one move, one after the other.
use Rattle.std.proofs.Common.{◌≡◌, ◌∙◌, ℕ, Bool, true, false, if◌then◌else◌, ◌&&◌, List, [], ◌∷◌, ◌++◌, map, flat_map, refl, sym, ap, append-nil, append_assoc, codes, decimal}
use Rattle.std.proofs.lemmas.Grind.{flat_map-append}
use Rattle.def_term.specs.Names.{Name}
use Rattle.def_script.specs.Exports.{Exports}
use Rattle.def_outlook.specs.Outlook.{Outlook}
use Rattle.def_run.specs.Run.{HistoryItem}
use Rattle.def_run.specs.History.{NamedSession, all_after}
use Rattle.def_explain.specs.Accounts.{Line}
use Rattle.def_explain.specs.Runs.{session_lines, AccountEntry, shows, shows_nothing, makes, made_by_all, entries_over, entries_of_move}
use Rattle.def_explain.specs.RunTexts.{Filter, is_move, is_session, item_text, entry_text, filter_entries}
use Rattle.tn_text.specs.Writes.{Grows}
use Rattle.tn_explain.specs.Lines.{lines_text}
use Rattle.tn_explain.specs.Filters.{filtered_text}

-- these entries are of the move of this number
abbrev pub AreOf : ℕ → List AccountEntry → Type 0
AreOf k [] = Unit {0}
AreOf k (shows j pick x ∷ es) = (j ≡ k) × AreOf k es
AreOf k (shows_nothing j pick ∷ es) = (j ≡ k) × AreOf k es
AreOf k (makes n l ∷ es) = AreOf k es

are-append : (k : ℕ) (es fs : List AccountEntry) → AreOf k es → AreOf k fs → AreOf k (es ++ fs)
are-append k [] fs h g = g
are-append k (shows j pick x ∷ es) fs h g = (h.0, are-append k es fs h.1 g)
are-append k (shows_nothing j pick ∷ es) fs h g = (h.0, are-append k es fs h.1 g)
are-append k (makes n l ∷ es) fs h g = are-append k es fs h g

pub are_made : (k : ℕ) (n : Name) (ls : List Line) → AreOf k (map (makes n) ls)
are_made k n [] = tt
are_made k n (l ∷ ls) = are_made k n ls

pub are_made_by_all : (k : ℕ) (o : Exports) (l : Outlook) (ss : List NamedSession) (x : HistoryItem) → AreOf k (made_by_all o l ss x)
are_made_by_all k o l [] x = tt
are_made_by_all k o l (s ∷ ss) x = are-append k (map (makes s.0) (session_lines o l s x)) (made_by_all o l ss x) (are_made k s.0 (session_lines o l s x)) (are_made_by_all k o l ss x)

are_over : (k pick : ℕ) (o : Exports) (l : Outlook) (ss : List NamedSession) (xs : List HistoryItem) → AreOf k (entries_over o l k pick ss xs)
are_over k pick o l ss [] = tt
are_over k pick o l ss (x ∷ xs) =
    (refl, are-append k (made_by_all o l ss x) (entries_over o l k pick (all_after o ss x) xs) (are_made_by_all k o l ss x) (are_over k pick o l (all_after o ss x) xs))

pub are_of_move : (k pick : ℕ) (o : Exports) (l : Outlook) (ss : List NamedSession) (xs : List HistoryItem) → AreOf k (entries_of_move o l k pick ss xs)
are_of_move k pick o l ss [] = (refl, tt)
are_of_move k pick o l ss (x ∷ xs) = are_over k pick o l ss (x ∷ xs)

kept_here : {X : Type 0} (b : Bool) (x : X) (xs ys : List X) → (if b then x ∷ (xs ++ ys) else (xs ++ ys)) ≡ (if b then x ∷ xs else xs) ++ ys
kept_here true x xs ys = refl
kept_here false x xs ys = refl

wanted-append : (a : Filter) (j k : ℕ) (es fs : List AccountEntry) → j ≡ k → AreOf k es → filter_entries a j (es ++ fs) ≡ filter_entries a j es ++ filter_entries a k fs
wanted-append a j k [] fs e h = ap (λ i. filter_entries a i fs) e
wanted-append a j k (shows i pick x ∷ es) fs e h =
    ap (λ zs. if is_move a.move i then shows i pick x ∷ zs else zs) (wanted-append a i k es fs h.0 h.1) ∙ kept_here (is_move a.move i) (shows i pick x) (filter_entries a i es) (filter_entries a k fs)
wanted-append a j k (shows_nothing i pick ∷ es) fs e h =
    ap (λ zs. if is_move a.move i then shows_nothing i pick ∷ zs else zs) (wanted-append a i k es fs h.0 h.1) ∙ kept_here (is_move a.move i) (shows_nothing i pick) (filter_entries a i es) (filter_entries a k fs)
wanted-append a j k (makes n l ∷ es) fs e h =
    let b : Bool = is_move a.move j && is_session a.session n in
    ap (λ zs. if b then makes n l ∷ zs else zs) (wanted-append a j k es fs e h) ∙ kept_here b (makes n l) (filter_entries a j es) (filter_entries a k fs)

-- entries after those of a move
pub text-append : (a : Filter) (k : ℕ) (es fs : List AccountEntry) → AreOf k es → filtered_text a k (es ++ fs) ≡ filtered_text a k es ++ filtered_text a k fs
text-append a k es fs h = ap (flat_map entry_text) (wanted-append a k k es fs refl h) ∙ flat_map-append entry_text (filter_entries a k es) (filter_entries a k fs)

-- what is written of a move doesn't depend on the move before it
pub text_of_next : (a : Filter) (j k pick : ℕ) (o : Exports) (l : Outlook) (ss : List NamedSession) (xs : List HistoryItem) (fs : List AccountEntry) → filtered_text a j (entries_of_move o l k pick ss xs ++ fs) ≡ filtered_text a k (entries_of_move o l k pick ss xs) ++ filtered_text a k fs
text_of_next a j k pick o l ss [] fs = text-append a k (shows_nothing k pick ∷ []) fs (refl, tt)
text_of_next a j k pick o l ss (x ∷ xs) fs = text-append a k (entries_over o l k pick ss (x ∷ xs)) fs (are_over k pick o l ss (x ∷ xs))

-- ---- one session's lines

all_wanted : (a : Filter) (k : ℕ) (n : Name) (ls : List Line) → (is_move a.move k && is_session a.session n) ≡ true → filter_entries a k (map (makes n) ls) ≡ map (makes n) ls
all_wanted a k n [] h = refl
all_wanted a k n (l ∷ ls) h =
    ap (λ b. if b then makes n l ∷ filter_entries a k (map (makes n) ls) else filter_entries a k (map (makes n) ls)) h ∙ ap (λ es. makes n l ∷ es) (all_wanted a k n ls h)

none_wanted : (a : Filter) (k : ℕ) (n : Name) (ls : List Line) → (is_move a.move k && is_session a.session n) ≡ false → filter_entries a k (map (makes n) ls) ≡ []
none_wanted a k n [] h = refl
none_wanted a k n (l ∷ ls) h =
    ap (λ b. if b then makes n l ∷ filter_entries a k (map (makes n) ls) else filter_entries a k (map (makes n) ls)) h ∙ none_wanted a k n ls h

-- where they are asked for
pub lines_wanted : (a : Filter) (k : ℕ) (n : Name) (ls : List Line) → (is_move a.move k && is_session a.session n) ≡ true → filtered_text a k (map (makes n) ls) ≡ lines_text n ls
unfolding lines_text
lines_wanted a k n ls h = ap (flat_map entry_text) (all_wanted a k n ls h)

-- and where they aren't
pub lines_not_wanted : (a : Filter) (k : ℕ) (n : Name) (ls : List Line) → (is_move a.move k && is_session a.session n) ≡ false → filtered_text a k (map (makes n) ls) ≡ []
lines_not_wanted a k n ls h = ap (flat_map entry_text) (none_wanted a k n ls h)

-- ---- the line of what is shown

one_wanted : (b : Bool) (e : AccountEntry) → flat_map entry_text (if b then e ∷ [] else []) ≡ (if b then entry_text e else [])
one_wanted true e = append-nil (entry_text e)
one_wanted false e = refl

pub shown_wanted : (a : Filter) (k pick : ℕ) (x : HistoryItem) → is_move a.move k ≡ true → filtered_text a k (shows k pick x ∷ []) ≡ entry_text (shows k pick x)
shown_wanted a k pick x h = one_wanted (is_move a.move k) (shows k pick x) ∙ ap (λ b. if b then entry_text (shows k pick x) else []) h

pub shown_not_wanted : (a : Filter) (k pick : ℕ) (x : HistoryItem) → is_move a.move k ≡ false → filtered_text a k (shows k pick x ∷ []) ≡ []
shown_not_wanted a k pick x h = one_wanted (is_move a.move k) (shows k pick x) ∙ ap (λ b. if b then entry_text (shows k pick x) else []) h

pub nothing_wanted : (a : Filter) (k pick : ℕ) → is_move a.move k ≡ true → filtered_text a k (shows_nothing k pick ∷ []) ≡ entry_text (shows_nothing k pick)
nothing_wanted a k pick h = one_wanted (is_move a.move k) (shows_nothing k pick) ∙ ap (λ b. if b then entry_text (shows_nothing k pick) else []) h

pub nothing_not_wanted : (a : Filter) (k pick : ℕ) → is_move a.move k ≡ false → filtered_text a k (shows_nothing k pick ∷ []) ≡ []
nothing_not_wanted a k pick h = one_wanted (is_move a.move k) (shows_nothing k pick) ∙ ap (λ b. if b then entry_text (shows_nothing k pick) else []) h

-- ---- pieces

-- two pieces, one after the other
pub twice : (o x y z b c : List ℕ) → b ≡ o ++ x → c ≡ b ++ y → z ≡ x ++ y → c ≡ o ++ z
twice o x y z b c first second whole = second ∙ ap (λ s. s ++ y) first ∙ append_assoc o x y ∙ ap (λ s. o ++ s) (sym whole)

-- nothing more
pub none_more : (o z : List ℕ) → z ≡ [] → o ≡ o ++ z
none_more o z h = sym (ap (λ s. o ++ s) h ∙ append-nil o)

-- three pieces
pub thrice : (o x y z u b c d : List ℕ) → b ≡ o ++ x → c ≡ b ++ y → d ≡ c ++ z → u ≡ (x ++ y) ++ z → d ≡ o ++ u
thrice o x y z u b c d first second third whole = twice o (x ++ y) z u c d (twice o x y (x ++ y) b c first second refl) third whole

-- the line of what a move shows
pub shown_written : (a : Filter) (k pick : ℕ) (x : HistoryItem) (o b c d : List ℕ) → is_move a.move k ≡ true → b ≡ o ++ (decimal k ++ 32 ∷ decimal pick) → c ≡ b ++ item_text x → d ≡ c ++ 10 ∷ [] → d ≡ o ++ filtered_text a k (shows k pick x ∷ [])
shown_written a k pick x o b c d filter first second third =
    thrice o (decimal k ++ 32 ∷ decimal pick) (item_text x) (10 ∷ []) (filtered_text a k (shows k pick x ∷ [])) b c d first second third (shown_wanted a k pick x filter)

-- the line of a move that shows nothing
pub nothing_written : (a : Filter) (k pick : ℕ) (o b c : List ℕ) → is_move a.move k ≡ true → b ≡ o ++ (decimal k ++ 32 ∷ decimal pick) → c ≡ b ++ codes " nothing\n" → c ≡ o ++ filtered_text a k (shows_nothing k pick ∷ [])
nothing_written a k pick o b c filter first second =
    twice o (decimal k ++ 32 ∷ decimal pick) (codes " nothing\n") (filtered_text a k (shows_nothing k pick ∷ [])) b c first second
    (nothing_wanted a k pick filter ∙ append_assoc (decimal k ++ 32 ∷ decimal pick) (codes " nothing") (10 ∷ []))

pub shown_skipped : (a : Filter) (k pick : ℕ) (x : HistoryItem) (o : List ℕ) → is_move a.move k ≡ false → o ≡ o ++ filtered_text a k (shows k pick x ∷ [])
shown_skipped a k pick x o h = none_more o (filtered_text a k (shows k pick x ∷ [])) (shown_not_wanted a k pick x h)

pub nothing_skipped : (a : Filter) (k pick : ℕ) (o : List ℕ) → is_move a.move k ≡ false → o ≡ o ++ filtered_text a k (shows_nothing k pick ∷ [])
nothing_skipped a k pick o h = none_more o (filtered_text a k (shows_nothing k pick ∷ [])) (nothing_not_wanted a k pick h)

-- ---- what is written

pub not_yet : (a : List ℕ) → Grows a a
not_yet a = record { added = []; whole = sym (append-nil a) }

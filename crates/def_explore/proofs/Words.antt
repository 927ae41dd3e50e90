-- Of a pattern one word is true at most, and that of the entries is true.
use Rattle.std.proofs.Common.{◌≡◌, ℕ, List, [], ◌∷◌, ◌++◌, Bool, true, false, cond, refl, sym, ◌∙◌, ap, subst, ◌⊎◌, inl, inr}
use Rattle.std.specs.Prelude.{Option, Some, None, unwrap_or}
use Rattle.def_term.specs.Names.{Name}
use Rattle.def_spec.specs.Matching.{Pattern}
use Rattle.def_script.specs.Program.{Program}
use Rattle.def_run.specs.Run.{moves}
use Rattle.def_explore.specs.Rests.{RunQuestion, kept_in}
use Rattle.def_explore.specs.Alike.{IsStateAlike}
use Rattle.def_explore.specs.Answers.{RestEntry, IsRestEntry, IsEntryFor, AreSound}
use Rattle.def_explore.specs.Words.{Word, always, never, sometimes, shows, IsWitness, AllShow, IsTrueWord, shown_by, missed_by, word_by}
use Rattle.def_explore.specs.Words.{Demand, any_word, only_always, only_never, only_sometimes, meets, is_refuted}
use Rattle.def_explore.specs.Lists.{OneOf, EachOf}
use Rattle.def_explore.specs.Laws.{WordIsOne, EntriesShowAll, WordOfEntriesIsTrue, NoTrueWordMeetsWhatIsRefuted, WordMeetsWhatIsNotRefuted}
use Rattle.def_explore.proofs.Alike.{goes_on, moves_alike, idle_alike}

-- where all do it or none does, a witness does as all
witness_agrees : (q : RunQuestion) (a : Pattern) (ss : List Name) (p : Program) (before : List ℕ) (b c : Bool) (j : List ℕ) → IsWitness q a ss p before b j → AllShow q a ss p before c → b ≡ c
witness_agrees q a ss p before b c j w all =
    let alike : IsStateAlike q ss p (before ++ w.from.more) (moves p before ++ w.from.more) = goes_on q ss p before (moves p before) w.from.more (moves_alike q ss p before) in
    let there : IsStateAlike q ss p (before ++ w.from.more) j = subst (IsStateAlike q ss p (before ++ w.from.more)) (sym w.from.goes_on) alike in
    let same : shows a (kept_in q ss p (before ++ w.from.more)) ≡ shows a (kept_in q ss p j) = ap (shows a) there.kept in
    sym (sym (all w.from.more (λ pick. idle_alike q ss p (before ++ w.from.more) j pick there (w.rests pick))) ∙ same ∙ w.does)

not_both : true ≡ false → ⊥
not_both e = cc

-- where none shows a match, none that does is a witness; and the other way round
none_shows : (q : RunQuestion) (a : Pattern) (ss : List Name) (p : Program) (before j : List ℕ) → IsWitness q a ss p before true j → AllShow q a ss p before false → ⊥
none_shows q a ss p before j w all = not_both (witness_agrees q a ss p before true false j w all)

none_misses : (q : RunQuestion) (a : Pattern) (ss : List Name) (p : Program) (before j : List ℕ) → IsWitness q a ss p before false j → AllShow q a ss p before true → ⊥
none_misses q a ss p before j w all = not_both (sym (witness_agrees q a ss p before false true j w all))

pub word_is_one : WordIsOne
word_is_one q a ss p before (always j) (always k) h g = tt
word_is_one q a ss p before (always j) (never k) h g = none_shows q a ss p before j h.0 g.1
word_is_one q a ss p before (always j) (sometimes k l) h g = none_misses q a ss p before l g.1 h.1
word_is_one q a ss p before (never j) (always k) h g = none_shows q a ss p before k g.0 h.1
word_is_one q a ss p before (never j) (never k) h g = tt
word_is_one q a ss p before (never j) (sometimes k l) h g = none_shows q a ss p before k g.0 h.1
word_is_one q a ss p before (sometimes j k) (always l) h g = none_misses q a ss p before k h.1 g.1
word_is_one q a ss p before (sometimes j k) (never l) h g = none_shows q a ss p before j h.0 g.1
word_is_one q a ss p before (sometimes j k) (sometimes l m) h g = tt

pub entries_show_all : EntriesShowAll
entries_show_all q a ss p before es b complete alike more rests = go es alike (complete more rests)
  where
    go : (fs : List RestEntry) → EachOf (λ e. shows a e.kept ≡ b) fs → OneOf (IsEntryFor q ss p (before ++ more)) fs → shows a (kept_in q ss p (before ++ more)) ≡ b
    go [] h k = absurd k
    go (e ∷ fs) h (inl k) = ap (shows a) (sym k) ∙ h.0
    go (e ∷ fs) h (inr k) = go fs h.1 k

-- ---- by entries

-- a sound entry is a witness
entry_witness : (q : RunQuestion) (a : Pattern) (ss : List Name) (p : Program) (before : List ℕ) (e : RestEntry) (b : Bool) → IsRestEntry q ss p before e → shows a e.kept ≡ b → IsWitness q a ss p before b e.journal
entry_witness q a ss p before e b s h = record { from = s.from; rests = s.rests; does = ap (shows a) s.keeps ∙ h }

none_is : (j : List ℕ) → None ≡ Some j → ⊥
none_is j h = cc

some_is : {X : Type 0} (x y : X) → Some x ≡ Some y → x ≡ y
some_is x y h = ap (λ o. unwrap_or o x) h

shown_witness : (q : RunQuestion) (a : Pattern) (ss : List Name) (p : Program) (before : List ℕ) (es : List RestEntry) (j : List ℕ) → AreSound q ss p before es → shown_by a es ≡ Some j → IsWitness q a ss p before true j
shown_witness q a ss p before [] j sound h = absurd (none_is j h)
shown_witness q a ss p before (e ∷ es) j sound h = go (shows a e.kept) refl h (shown_witness q a ss p before es j sound.1)
  where
    go : (b : Bool) → shows a e.kept ≡ b → cond b (Some e.journal) (shown_by a es) ≡ Some j → (shown_by a es ≡ Some j → IsWitness q a ss p before true j) → IsWitness q a ss p before true j
    go true is g later = subst (IsWitness q a ss p before true) (some_is e.journal j g) (entry_witness q a ss p before e true sound.0 is)
    go false is g later = later g

missed_witness : (q : RunQuestion) (a : Pattern) (ss : List Name) (p : Program) (before : List ℕ) (es : List RestEntry) (j : List ℕ) → AreSound q ss p before es → missed_by a es ≡ Some j → IsWitness q a ss p before false j
missed_witness q a ss p before [] j sound h = absurd (none_is j h)
missed_witness q a ss p before (e ∷ es) j sound h = go (shows a e.kept) refl h (missed_witness q a ss p before es j sound.1)
  where
    go : (b : Bool) → shows a e.kept ≡ b → cond b (missed_by a es) (Some e.journal) ≡ Some j → (missed_by a es ≡ Some j → IsWitness q a ss p before false j) → IsWitness q a ss p before false j
    go true is g later = later g
    go false is g later = subst (IsWitness q a ss p before false) (some_is e.journal j g) (entry_witness q a ss p before e false sound.0 is)

some_is_not : (j : List ℕ) → Some j ≡ None → ⊥
some_is_not j h = cc

none_shown : (a : Pattern) (es : List RestEntry) → shown_by a es ≡ None → EachOf (λ e. shows a e.kept ≡ false) es
none_shown a [] h = tt
none_shown a (e ∷ es) h = go (shows a e.kept) refl h (none_shown a es)
  where
    go : (b : Bool) → shows a e.kept ≡ b → cond b (Some e.journal) (shown_by a es) ≡ None → (shown_by a es ≡ None → EachOf (λ f. shows a f.kept ≡ false) es) → (shows a e.kept ≡ false) × EachOf (λ f. shows a f.kept ≡ false) es
    go true is g later = absurd (some_is_not e.journal g)
    go false is g later = (is, later g)

none_missed : (a : Pattern) (es : List RestEntry) → missed_by a es ≡ None → EachOf (λ e. shows a e.kept ≡ true) es
none_missed a [] h = tt
none_missed a (e ∷ es) h = go (shows a e.kept) refl h (none_missed a es)
  where
    go : (b : Bool) → shows a e.kept ≡ b → cond b (missed_by a es) (Some e.journal) ≡ None → (missed_by a es ≡ None → EachOf (λ f. shows a f.kept ≡ true) es) → (shows a e.kept ≡ true) × EachOf (λ f. shows a f.kept ≡ true) es
    go true is g later = (is, later g)
    go false is g later = absurd (some_is_not e.journal g)

no_word : (word : Word) → None ≡ Some word → ⊥
no_word word h = cc

pub word_of_entries_is_true : WordOfEntriesIsTrue
word_of_entries_is_true q a ss p before es whole word sound complete h = go (shown_by a es) (missed_by a es) whole refl refl refl h
  where
    shown : (j : List ℕ) → shown_by a es ≡ Some j → IsWitness q a ss p before true j
    shown j = shown_witness q a ss p before es j sound

    missed : (j : List ℕ) → missed_by a es ≡ Some j → IsWitness q a ss p before false j
    missed j = missed_witness q a ss p before es j sound

    all : (b : Bool) → whole ≡ true → EachOf (λ e. shows a e.kept ≡ b) es → AllShow q a ss p before b
    all b all_tried = entries_show_all q a ss p before es b (complete all_tried)

    go : (s m : Option (List ℕ)) (b : Bool) → shown_by a es ≡ s → missed_by a es ≡ m → whole ≡ b → word_by s m b ≡ Some word → IsTrueWord q a ss p before word
    go (Some j) (Some k) true hs hm hb g = subst (IsTrueWord q a ss p before) (some_is (sometimes j k) word g) (shown j hs, missed k hm)
    go (Some j) (Some k) false hs hm hb g = subst (IsTrueWord q a ss p before) (some_is (sometimes j k) word g) (shown j hs, missed k hm)
    go (Some j) None true hs hm hb g = subst (IsTrueWord q a ss p before) (some_is (always j) word g) (shown j hs, all true hb (none_missed a es hm))
    go None (Some k) true hs hm hb g = subst (IsTrueWord q a ss p before) (some_is (never k) word g) (missed k hm, all false hb (none_shown a es hs))
    go (Some j) None false hs hm hb g = absurd (no_word word g)
    go None (Some k) false hs hm hb g = absurd (no_word word g)
    go None None true hs hm hb g = absurd (no_word word g)
    go None None false hs hm hb g = absurd (no_word word g)

-- ---- demands

pub no_true_word_meets : NoTrueWordMeetsWhatIsRefuted
no_true_word_meets q a ss p before es whole word sound complete refuted is_true = go a.demand word refuted is_true
  where
    shown : (j : List ℕ) → shown_by a.pattern es ≡ Some j → IsWitness q a.pattern ss p before true j
    shown j = shown_witness q a.pattern ss p before es j sound

    missed : (j : List ℕ) → missed_by a.pattern es ≡ Some j → IsWitness q a.pattern ss p before false j
    missed j = missed_witness q a.pattern ss p before es j sound

    all_miss : whole ≡ true → shown_by a.pattern es ≡ None → AllShow q a.pattern ss p before false
    all_miss tried none = entries_show_all q a.pattern ss p before es false (complete tried) (none_shown a.pattern es none)

    all_show : whole ≡ true → missed_by a.pattern es ≡ None → AllShow q a.pattern ss p before true
    all_show tried none = entries_show_all q a.pattern ss p before es true (complete tried) (none_missed a.pattern es none)

    not_always : (x y : Option (List ℕ)) (b : Bool) → shown_by a.pattern es ≡ x → missed_by a.pattern es ≡ y → whole ≡ b → is_refuted only_always x y b ≡ true → (j : List ℕ) → IsTrueWord q a.pattern ss p before (always j) → ⊥
    not_always x (Some k) b hx hy hb h j w = none_misses q a.pattern ss p before k (missed k hy) w.1
    not_always None None true hx hy hb h j w = none_shows q a.pattern ss p before j w.0 (all_miss hb hx)
    not_always (Some l) None true hx hy hb h j w = not_both (sym h)
    not_always (Some l) None false hx hy hb h j w = not_both (sym h)
    not_always None None false hx hy hb h j w = not_both (sym h)

    not_never : (x y : Option (List ℕ)) (b : Bool) → shown_by a.pattern es ≡ x → missed_by a.pattern es ≡ y → whole ≡ b → is_refuted only_never x y b ≡ true → (j : List ℕ) → IsTrueWord q a.pattern ss p before (never j) → ⊥
    not_never (Some k) y b hx hy hb h j w = none_shows q a.pattern ss p before k (shown k hx) w.1
    not_never None None true hx hy hb h j w = none_misses q a.pattern ss p before j w.0 (all_show hb hy)
    not_never None (Some l) true hx hy hb h j w = not_both (sym h)
    not_never None (Some l) false hx hy hb h j w = not_both (sym h)
    not_never None None false hx hy hb h j w = not_both (sym h)

    not_sometimes : (x y : Option (List ℕ)) (b : Bool) → shown_by a.pattern es ≡ x → missed_by a.pattern es ≡ y → whole ≡ b → is_refuted only_sometimes x y b ≡ true → (j k : List ℕ) → IsTrueWord q a.pattern ss p before (sometimes j k) → ⊥
    not_sometimes x y false hx hy hb h j k w = not_both (sym h)
    not_sometimes None y true hx hy hb h j k w = none_shows q a.pattern ss p before j w.0 (all_miss hb hx)
    not_sometimes (Some l) None true hx hy hb h j k w = none_misses q a.pattern ss p before k w.1 (all_show hb hy)
    not_sometimes (Some l) (Some o) true hx hy hb h j k w = not_both (sym h)

    go : (d : Demand) (v : Word) → is_refuted d (shown_by a.pattern es) (missed_by a.pattern es) whole ≡ true → IsTrueWord q a.pattern ss p before v → meets d v ≡ false
    go any_word v h w = absurd (not_both (sym h))
    go only_always (always j) h w = absurd (not_always (shown_by a.pattern es) (missed_by a.pattern es) whole refl refl refl h j w)
    go only_always (never j) h w = refl
    go only_always (sometimes j k) h w = refl
    go only_never (always j) h w = refl
    go only_never (never j) h w = absurd (not_never (shown_by a.pattern es) (missed_by a.pattern es) whole refl refl refl h j w)
    go only_never (sometimes j k) h w = refl
    go only_sometimes (always j) h w = refl
    go only_sometimes (never j) h w = refl
    go only_sometimes (sometimes j k) h w = absurd (not_sometimes (shown_by a.pattern es) (missed_by a.pattern es) whole refl refl refl h j k w)

pub word_meets : WordMeetsWhatIsNotRefuted
word_meets a es h = go a.demand (shown_by a.pattern es) (missed_by a.pattern es) h
  where
    go : (d : Demand) (s m : Option (List ℕ)) → is_refuted d s m true ≡ false → (d ≡ any_word) ⊎ ((word : Word) × (word_by s m true ≡ Some word) × (meets d word ≡ true))
    go any_word s m h = inl refl
    go only_always (Some j) None h = inr (always j, refl, refl)
    go only_always (Some j) (Some k) h = absurd (not_both h)
    go only_always None (Some k) h = absurd (not_both h)
    go only_always None None h = absurd (not_both h)
    go only_never None (Some k) h = inr (never k, refl, refl)
    go only_never (Some j) m h = absurd (not_both h)
    go only_never None None h = absurd (not_both h)
    go only_sometimes (Some j) (Some k) h = inr (sometimes j k, refl, refl)
    go only_sometimes (Some j) None h = absurd (not_both h)
    go only_sometimes None m h = absurd (not_both h)

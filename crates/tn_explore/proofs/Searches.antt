-- States that are tried, and what a search has then.
use Rattle.std.proofs.Common.{◌≡◌, ◌<◌, ◌≤◌, ◌+◌, ◌-◌, ◌⊎◌, min, inl, inr, ℕ, suc, List, [], ◌∷◌, ◌++◌, length, map, take, get_or, Bool, true, false, refl, sym, ap, ◌∙◌, subst, arith, append-nil, append_assoc, length-append}
use Rattle.std.proofs.lemmas.List.{take_all, take_more}
use Rattle.std.proofs.lemmas.List.Elements.{All-contains, All-nil, All-head, All-tail}
use Rattle.std.proofs.lemmas.Bool.{eqb-true}
use Rattle.std.specs.Prelude.{All, ◌||◌}
use Rattle.std.specs.Prelude.{◌==◌}
use Rattle.def_run.specs.Run.{moves, pick_step_after, run_state_of, start}
use Rattle.def_run.proofs.Replay.{room_spent, moves_bounded}
use Rattle.def_run.specs.Laws.{IsIdleAfter}
use Rattle.def_explore.specs.Rests.{IsMovingAfter, IsRestAfter}
use Rattle.def_explore.specs.Lists.{OneOf, EachOf}
use Rattle.def_explore.specs.Answers.{RestEntry, AreDistinct}
use Rattle.def_explore.specs.RunsToEnd.{IsEndEntry, AreCompleteWithin, AreShortestWithin, AreBelowLimit}
use Rattle.def_explore.specs.Alike.{is_pick_among}
use Rattle.def_explore.proofs.Lists.{one_before, one_after, each_also, each_both}
use Rattle.def_explore.proofs.Alike.{moves_alike}
use Rattle.def_explore.proofs.Closed.{state_by, closed_have_all, closed_are_complete, closed_are_shortest}
use Rattle.def_explore.proofs.ReducedJournals.{reduced_ends_are_complete, reduced_ends_are_shortest}
use Rattle.tn_explore.specs.Query.{Query, AdmitsFor, JournalFor, EndFor, AlikeFor, HasStateFor, HasNextFor, IsTriedFor, HasNextBy, AreFirstFor, HaveAllFor, EntryFor, NoLongerFor, kept_for, entry_for}
use Rattle.tn_explore.specs.SearchStates.{HaveAllMoves, HasAllMoves, AreEnough, HasEnoughPicks, IsAdmitted}
use Rattle.tn_explore.specs.Searches.{IsAt, AreAt, Tries, KeepsEntries, GainsAnswer, Answers, AnswersEnd, TriesState, HaveTried, TriesLayer, Explores}
use Rattle.tn_explore.proofs.Lists.{map_both, each_mapped, each_right, each_zip, none_is}
use Rattle.tn_explore.proofs.Tries.{both_ways}

-- where no picks are left out all that move are tried
pub every_move : {S : Type 0} (Journal : S → List ℕ) (IsOf : S → Query → Type 0) (s : S) (picks : List ℕ) → HasEnoughPicks Journal IsOf false s picks → HasAllMoves Journal IsOf s picks
every_move Journal IsOf s picks h a is_of = h a is_of (λ left. absurd (both_ways false left refl))

-- what holds of each pick holds of one that is among them
among : (P : ℕ → Type 0) (picks : List ℕ) (t : ℕ) → is_pick_among t picks ≡ true → All P picks → P t
among P [] t h all = absurd (both_ways false h refl)
among P (x ∷ xs) t h all = go (λ k. among P xs t k (All-tail P x xs all)) (x == t) refl h
  where
    go : (is_pick_among t xs ≡ true → P t) → (b : Bool) → (x == t) ≡ b → b || is_pick_among t xs ≡ true → P t
    go rest true e k = subst P (eqb-true x t e) (All-head P x xs all)
    go rest false e k = rest k

module _ {S : Type 0} (Journal : S → List ℕ) (IsOf : S → Query → Type 0) (a : Query) (depth : ℕ) (s : S) (picks : List ℕ) (old new : List S) where
  -- whichever pick moves was tried
  all_there : (moved : Bool) → HaveAllMoves a (Journal s) picks → Tries Journal IsOf a depth s picks old new moved → HasNextFor a (map Journal new) (Journal s)
  all_there moved all t admitted pick h =
      All-contains (λ k. IsMovingAfter a.program (Journal s) k → HasStateFor a (map Journal new) (Journal s ++ k ∷ [])) picks pick t.has (all pick h) h

  -- picks that are independent of all others move at once
  first_moves : AreFirstFor a (Journal s) picks → (t : ℕ) → is_pick_among t picks ≡ true → IsMovingAfter a.program (Journal s) t
  first_moves f t there =
      let none : Journal s ++ [] ≡ Journal s = append-nil (Journal s) in
      subst (λ js. IsMovingAfter a.program js t) none (f.independent [] (All-nil (λ other. is_pick_among other picks ≡ false)) (subst (λ js. length (moves a.program js) < 65536) (sym none) f.room) t there).0

  first_there : (moved : Bool) → AreFirstFor a (Journal s) picks → Tries Journal IsOf a depth s picks old new moved → IsTriedFor a (map Journal new) (Journal s)
  first_there moved f t = inr (record {
    all = f.all;
    first = record {
      picks = picks;
      one = f.one;
      there = f.there;
      independent = f.independent;
      next = λ k there. among (λ k. IsMovingAfter a.program (Journal s) k → HasStateFor a (map Journal new) (Journal s ++ k ∷ [])) picks k there t.has (first_moves f k there);
    };
  })

  next_there : (left moved : Bool) → AreEnough left a (Journal s) picks → Tries Journal IsOf a depth s picks old new moved → HasNextBy left a (map Journal new) (Journal s)
  next_there false moved all t = all_there moved all t
  next_there true moved (inl all) t = inl (all_there moved all t)
  next_there true moved (inr f) t = first_there moved f t

  -- where none moved nothing moves
  none_moves : HaveAllMoves a (Journal s) picks → Tries Journal IsOf a depth s picks old new false → IsRestAfter a.program (Journal s)
  none_moves all t pick = go (pick_step_after a.program (Journal s) pick).moved refl
    where
      go : (b : Bool) → (pick_step_after a.program (Journal s) pick).moved ≡ b → IsIdleAfter a.program (Journal s) pick
      go true e = absurd (both_ways (pick_step_after a.program (Journal s) pick).moved e (All-contains (IsIdleAfter a.program (Journal s)) picks pick (t.idle refl) (all pick e)))
      go false e = e

  rests_by : (left : Bool) → AreEnough left a (Journal s) picks → Tries Journal IsOf a depth s picks old new false → IsRestAfter a.program (Journal s)
  rests_by false all t = none_moves all t
  rests_by true (inl all) t = none_moves all t
  rests_by true (inr f) t = absurd (both_ways (pick_step_after a.program (Journal s) f.one).moved (first_moves f f.one f.there) (among (IsIdleAfter a.program (Journal s)) picks f.one f.there (t.idle refl)))

  pub state_moves : (left : Bool) (es : List RestEntry) (moved : Bool) → moved ≡ true → AdmitsFor a (Journal s) → AreEnough left a (Journal s) picks → Tries Journal IsOf a depth s picks old new moved → TriesState Journal IsOf left a depth s old new es es
  state_moves left es moved e admitted enough t =
      let one : (pick : ℕ) × IsMovingAfter a.program (Journal s) pick = t.moves e in
      record {
        more = t.more;
        longer = t.longer;
        at = t.at;
        next = next_there left moved enough t;
        answers = inl (record { same = refl; has = λ ends. absurd (no_end one ends) });
      }
    where
      no_end : (pick : ℕ) × IsMovingAfter a.program (Journal s) pick → EndFor a (Journal s) → ⊥
      no_end one (inl rests) = both_ways (pick_step_after a.program (Journal s) one.0).moved one.1 (rests one.0)
      no_end one (inr out) = both_ways (a.admits (kept_for a (Journal s))) admitted out

  pub state_rests : (left : Bool) (es fs : List RestEntry) (moved : Bool) → moved ≡ false → IsOf s a → AreEnough left a (Journal s) picks → Tries Journal IsOf a depth s picks old new moved → AnswersEnd Journal IsOf s es fs → TriesState Journal IsOf left a depth s old new es fs
  state_rests left es fs moved e is_of enough t answers = record {
    more = t.more;
    longer = t.longer;
    at = t.at;
    next = next_there left moved enough t;
    answers = answers a is_of (inl (rests_by left enough (subst (Tries Journal IsOf a depth s picks old new) e t)));
  }

-- what is not admitted isn't gone on from
pub state_ends : {S F : Type 0} (Journal : S → List ℕ) (IsOf : S → Query → Type 0) (Filters : F → Query → Type 0) (f : F) (left : Bool) (a : Query) (depth : ℕ) (s : S) (old : List S) (es fs : List RestEntry) (admitted : Bool) → admitted ≡ false → IsOf s a → Filters f a → AreAt Journal IsOf a depth old → IsAdmitted Journal IsOf Filters f s admitted
    → AnswersEnd Journal IsOf s es fs → TriesState Journal IsOf left a depth s old old es fs
state_ends Journal IsOf Filters f left a depth s old es fs admitted out is_of filters at admits answers =
    let outside : a.admits (kept_for a (Journal s)) ≡ false = admits a is_of filters ∙ out in
    record {
      more = [];
      longer = sym (append-nil old);
      at = at;
      next = out_of left (λ inside pick moving. absurd (both_ways (a.admits (kept_for a (Journal s))) inside outside));
      answers = answers a is_of (inr outside);
    }
  where
    out_of : (left : Bool) → HasNextFor a (map Journal old) (Journal s) → HasNextBy left a (map Journal old) (Journal s)
    out_of false next = next
    out_of true next = inl next

-- what is tried still is where more states are there
next_more : (left : Bool) (a : Query) (js ks : List (List ℕ)) (j : List ℕ) → ((picks : List ℕ) → HasStateFor a js picks → HasStateFor a ks picks) → HasNextBy left a js j → HasNextBy left a ks j
next_more false a js ks j f next = λ admitted pick moving. f (j ++ pick ∷ []) (next admitted pick moving)
next_more true a js ks j f (inl next) = inl (λ admitted pick moving. f (j ++ pick ∷ []) (next admitted pick moving))
next_more true a js ks j f (inr h) = inr (record {
  all = h.all;
  first = record { picks = h.first.picks; one = h.first.one; there = h.first.there; independent = h.first.independent; next = λ t there. f (j ++ t ∷ []) (h.first.next t there) };
})

-- ---- one more journal was tried

distinct_more : (es : List RestEntry) (x : RestEntry) → AreDistinct es → EachOf (λ e. e.kept ≡ x.kept → ⊥) es → AreDistinct (es ++ x ∷ [])
distinct_more [] x h k = (tt, tt)
distinct_more (e ∷ es) x h k = (each_both (λ f. e.kept ≡ f.kept → ⊥) es (x ∷ []) h.0 (k.0, tt), distinct_more es x h.1 k.1)

module _ (left : Bool) (a : Query) (depth : ℕ) (known more tried : List (List ℕ)) (j : List ℕ) (es fs : List RestEntry) (h : HaveTried left a depth known tried es) (from : EachOf (JournalFor a) more) (next : HasNextBy left a (known ++ more) j) (here : JournalFor a j) (long : length j ≡ depth) where
  abbrev Ends : List RestEntry → List ℕ → Type 0
  Ends gs k = EndFor a k → OneOf (EntryFor a k) gs

  abbrev Shorter : List RestEntry → List ℕ → Type 0
  Shorter gs k = EndFor a k → EachOf (NoLongerFor a k) gs

  all_from : EachOf (JournalFor a) (known ++ more)
  all_from = each_both (JournalFor a) known more h.from from

  still_first : HasStateFor a (known ++ more) a.before
  still_first = one_before (AlikeFor a a.before) known more h.first

  all_next : EachOf (HasNextBy left a (known ++ more)) (tried ++ j ∷ [])
  all_next = each_both (HasNextBy left a (known ++ more)) tried (j ∷ [])
      (each_also (HasNextBy left a known) (HasNextBy left a (known ++ more)) tried (λ k. next_more left a known (known ++ more) k (λ picks. one_before (AlikeFor a picks) known more)) h.next)
      (next, tt)

  -- no entry is longer than the journal
  none_longer : EachOf (NoLongerFor a j) es
  none_longer =
      let whole : length (moves a.program j) ≡ depth = ap length here.from.moved ∙ long in
      each_also (λ e. length e.journal ≤ depth) (NoLongerFor a j) es (λ e k same. subst (λ n. length e.journal ≤ n) (sym whole) k) h.short

  stays : KeepsEntries a j es fs → HaveTried left a depth (known ++ more) (tried ++ j ∷ []) fs
  stays s = subst (HaveTried left a depth (known ++ more) (tried ++ j ∷ [])) (sym s.same) (record {
    from = all_from;
    first = still_first;
    next = all_next;
    entries = each_both (Ends es) tried (j ∷ []) h.entries (s.has, tt);
    shortest = each_both (Shorter es) tried (j ∷ []) h.shortest (λ ends. none_longer, tt);
    short = h.short;
    sound = h.sound;
    distinct = h.distinct;
  })

  gains : GainsAnswer a j es fs → HaveTried left a depth (known ++ more) (tried ++ j ∷ []) fs
  gains g = subst (HaveTried left a depth (known ++ more) (tried ++ j ∷ [])) (sym g.longer) (record {
    from = all_from;
    first = still_first;
    next = all_next;
    entries = each_both (Ends gs) tried (j ∷ [])
        (each_also (Ends es) (Ends gs) tried (λ k r ends. one_before (EntryFor a k) es (x ∷ []) (r ends)) h.entries)
        (λ ends. one_after (EntryFor a j) es (x ∷ []) (inl refl), tt);
    shortest = each_both (Shorter gs) tried (j ∷ [])
        (each_zip (Ends es) (Shorter es) (Shorter gs) tried
        (λ k r l ends. each_both (NoLongerFor a k) es (x ∷ []) (l ends) (λ same. absurd (none_is (EntryFor a j) es g.fresh (subst (λ y. OneOf (λ e. e.kept ≡ y) es) (sym same) (r ends))), tt))
        h.entries h.shortest)
        (λ ends. each_both (NoLongerFor a j) es (x ∷ []) none_longer (λ same. whole, tt), tt);
    short = each_both (λ e. length e.journal ≤ depth) es (x ∷ []) h.short (omega arith, tt);
    sound = each_both (IsEndEntry a.admits a.question a.sessions a.program a.before) es (x ∷ []) h.sound (record { from = here.from; ends = record { followed = here.followed; ends = subst (EndFor a) here.from.goes_on g.ends }; keeps = refl }, tt);
    distinct = distinct_more es x h.distinct g.fresh;
  })
    where
      x : RestEntry
      x = entry_for a j

      gs : List RestEntry
      gs = es ++ x ∷ []

      whole : length j ≤ length (moves a.program j)
      whole = let same : length (moves a.program j) ≡ length j = ap length here.from.moved in omega arith

  pub tried_more : Answers a j es fs → HaveTried left a depth (known ++ more) (tried ++ j ∷ []) fs
  tried_more (inl s) = stays s
  tried_more (inr g) = gains g

-- one layer deeper
pub deeper : (left : Bool) (a : Query) (depth : ℕ) (known tried : List (List ℕ)) (es : List RestEntry) → HaveTried left a depth known tried es → HaveTried left a (depth + 1) known tried es
deeper left a depth known tried es h = record {
  from = h.from;
  first = h.first;
  next = h.next;
  entries = h.entries;
  shortest = h.shortest;
  short = each_also (λ e. length e.journal ≤ depth) (λ e. length e.journal ≤ depth + 1) es (λ e k. omega arith) h.short;
  sound = h.sound;
  distinct = h.distinct;
}

-- where all were tried, the entries are complete and shortest, and the journals have all states where no picks are left out
entries_complete : (left : Bool) (a : Query) (depth : ℕ) (js : List (List ℕ)) (es : List RestEntry) → HaveTried left a depth js js es → (left ≡ true → AreBelowLimit a.program js) → AreCompleteWithin a.admits a.question a.sessions a.program a.before es
entries_complete false a depth js es h below = closed_are_complete a.admits a.question a.sessions a.program js a.before es h.first h.next h.entries
entries_complete true a depth js es h below = reduced_ends_are_complete a.admits a.question a.sessions a.program js a.before es h.first h.next (below refl) h.entries

entries_shortest : (left : Bool) (a : Query) (depth : ℕ) (js : List (List ℕ)) (es : List RestEntry) → HaveTried left a depth js js es → (left ≡ true → AreBelowLimit a.program js) → AreShortestWithin a.admits a.question a.sessions a.program a.before es
entries_shortest false a depth js es h below = closed_are_shortest a.admits a.question a.sessions a.program js a.before es h.first h.next h.shortest
entries_shortest true a depth js es h below = reduced_ends_are_shortest a.admits a.question a.sessions a.program js a.before es h.first h.next (below refl) h.shortest

have_all : (left : Bool) (a : Query) (depth : ℕ) (js : List (List ℕ)) (es : List RestEntry) → left ≡ false → HaveTried left a depth js js es → HaveAllFor a js
have_all false a depth js es e h = closed_have_all a.admits a.question a.sessions a.program js a.before h.first h.next
have_all true a depth js es e h = absurd (both_ways true refl e)

-- ---- layers

module _ {S : Type 0} (Journal : S → List ℕ) (IsOf : S → Query → Type 0) (left : Bool) (a : Query) where
  -- the journals of states go on from the first picks
  pub journals_from : (depth : ℕ) (ss : List S) → AreAt Journal IsOf a depth ss → EachOf (JournalFor a) (map Journal ss)
  journals_from depth ss at = each_mapped (JournalFor a) Journal ss (each_also (IsAt Journal IsOf a depth) (λ s. JournalFor a (Journal s)) ss (λ s h. h.from) at)

  module _ (depth : ℕ) (tried : List (List ℕ)) (ss : List S) where
    abbrev pub known : List S → List (List ℕ)
    known new = (tried ++ map Journal ss) ++ map Journal new

    pub layer_starts : (old : List S) (es : List RestEntry) → old ≡ [] → HaveTried left a depth (tried ++ map Journal ss) tried es → HaveTried left a depth (known old) (tried ++ map Journal (take 0 ss)) es
    layer_starts old es none h =
        subst (λ xs. HaveTried left a depth (known xs) (tried ++ []) es) (sym none)
        (subst (λ js. HaveTried left a depth js (tried ++ []) es) (sym (append-nil (tried ++ map Journal ss)))
        (subst (λ js. HaveTried left a depth (tried ++ map Journal ss) js es) (sym (append-nil tried)) h))

    pub layer_goes_on : (i : ℕ) (s : S) (old new : List S) (es fs : List RestEntry) → i < length ss → s ≡ get_or ss i s → IsAt Journal IsOf a depth s → TriesState Journal IsOf left a (depth + 1) s old new es fs
        → HaveTried left a depth (known old) (tried ++ map Journal (take i ss)) es → HaveTried left a depth (known new) (tried ++ map Journal (take (i + 1) ss)) fs
    layer_goes_on i s old new es fs below is here t h =
        let more : List (List ℕ) = map Journal t.more in
        let longer : map Journal new ≡ map Journal old ++ more = ap (map Journal) t.longer ∙ map_both Journal old t.more in
        let whole : known old ++ more ≡ known new = append_assoc (tried ++ map Journal ss) (map Journal old) more ∙ ap (λ js. (tried ++ map Journal ss) ++ js) (sym longer) in
        let taken : take (i + 1) ss ≡ take i ss ++ s ∷ [] = take_more ss i s below ∙ ap (λ x. take i ss ++ x ∷ []) (sym is) in
        let done : tried ++ map Journal (take (i + 1) ss) ≡ (tried ++ map Journal (take i ss)) ++ Journal s ∷ [] =
        ap (λ xs. tried ++ map Journal xs) taken ∙ ap (λ js. tried ++ js) (map_both Journal (take i ss) (s ∷ [])) ∙ sym (append_assoc tried (map Journal (take i ss)) (Journal s ∷ [])) in
        let from : EachOf (JournalFor a) more = journals_from (depth + 1) t.more (each_right (IsAt Journal IsOf a (depth + 1)) old t.more (subst (AreAt Journal IsOf a (depth + 1)) t.longer t.at)) in
        let next : HasNextBy left a (known old ++ more) (Journal s) =
        next_more left a (map Journal new) (known old ++ more) (Journal s) (λ picks there. subst (λ js. HasStateFor a js picks) (sym whole) (one_after (AlikeFor a picks) (tried ++ map Journal ss) (map Journal new) there)) t.next in
        subst (λ js. HaveTried left a depth js (tried ++ map Journal (take (i + 1) ss)) fs) whole
        (subst (λ js. HaveTried left a depth (known old ++ more) js fs) (sym done)
        (tried_more left a depth (known old) more (tried ++ map Journal (take i ss)) (Journal s) es fs h from next here.from here.long t.answers))

    pub layer_ends : (i : ℕ) (new : List S) (es : List RestEntry) (room : ℕ) → length ss ≤ i → AreAt Journal IsOf a (depth + 1) new → HaveTried left a depth (known new) (tried ++ map Journal (take i ss)) es → TriesLayer Journal IsOf left a depth tried ss new es room true
    layer_ends i new es room past at h = record { at = at; done = tried ++ map Journal (take i ss); have = h; all = λ c. ap (λ xs. tried ++ map Journal xs) (take_all i ss past); stops = λ c. absurd (both_ways true refl c) }

    pub layer_stops : (i : ℕ) (new : List S) (es : List RestEntry) (room : ℕ) → room ≤ length new → AreAt Journal IsOf a (depth + 1) new → HaveTried left a depth (known new) (tried ++ map Journal (take i ss)) es → TriesLayer Journal IsOf left a depth tried ss new es room false
    layer_stops i new es room full at h = record { at = at; done = tried ++ map Journal (take i ss); have = h; all = λ c. absurd (both_ways false c refl); stops = λ c. full }

  -- ---- the whole search

  -- what it has before a layer, after so many
  pub record Before (layers : ℕ) (layer : List S) (es : List RestEntry) (states : ℕ) : Type 0 where
    pub depth : ℕ
    pub tried : List (List ℕ)
    pub at : AreAt Journal IsOf a depth layer
    pub have : HaveTried left a depth (tried ++ map Journal layer) tried es
    pub count : states ≡ min (length (tried ++ map Journal layer)) 18446744073709551615
    pub deep : layers ≤ depth
    pub few : layers ≤ 65537
    pub shallow : EachOf (λ j. length j < depth) tried
    pub limit : left ≡ true → depth ≤ 65536

  pub first_at : (s : S) → IsOf s a → Journal s ≡ moves a.program a.before → moves a.program (moves a.program a.before) ≡ moves a.program a.before → IsAt Journal IsOf a (length (Journal s)) s
  first_at s is_of is again = record { is_of = is_of; from = record { from = record { more = []; goes_on = is ∙ sym (append-nil (moves a.program a.before)); moved = ap (moves a.program) is ∙ again ∙ sym is }; followed = tt }; long = refl }

  length_mapped : (ss : List S) → length (map Journal ss) ≡ length ss
  length_mapped [] = refl
  length_mapped (s ∷ ss) = ap suc (length_mapped ss)

  pub before_all : (s : S) (new : List S) (states : ℕ) → Journal s ≡ moves a.program a.before → AreAt Journal IsOf a (length (Journal s)) new → HasStateFor a (map Journal new) (Journal s) → states ≡ length new → states ≤ 18446744073709551615 → Before 0 new [] states
  before_all s new states is at there count fits = record {
    depth = length (Journal s);
    tried = [];
    at = at;
    have = record {
      from = journals_from (length (Journal s)) new at;
      first = state_by a.question a.sessions a.program (map Journal new) a.before (moves a.program a.before) (moves_alike a.question a.sessions a.program a.before) (subst (HasStateFor a (map Journal new)) is there);
      next = tt;
      entries = tt;
      shortest = tt;
      short = tt;
      sound = tt;
      distinct = tt;
    };
    count = let whole : length (map Journal new) ≡ length new = length_mapped new in omega arith;
    deep = omega arith;
    few = omega arith;
    shallow = tt;
    limit = λ out. bounded;
  }
    where
      bounded : length (Journal s) ≤ 65536
      bounded = subst (λ n. n ≤ 65536) (sym (ap length is)) (moves_bounded a.program a.before)

  longer_count : (tried : List (List ℕ)) (layer new : List S) → length ((tried ++ map Journal layer) ++ map Journal new) ≡ length (tried ++ map Journal layer) + length new
  longer_count tried layer new = length-append (tried ++ map Journal layer) (map Journal new) ∙ (λ i. length (tried ++ map Journal layer) + length_mapped new i)

  -- a layer that has a state is no deeper than journals are long
  depth_bounded : (depth : ℕ) (layer : List S) (n : ℕ) → length layer ≡ n → (n == 0) ≡ false → AreAt Journal IsOf a depth layer → depth ≤ 65536
  depth_bounded depth [] n e some at = absurd (both_ways (n == 0) (ap (λ k. k == 0) (sym e)) some)
  depth_bounded depth (s ∷ ss) n e some at =
      let spent : length (moves a.program (Journal s)) + (run_state_of a.program (Journal s)).room ≡ 65536 = room_spent a.program.functions (start a.program) (Journal s) in
      let same : length (moves a.program (Journal s)) ≡ length (Journal s) = ap length at.0.from.from.moved in
      let long : length (Journal s) ≡ depth = at.0.long in
      omega arith

  -- what a layer that was lent is tried to
  pub tried_layer : (layers : ℕ) (layer lent new : List S) (es fs : List RestEntry) (states room : ℕ) (complete : Bool) (b : Before layers layer es states) → lent ≡ layer
      → ((depth : ℕ) (tried : List (List ℕ)) → AreAt Journal IsOf a depth lent → HaveTried left a depth (tried ++ map Journal lent) tried es → TriesLayer Journal IsOf left a depth tried lent new fs room complete)
      → TriesLayer Journal IsOf left a b.depth b.tried layer new fs room complete
  tried_layer layers layer lent new es fs states room complete b same t =
      subst (λ xs. TriesLayer Journal IsOf left a b.depth b.tried xs new fs room complete) same
      (t b.depth b.tried (subst (AreAt Journal IsOf a b.depth) (sym same) b.at) (subst (λ xs. HaveTried left a b.depth (b.tried ++ map Journal xs) b.tried es) (sym same) b.have))

  layer_shallow : (depth : ℕ) (ss : List S) → AreAt Journal IsOf a depth ss → EachOf (λ j. length j < depth + 1) (map Journal ss)
  layer_shallow depth ss at = each_mapped (λ j. length j < depth + 1) Journal ss (each_also (IsAt Journal IsOf a depth) (λ s. length (Journal s) < depth + 1) ss (λ s h. let long : length (Journal s) ≡ depth = h.long in omega arith) at)

  -- the layer after one that has room isn't deeper than journals are long
  next_limit : (layer : List S) (n depth : ℕ) → length layer ≡ n → (n == 0) ≡ false → (layer ≡ []) ⊎ (depth < 65536) → depth + 1 ≤ 65536
  next_limit layer n depth e some (inl none) = absurd (both_ways (n == 0) (ap (λ k. k == 0) (sym e ∙ ap length none)) some)
  next_limit layer n depth e some (inr room) = omega arith

  pub before_next : (layers : ℕ) (layer new : List S) (old es : List RestEntry) (states room met n : ℕ) (complete : Bool) (b : Before layers layer old states) → complete ≡ true → length layer ≡ n → (n == 0) ≡ false
      → (left ≡ true → (layer ≡ []) ⊎ (b.depth < 65536)) → TriesLayer Journal IsOf left a b.depth b.tried layer new es room complete → met ≡ min (states + length new) 18446744073709551615 → Before (layers + 1) new es met
  before_next layers layer new old es states room met n complete b all e some room_left t sum =
      let grown : length ((b.tried ++ map Journal layer) ++ map Journal new) ≡ length (b.tried ++ map Journal layer) + length new = longer_count b.tried layer new in
      let so_far : states ≡ min (length (b.tried ++ map Journal layer)) 18446744073709551615 = b.count in
      let bound : b.depth ≤ 65536 = depth_bounded b.depth layer n e some b.at in
      let deep : layers ≤ b.depth = b.deep in
      record {
        depth = b.depth + 1;
        tried = b.tried ++ map Journal layer;
        at = t.at;
        have = deeper left a b.depth ((b.tried ++ map Journal layer) ++ map Journal new) (b.tried ++ map Journal layer) es (subst (λ js. HaveTried left a b.depth ((b.tried ++ map Journal layer) ++ map Journal new) js es) (t.all all) t.have);
        count = omega arith;
        deep = omega arith;
        few = omega arith;
        shallow = each_both (λ j. length j < b.depth + 1) b.tried (map Journal layer) (each_also (λ j. length j < b.depth) (λ j. length j < b.depth + 1) b.tried (λ j k. omega arith) b.shallow) (layer_shallow b.depth layer b.at);
        limit = λ out. next_limit layer n b.depth e some (room_left out);
      }

  -- journals of fewer picks than fit are not full
  below_limit : (depth : ℕ) (js : List (List ℕ)) → depth ≤ 65536 → EachOf (JournalFor a) js → EachOf (λ j. length j < depth) js → AreBelowLimit a.program js
  below_limit depth js fits from shallow = each_zip (JournalFor a) (λ j. length j < depth) (λ j. length (moves a.program j) < 65536) js (λ j f k. let same : length (moves a.program j) ≡ length j = ap length f.from.moved in omega arith) from shallow

  pub explored : (layers : ℕ) (layer : List S) (es : List RestEntry) (max_states states : ℕ) → layer ≡ [] → Before layers layer es states → Explores left a es max_states states true
  explored layers layer es max_states states none b =
      let js : List (List ℕ) = b.tried in
      let empty : b.tried ++ map Journal layer ≡ js = ap (λ xs. b.tried ++ map Journal xs) none ∙ append-nil b.tried in
      let h : HaveTried left a b.depth js js es = subst (λ ks. HaveTried left a b.depth ks js es) empty b.have in
      record {
        sound = h.sound;
        distinct = h.distinct;
        complete = λ c. entries_complete left a b.depth js es h (λ out. below_limit b.depth js (b.limit out) h.from b.shallow);
        shortest = λ c. entries_shortest left a b.depth js es h (λ out. below_limit b.depth js (b.limit out) h.from b.shallow);
        count = record { journals = js; from = h.from; count = b.count ∙ ap (λ ks. min (length ks) 18446744073709551615) empty; all = λ c none_left. have_all left a b.depth js es none_left h };
        stops = λ c. absurd (both_ways true refl c);
      }

  -- where the search ends before all states were tried
  pub explored_part : (layers : ℕ) (layer new : List S) (old es : List RestEntry) (max_states states room met : ℕ) (complete : Bool) (b : Before layers layer old states) → complete ≡ false
      → TriesLayer Journal IsOf left a b.depth b.tried layer new es room complete → met ≡ min (states + length new) 18446744073709551615 → room ≡ max_states - states → max_states ≤ 18446744073709551615 → Explores left a es max_states met complete
  explored_part layers layer new old es max_states states room met complete b some t sum remains fits =
      let grown : length ((b.tried ++ map Journal layer) ++ map Journal new) ≡ length (b.tried ++ map Journal layer) + length new = longer_count b.tried layer new in
      let so_far : states ≡ min (length (b.tried ++ map Journal layer)) 18446744073709551615 = b.count in
      let full : room ≤ length new = t.stops some in
      let h : HaveTried left a b.depth ((b.tried ++ map Journal layer) ++ map Journal new) t.done es = t.have in
      record {
        sound = h.sound;
        distinct = h.distinct;
        complete = λ c. absurd (both_ways complete c some);
        shortest = λ c. absurd (both_ways complete c some);
        count = record { journals = (b.tried ++ map Journal layer) ++ map Journal new; from = h.from; count = omega arith; all = λ c. absurd (both_ways complete c some) };
        stops = λ c. omega arith;
      }

  -- there are no more layers than journals have lengths
  pub no_more_layers : (layers : ℕ) (layer : List S) (es : List RestEntry) (states : ℕ) → 65538 ≤ layers → Before layers layer es states → ⊥
  no_more_layers layers layer es states past b = let few : layers ≤ 65537 = b.few in absurd (omega arith)

pub empty_is : {X : Type 0} (xs : List X) (n : ℕ) → length xs ≡ n → n ≡ 0 → xs ≡ []
empty_is [] n e h = refl
empty_is (x ∷ xs) n e h = absurd (omega arith)

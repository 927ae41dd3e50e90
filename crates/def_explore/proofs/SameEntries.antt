-- Entries that are sound, complete and shortest are the same but for which journals they have.
use Rattle.std.proofs.Common.{◌≡◌, ◌≤◌, ℕ, Bool, List, [], ◌∷◌, ◌++◌, length, inl, inr, sym, ap, ◌∙◌, subst, arith}
use Rattle.def_term.specs.Names.{Name}
use Rattle.def_script.specs.Program.{Program}
use Rattle.def_run.specs.Run.{moves}
use Rattle.def_explore.specs.Rests.{RunQuestion, KeptMessages, kept_in}
use Rattle.def_explore.specs.Alike.{IsStateAlike}
use Rattle.def_explore.specs.Answers.{RestEntry, IsEntryFor, IsNoLonger}
use Rattle.def_explore.specs.RunsToEnd.{IsRunToEnd, IsEndEntry, AreSoundWithin, AreCompleteWithin, AreShortestWithin}
use Rattle.def_explore.specs.Lists.{OneOf, EachOf}
use Rattle.def_explore.specs.Laws.{HaveTheSame, EntriesAreDetermined}
use Rattle.def_explore.proofs.Alike.{goes_on, moves_alike, moved_alike}
use Rattle.def_explore.proofs.RunsToEnd.{run_alike}

module _ (admits : KeptMessages → Bool) (q : RunQuestion) (ss : List Name) (p : Program) (before : List ℕ) where
  -- the run of an entry, by picks that go on from the first ones
  record RunOf (e : RestEntry) : Type 0 where
    more : List ℕ
    run : IsRunToEnd admits q ss p before more
    keeps : kept_in q ss p (before ++ more) ≡ e.kept
    long : length (moves p (before ++ more)) ≡ length e.journal

  run_of : (e : RestEntry) → IsEndEntry admits q ss p before e → RunOf e
  run_of e h =
      let picks : List ℕ = before ++ h.from.more in
      let first : IsStateAlike q ss p before (moves p before) = moves_alike q ss p before in
      let alike : IsStateAlike q ss p picks e.journal = subst (IsStateAlike q ss p picks) (sym h.from.goes_on) (goes_on q ss p before (moves p before) h.from.more first) in
      record {
        more = h.from.more;
        run = run_alike admits q ss p h.from.more before (moves p before) first h.ends;
        keeps = alike.kept ∙ h.keeps;
        long = moved_alike q ss p picks e.journal alike ∙ ap length h.from.moved;
      }

  -- two properties of each, where a third of one follows
  one_with : {X : Type 0} (P Q R S : X → Type 0) (xs : List X) → ((x : X) → P x → Q x → R x → S x) → EachOf P xs → EachOf Q xs → OneOf R xs → OneOf S xs
  one_with P Q R S [] f h k r = absurd r
  one_with P Q R S (x ∷ xs) f h k (inl r) = inl (f x h.0 k.0 r)
  one_with P Q R S (x ∷ xs) f h k (inr r) = inr (one_with P Q R S xs f h.1 k.1 r)

  -- that is no longer than each run to its end that keeps the same
  abbrev Shortest : RestEntry → Type 0
  Shortest e = (more : List ℕ) → IsRunToEnd admits q ss p before more → IsNoLonger q ss p (before ++ more) e

  each_shortest : (es : List RestEntry) → AreShortestWithin admits q ss p before es → EachOf Shortest es
  each_shortest [] h = tt
  each_shortest (e ∷ es) h = (λ more run. (h more run).0, each_shortest es (λ more run. (h more run).1))

  same_length : (e f : RestEntry) → RunOf e → RunOf f → Shortest e → Shortest f → f.kept ≡ e.kept → length f.journal ≡ length e.journal
  same_length e f r s short_e short_f same =
      let a : length f.journal ≤ length (moves p (before ++ r.more)) = short_f r.more r.run (same ∙ sym r.keeps) in
      let b : length e.journal ≤ length (moves p (before ++ s.more)) = short_e s.more s.run (sym same ∙ sym s.keeps) in
      let c : length (moves p (before ++ r.more)) ≡ length e.journal = r.long in
      let d : length (moves p (before ++ s.more)) ≡ length f.journal = s.long in
      omega arith

  determined : (fs : List RestEntry) → AreSoundWithin admits q ss p before fs → EachOf Shortest fs → AreCompleteWithin admits q ss p before fs → (es : List RestEntry) → AreSoundWithin admits q ss p before es → EachOf Shortest es → HaveTheSame es fs
  determined fs sound short complete [] h k = tt
  determined fs sound short complete (e ∷ es) h k =
      let r : RunOf e = run_of e h.0 in (
        one_with (IsEndEntry admits q ss p before) Shortest (IsEntryFor q ss p (before ++ r.more)) (λ f. (f.kept ≡ e.kept) × (length f.journal ≡ length e.journal)) fs
            (λ f s l has. (has ∙ r.keeps, same_length e f r (run_of f s) k.0 l (has ∙ r.keeps)))
            sound short (complete r.more r.run),
        determined fs sound short complete es h.1 k.1,
      )

pub are_determined : EntriesAreDetermined
are_determined admits q ss p before es fs sound short others shorter complete = determined admits q ss p before fs others (each_shortest admits q ss p before fs shorter) complete es sound (each_shortest admits q ss p before es short)

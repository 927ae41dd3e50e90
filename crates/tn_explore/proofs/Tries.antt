-- Picks that are tried one after the other.
use Rattle.std.proofs.Common.{◌≡◌, ◌<◌, ◌≤◌, ◌+◌, ℕ, List, [], ◌∷◌, ◌++◌, length, map, take, get_or, Bool, true, false, refl, sym, ap, ◌∙◌, subst, append-nil, append_assoc, length-append, if◌then◌else◌}
use Rattle.std.proofs.lemmas.List.{take_all}
use Rattle.std.proofs.lemmas.List.Elements.{All-nil, All-more, All-weaker}
use Rattle.def_term.specs.Names.{Name}
use Rattle.def_script.specs.Program.{Program}
use Rattle.def_run.specs.Run.{moves, start, pick_step_after}
use Rattle.def_run.proofs.Appends.{moves-append}
use Rattle.def_run.specs.Laws.{IsIdleAfter}
use Rattle.def_explore.specs.Rests.{IsMovingAfter, KeptMessages, RunQuestion, kept_in}
use Rattle.def_explore.specs.RunsToEnd.{IsFollowed}
use Rattle.def_explore.proofs.Lists.{one_before}
use Rattle.tn_explore.specs.Query.{Query, AdmitsFor, AlikeFor, HasStateFor}
use Rattle.tn_explore.specs.SearchStates.{StepGives}
use Rattle.tn_explore.specs.Searches.{IsAt, AreAt, AddsState, Tries}

pub both_ways : (b : Bool) → b ≡ true → b ≡ false → ⊥
both_ways b h k = cc

-- a pick that moves is one more in the journal
moved_one : (p : Program) (picks : List ℕ) (pick : ℕ) → moves p picks ≡ picks → IsMovingAfter p picks pick → moves p (picks ++ pick ∷ []) ≡ picks ++ pick ∷ []
moved_one p picks pick all h =
    moves-append p.functions (start p) picks (pick ∷ [])
    ∙ ap (λ b. moves p picks ++ ((if b then pick ∷ [] else []) ++ [])) h
    ∙ ap (λ xs. xs ++ pick ∷ []) all

module _ {S : Type 0} (Journal : S → List ℕ) (IsOf : S → Query → Type 0) (a : Query) (depth : ℕ) (s : S) where
  abbrev HasFrom : List S → ℕ → Type 0
  HasFrom ss pick = IsMovingAfter a.program (Journal s) pick → HasStateFor a (map Journal ss) (Journal s ++ pick ∷ [])

  abbrev IsIdleFrom : ℕ → Type 0
  IsIdleFrom pick = IsIdleAfter a.program (Journal s) pick

  pub tries_start : (ss : List S) → AreAt Journal IsOf a depth ss → Tries Journal IsOf a depth s [] ss ss false
  tries_start ss at = record { more = []; longer = sym (append-nil ss); at = at; has = All-nil (HasFrom ss); idle = λ h. All-nil IsIdleFrom; moves = λ h. absurd (both_ways false h refl) }

  pub tries_idle : (picks : List ℕ) (i : ℕ) (old new : List S) (moved : Bool) → i < length picks → IsIdleFrom (get_or picks i 0) → Tries Journal IsOf a depth s (take i picks) old new moved → Tries Journal IsOf a depth s (take (i + 1) picks) old new moved
  tries_idle picks i old new moved below idle t = record {
    more = t.more;
    longer = t.longer;
    at = t.at;
    has = All-more (HasFrom new) picks i 0 below t.has (λ h. absurd (both_ways (pick_step_after a.program (Journal s) (get_or picks i 0)).moved h idle));
    idle = λ h. All-more IsIdleFrom picks i 0 below (t.idle h) idle;
    moves = t.moves;
  }

  map_both : (xs ys : List S) → map Journal (xs ++ ys) ≡ map Journal xs ++ map Journal ys
  map_both [] ys = refl
  map_both (x ∷ xs) ys = ap (λ zs. Journal x ∷ zs) (map_both xs ys)

  -- what was there stays
  pub has_still : (picks : List ℕ) (xs more ys : List S) → ys ≡ xs ++ more → HasStateFor a (map Journal xs) picks → HasStateFor a (map Journal ys) picks
  has_still picks xs more ys e h = subst (λ zs. HasStateFor a zs picks) (sym (ap (map Journal) e ∙ map_both xs more)) (one_before (AlikeFor a picks) (map Journal xs) (map Journal more) h)

  pub tries_moved : (picks : List ℕ) (i : ℕ) (old new newer : List S) (moved : Bool) (t : S) → i < length picks → StepGives Journal IsOf a (Journal s) (get_or picks i 0) t true
      → AddsState Journal IsOf a depth t new newer → Tries Journal IsOf a depth s (take i picks) old new moved → Tries Journal IsOf a depth s (take (i + 1) picks) old newer true
  tries_moved picks i old new newer moved u below gives adds t = record {
    more = t.more ++ adds.more;
    longer = adds.longer ∙ ap (λ xs. xs ++ adds.more) t.longer ∙ append_assoc old t.more adds.more;
    at = adds.at;
    has = All-more (HasFrom newer) picks i 0 below
        (All-weaker (HasFrom new) (HasFrom newer) (λ pick h moving. has_still (Journal s ++ pick ∷ []) new adds.more newer adds.longer (h moving)) (take i picks) t.has)
        (λ moving. subst (HasStateFor a (map Journal newer)) gives.1 adds.has);
    idle = λ h. absurd (both_ways true refl h);
    moves = λ h. (get_or picks i 0, gives.0);
  }

  pub tries_end : (picks : List ℕ) (i : ℕ) (old new : List S) (moved : Bool) → length picks ≤ i → Tries Journal IsOf a depth s (take i picks) old new moved → Tries Journal IsOf a depth s picks old new moved
  tries_end picks i old new moved all t = subst (λ ps. Tries Journal IsOf a depth s ps old new moved) (take_all i picks all) t

-- a run that is followed and admitted is followed by one more pick
followed_more : (admits : KeptMessages → Bool) (q : RunQuestion) (ss : List Name) (p : Program) (more picks : List ℕ) (pick : ℕ) → IsFollowed admits q ss p picks more → admits (kept_in q ss p (picks ++ more)) ≡ true → IsFollowed admits q ss p picks (more ++ pick ∷ [])
followed_more admits q ss p [] picks pick h admitted = (subst (λ js. admits (kept_in q ss p js) ≡ true) (append-nil picks) admitted, tt)
followed_more admits q ss p (one ∷ more) picks pick h admitted =
    (h.0, followed_more admits q ss p more (picks ++ one ∷ []) pick h.1 (subst (λ js. admits (kept_in q ss p js) ≡ true) (sym (append_assoc picks (one ∷ []) more)) admitted))

-- the state after a step is where its journal leads
pub stepped_at : {S : Type 0} (Journal : S → List ℕ) (IsOf : S → Query → Type 0) (a : Query) (depth : ℕ) (s : S) (pick : ℕ) (t : S) → AdmitsFor a (Journal s) → IsAt Journal IsOf a depth s → StepGives Journal IsOf a (Journal s) pick t true → IsAt Journal IsOf a (depth + 1) t
stepped_at Journal IsOf a depth s pick t admitted here gives =
    let counted : length (Journal t) ≡ length (Journal s) + 1 = ap length gives.1 ∙ length-append (Journal s) (pick ∷ []) in
    record {
      is_of = gives.2;
      from = record {
        from = record {
          more = here.from.from.more ++ pick ∷ [];
          goes_on = gives.1 ∙ ap (λ xs. xs ++ pick ∷ []) here.from.from.goes_on ∙ append_assoc (moves a.program a.before) here.from.from.more (pick ∷ []);
          moved = ap (moves a.program) gives.1 ∙ moved_one a.program (Journal s) pick here.from.from.moved gives.0 ∙ sym gives.1;
        };
        followed = followed_more a.admits a.question a.sessions a.program here.from.from.more (moves a.program a.before) pick here.from.followed (subst (AdmitsFor a) here.from.from.goes_on admitted);
      };
      long = counted ∙ ap (λ n. n + 1) here.long;
    }

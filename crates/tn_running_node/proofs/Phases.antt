-- A pair of sessions by its phase.
use Rattle.std.proofs.Common.{◌≡◌, Bool, true, false, List, [], refl, sym, subst, append-nil, option_to_list, ℕ}
use Rattle.std.specs.declared.vec.Vec.{Vec}
use Rattle.def_term.specs.Alive.{Alive}
use Rattle.def_node.specs.Event.{Event}
use Rattle.def_outlook.specs.Outlook as outlook
use Rattle.def_script.specs.Exports.{Exports}
use Rattle.def_session.specs.State.{Phase, absent, live, destroyed, alive_after}
use Rattle.def_session.specs.Session.{event_reported}
use Rattle.def_running_node.specs.NodeRuns as runs
use Rattle.def_running_node.specs.NodeRuns.{run_after, run_messages, lines_by_openness}
use Rattle.def_running_node.specs.NodeSessions.{reported_there}
use Rattle.def_running_node.specs.NodeComparisons as comparison
use Rattle.def_running_node.specs.NodeComparisons.{texts, determined_in, pair_after, pair_elsewhere, pair_after_in, lines_of_event, lines_of_event_in, pair_after_own_link_in, lines_of_own_link_in}
use Rattle.tn_flags.specs.Views.{event_of}
use Rattle.tn_flags.specs.declared.event.Event as flags
use Rattle.tn_node.specs.Outlooks.{outlook_seen}
use Rattle.tn_session.specs.Looks.{is_live}
use Rattle.tn_running_node.specs.Lines.{PutsBothLines}
use Rattle.tn_running_node.specs.Pairs.{IsPair, SawBoth, Saw, live_pair_after}
use Rattle.tn_running_node.specs.Views.{node_run_seen}
use Rattle.tn_running_node.specs.declared.lines.LineKinds.{LineKinds}
use Rattle.tn_running_node.specs.declared.pair.SessionPair.{SessionPair}
use Rattle.tn_running_node.specs.declared.pair.NodeStep.{NodeStep}

live-is : (ph : Phase) → true ≡ is_live ph → ph ≡ live
live-is absent h = cc h
live-is live h = refl
live-is destroyed h = cc h

-- of none nothing is written
pub puts_no_lines : {A : Type 0} (name : List ℕ) (out : Vec ℕ A) (kinds : LineKinds) → kinds.differs ≡ false → kinds.is_open ≡ false → PutsBothLines name [] out out kinds
puts_no_lines name out kinds differs closed = record { written = sym (append-nil out.items); differs = differs; open_lines = closed }

-- ---- one that isn't there

pair-elsewhere : (ph : Phase) (q : runs.NodeRun) (l : outlook.Outlook) (c : comparison.SessionPair) (e : Event) → false ≡ is_live ph → pair_elsewhere c e ≡ pair_after_in ph q l c e
pair-elsewhere absent q l c e h = refl
pair-elsewhere live q l c e h = cc h
pair-elsewhere destroyed q l c e h = refl

lines-elsewhere : (ph : Phase) (r q : runs.NodeRun) (l : outlook.Outlook) (c : comparison.SessionPair) (e : Event) → false ≡ is_live ph → [] ≡ lines_of_event_in ph r q l c e
lines-elsewhere absent r q l c e h = refl
lines-elsewhere live r q l c e h = cc h
lines-elsewhere destroyed r q l c e h = refl

own-pair-elsewhere : (ph : Phase) (r : runs.NodeRun) (c : comparison.SessionPair) → false ≡ is_live ph → c ≡ pair_after_own_link_in ph r c
own-pair-elsewhere absent r c h = refl
own-pair-elsewhere live r c h = cc h
own-pair-elsewhere destroyed r c h = refl

own-lines-elsewhere : (ph : Phase) (r : runs.NodeRun) (c : comparison.SessionPair) (e : Event) → false ≡ is_live ph → [] ≡ lines_of_own_link_in ph r c e
own-lines-elsewhere absent r c e h = refl
own-lines-elsewhere live r c e h = cc h
own-lines-elsewhere destroyed r c e h = refl

module _ {A : Type 0} (o : Exports) (living : Alive) (step : NodeStep A) (e : Event) (c : comparison.SessionPair) (new : SessionPair A) where
  abbrev r : runs.NodeRun
  r = node_run_seen step.run.now

  abbrev l : outlook.Outlook
  l = outlook_seen step.outlook

  pub saw_elsewhere : (out : Vec ℕ A) (kinds : LineKinds) → false ≡ is_live c.here.phase → IsPair o (alive_after living e) (pair_elsewhere c e) new → kinds.differs ≡ false → kinds.is_open ≡ false → Saw o living step e c new out out kinds
  saw_elsewhere out kinds away pair differs closed = record {
    pair = subst (λ d. IsPair o (alive_after living e) d new) (pair-elsewhere c.here.phase (run_after r l e) l c e away) pair;
    lines = subst (λ ls. PutsBothLines c.name ls out out kinds) (lines-elsewhere c.here.phase r (run_after r l e) l c e away) (puts_no_lines c.name out kinds differs closed);
  }

-- ---- a live one

module _ {A : Type 0} (o : Exports) (living : Alive) (step : NodeStep A) (event : flags.Event A) (c : comparison.SessionPair) (new : SessionPair A) (is_determined : Bool) (out out' : Vec ℕ A) (kinds : LineKinds) where
  pub saw_live : true ≡ is_live c.here.phase
      → is_determined ≡ comparison.pair_determined_after (run_after (node_run_seen step.run.now) (outlook_seen step.outlook) (event_of event)) (outlook_seen step.outlook) c (event_of event)
      → SawBoth o step event is_determined c new out out' kinds → Saw o living step (event_of event) c new out out' kinds
  saw_live there is saw =
      let e = event_of event in
      let r = node_run_seen step.run.now in
      let l = outlook_seen step.outlook in
      let q = run_after r l e in
      let ph : live ≡ c.here.phase = sym (live-is c.here.phase there) in
      let here = texts (option_to_list (event_reported c.here e).1) in
      let away = texts (run_messages r l c.there (reported_there c.there.session e).0 e (reported_there c.there.session e).1) in
      record {
        pair =
            subst (λ p. IsPair o (alive_after living e) (pair_after_in p q l c e) new) ph
            (subst (λ b. IsPair o (alive_after living e) (live_pair_after c e b) new) is (saw.pair (alive_after living e)));
        lines =
            subst (λ p. PutsBothLines c.name (lines_of_event_in p r q l c e) out out' kinds) ph
            (subst (λ b. PutsBothLines c.name (lines_by_openness c.is_determined b here away) out out' kinds) is saw.lines);
      }

-- ---- a link of a process with itself

module _ {A : Type 0} (r : runs.NodeRun) (c : comparison.SessionPair) (e : Event) (out out' : Vec ℕ A) (kinds : LineKinds) where
  pub own_link_elsewhere : out ≡ out' → false ≡ is_live c.here.phase → kinds.differs ≡ false → kinds.is_open ≡ false → PutsBothLines c.name (lines_of_own_link_in c.here.phase r c e) out out' kinds
  own_link_elsewhere same away differs closed =
      subst (λ ls. PutsBothLines c.name ls out out' kinds) (own-lines-elsewhere c.here.phase r c e away) (subst (λ v. PutsBothLines c.name [] out v kinds) same (puts_no_lines c.name out kinds differs closed))

  pub own_link_live : true ≡ is_live c.here.phase → PutsBothLines c.name (lines_by_openness c.is_determined (determined_in r c) [] (texts (option_to_list (event_reported c.there.session e).1))) out out' kinds
      → PutsBothLines c.name (lines_of_own_link_in c.here.phase r c e) out out' kinds
  own_link_live there puts = subst (λ p. PutsBothLines c.name (lines_of_own_link_in p r c e) out out' kinds) (sym (live-is c.here.phase there)) puts

-- and the pair afterwards
pub own_pair_elsewhere : {A : Type 0} (o : Exports) (living : Alive) (r : runs.NodeRun) (c : comparison.SessionPair) (k : SessionPair A) → false ≡ is_live c.here.phase → IsPair o living c k → IsPair o living (pair_after_own_link_in c.here.phase r c) k
own_pair_elsewhere o living r c k away h = subst (λ d. IsPair o living d k) (own-pair-elsewhere c.here.phase r c away) h

pub own_pair_live : {A : Type 0} (o : Exports) (living : Alive) (r : runs.NodeRun) (c : comparison.SessionPair) (k : SessionPair A) → true ≡ is_live c.here.phase → IsPair o living (record c { is_determined = determined_in r c }) k
    → IsPair o living (pair_after_own_link_in c.here.phase r c) k
own_pair_live o living r c k there h = subst (λ p. IsPair o living (pair_after_own_link_in p r c) k) (sym (live-is c.here.phase there)) h

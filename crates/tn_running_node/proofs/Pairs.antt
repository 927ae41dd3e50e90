-- A session here and on a node, after an event.
use Rattle.std.proofs.Common.{◌≡◌, ◌∙◌, ℕ, Bool, true, false, not, ◌&&◌, List, refl, sym, ap, ap₂, subst, Option, Some, option_to_list}
use Rattle.std.specs.Option.{option_map, IsSomeAnd}
use Rattle.std.specs.declared.vec.Vec.{Vec}
use Rattle.def_term.specs.Alive.{Alive}
use Rattle.def_term.specs.Tree.{Tree}
use Rattle.def_node.specs.Event.{Event}
use Rattle.def_outlook.specs.Outlook as outlook
use Rattle.def_script.specs.Exports.{Exports}
use Rattle.def_session.specs.State as definition
use Rattle.def_session.specs.Session.{event_reported}
use Rattle.def_running_node.specs.NodeSessions.{marks_after, reported_there}
use Rattle.def_running_node.specs.NodeRuns as runs
use Rattle.def_running_node.specs.NodeRuns.{run_after, run_messages, opens, hides, lines_between, lines_by_openness}
use Rattle.def_running_node.specs.NodeComparisons as comparison
use Rattle.def_running_node.specs.NodeComparisons.{texts, pair_determined_after}
use Rattle.tn_flags.specs.Views.{event_of}
use Rattle.tn_flags.specs.declared.event.Event as flags
use Rattle.tn_node.specs.Outlooks.{outlook_seen}
use Rattle.tn_session.specs.Messages.{message_seen}
use Rattle.tn_session.specs.Sessions.{SessionValue, next_session, value_in}
use Rattle.tn_session.specs.declared.message.Message.{Message}
use Rattle.tn_session.specs.declared.session.Session.{Session}
use Rattle.tn_trace.specs.Slots.{IsSession}
use Rattle.tn_running_node.specs.Lines.{PutsBothLines}
use Rattle.tn_running_node.specs.NodeSessions.{SeesThere, SeesThereFrom}
use Rattle.tn_running_node.specs.Pairs.{IsThere, IsPair, SawBoth, IsOpenness, live_pair_after}
use Rattle.tn_running_node.specs.RunChanges.{determined_after}
use Rattle.tn_running_node.specs.SameMessages.{HasSameBetween, IsMessageOfEvent, lines_here, lines_there}
use Rattle.tn_running_node.specs.Views.{node_marks_seen, node_run_seen, lines_seen}
use Rattle.tn_running_node.specs.declared.lines.LineKinds.{LineKinds}
use Rattle.tn_running_node.specs.declared.node_session.NodeSession.{NodeSession}
use Rattle.tn_running_node.specs.declared.pair.SessionPair.{SessionPair}
use Rattle.tn_running_node.specs.declared.pair.NodeStep.{NodeStep}
use Rattle.tn_running_node.specs.declared.pair.Openness.{Openness}
use Rattle.tn_running_node.proofs.Runs.{determined_is}

and-assoc : (a b x : Bool) → ((a && b) && x) ≡ (a && (b && x))
and-assoc true b x = refl
and-assoc false b x = refl

-- where the same is between them, the lines are the same
same-by-openness : (was is : Bool) (a b c d : List (List ℕ)) → lines_between a b ≡ lines_between c d → lines_by_openness was is a b ≡ lines_by_openness was is c d
same-by-openness false is a b c d h = refl
same-by-openness true false a b c d h = refl
same-by-openness true true a b c d h = h

module _ {A : Type 0} (step : NodeStep A) (event : flags.Event A) (is_determined : Bool) (old : SessionPair A) (o : Exports) (living : Alive) (c : comparison.SessionPair) (h : IsPair o living c old) (here here' : Session A) (there there' : NodeSession A) (m : Option (Message A)) (lines : Option (Vec (Vec ℕ A) A)) (lh lt : Vec (Vec ℕ A) A) where
  abbrev e : Event
  e = event_of event

  abbrev r : runs.NodeRun
  r = node_run_seen step.run.now

  abbrev l : outlook.Outlook
  l = outlook_seen step.outlook

  -- the session there, and its message
  abbrev result-there : definition.Session × Option Tree
  result-there = reported_there c.there.session e

  abbrev new : SessionPair A
  new = record old { here = record old.here { session = Some here' }; there = Some there'; is_determined = is_determined }

  -- the session here saw the event, with this message
  abbrev Tells-here : Type 0
  Tells-here = IsSomeAnd (value_in here) (λ v. next_session v (event_reported v.state e) ≡ (value_in here', option_map message_seen m))

  of-here : old.here.session ≡ Some here → Tells-here → next_session (record { functions = o.functions; state = c.here }) (event_reported c.here e) ≡ (value_in here', option_map message_seen m)
  of-here is told =
      let at : value_in here ≡ Some (record { functions = o.functions; state = c.here }) = subst (IsSession o.functions living c.here) is h.here in
      subst (λ v. IsSomeAnd v (λ u. next_session u (event_reported u.state e) ≡ (value_in here', option_map message_seen m))) at told

  of-there : old.there ≡ Some there → SeesThere step.run.now step.outlook event m there there' lines
      → SeesThereFrom step.run.now step.outlook event m there there' lines (record { functions = o.functions; state = c.there.session }) result-there
  of-there is seen =
      let at : IsThere o.functions living c.there (Some there) = subst (IsThere o.functions living c.there) is h.there in
      subst (λ v. IsSomeAnd v (λ u. SeesThereFrom step.run.now step.outlook event m there there' lines u (reported_there u.state e))) at.0 seen

  marks-there : old.there ≡ Some there → node_marks_seen there.marks ≡ c.there.marks
  marks-there is = (subst (IsThere o.functions living c.there) is h.there).1

  module _ (is-here : old.here.session ≡ Some here) (is-there : old.there ≡ Some there) (told : Tells-here) (its : IsMessageOfEvent event m) (seen-there : SeesThere step.run.now step.outlook event m there there' lines) where
    pair-after : (later : Alive) → IsPair o later (live_pair_after c e is_determined) new
    pair-after later =
        let there-after = of-there is-there seen-there in
        record {
          name = h.name;
          here = sym (ap (λ (q : Option SessionValue × Option Tree). q.0) (of-here is-here told));
          there = (there-after.session, there-after.marks ∙ ap (λ ms. marks_after result-there.0 ms e) (marks-there is-there));
          determined = refl;
        }

    message-here : option_map message_seen m ≡ (event_reported c.here e).1
    message-here = sym (ap (λ (q : Option SessionValue × Option Tree). q.1) (of-here is-here told))

    messages-there : lines_there m lines ≡ texts (run_messages r l c.there result-there.0 e result-there.1)
    messages-there =
        (of-there is-there seen-there).messages its ∙ ap (λ ms. texts (run_messages r l (record { session = c.there.session; marks = ms }) result-there.0 e result-there.1)) (marks-there is-there)

    pub saw_both : (kinds : LineKinds) (out out' : Vec ℕ A) → HasSameBetween m lines lh lt
        → PutsBothLines old.here.name (lines_by_openness old.is_determined is_determined (lines_seen lh) (lines_seen lt)) out out' kinds → SawBoth o step event is_determined c new out out' kinds
    saw_both kinds out out' same puts = record {
      pair = pair-after;
      lines =
          let messages = texts (option_to_list (event_reported c.here e).1) in
          let messages' = texts (run_messages r l c.there result-there.0 e result-there.1) in
          subst (λ n. PutsBothLines n (lines_by_openness c.is_determined is_determined messages messages') out out' kinds) h.name
          (subst (λ d. PutsBothLines old.here.name (lines_by_openness d is_determined messages messages') out out' kinds) h.determined
          (subst (λ ms. PutsBothLines old.here.name (lines_by_openness old.is_determined is_determined messages ms) out out' kinds) messages-there
          (subst (λ t. PutsBothLines old.here.name (lines_by_openness old.is_determined is_determined (texts (option_to_list t)) (lines_there m lines)) out out' kinds) message-here
          (subst (λ ls. PutsBothLines old.here.name ls out out' kinds) (same-by-openness old.is_determined is_determined (lines_seen lh) (lines_seen lt) (lines_here m) (lines_there m lines) same) puts))));
    }

-- ---- whether what is reported there is determined

module _ {A : Type 0} (step : NodeStep A) (event : flags.Event A) (o : Exports) (living : Alive) (c : comparison.SessionPair) (pair : SessionPair A) (h : IsPair o living c pair) (run : Bool) (of-run : run ≡ determined_after (node_run_seen step.run.now) (outlook_seen step.outlook) (event_of event)) where
  abbrev after-event : runs.NodeRun
  after-event = run_after (node_run_seen step.run.now) (outlook_seen step.outlook) (event_of event)

  by-both : (b x : Bool) → (pair.is_determined && run) ≡ b → (b && x) ≡ (c.is_determined && (after-event.is_determined && x))
  by-both b x both =
      ap (λ q. q && x) (sym both) ∙ and-assoc pair.is_determined run x
      ∙ ap₂ (λ q y. q && (y && x)) h.determined (of-run ∙ determined_is (node_run_seen step.run.now) (outlook_seen step.outlook) (event_of event))

  pub determined_no_more : (pair.is_determined && run) ≡ false → false ≡ pair_determined_after after-event (outlook_seen step.outlook) c (event_of event)
  determined_no_more both = by-both false _ both

  pub determined_still : (openness : Openness) → (pair.is_determined && run) ≡ true → IsOpenness step.outlook (event_of event) c.there.session openness
      → (not openness.opens && not openness.hides) ≡ pair_determined_after after-event (outlook_seen step.outlook) c (event_of event)
  determined_still openness both is =
      ap₂ (λ a b. not a && not b) is.opens is.hides ∙ by-both true (not (opens c.there.session (event_of event)) && not (hides c.there.session (outlook_seen step.outlook) (event_of event))) both

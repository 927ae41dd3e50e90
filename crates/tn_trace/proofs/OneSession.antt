-- One session: an event, and a command.
use Rattle.std.proofs.Common.{◌≡◌, ◌∙◌, ℕ, List, [], ◌∷◌, ◌++◌, true, false, map, length, Option, Some, None, option_to_list, refl, sym, ap, subst, append-nil}
use Rattle.std.specs.Prelude.{if◌then◌else◌}
use Rattle.std.specs.Option.{IsSomeAnd, option_map}
use Rattle.std.specs.Str.{bytes_eq}
use Rattle.def_term.specs.Alive.{Alive}
use Rattle.def_term.specs.Names.{Name, word}
use Rattle.def_term.specs.Tree.{Tree, atom, tuple, none, more}
use Rattle.def_script.specs.Program.{Command, create, session_of}
use Rattle.def_node.specs.Event.{Event}
use Rattle.def_session.specs.State as definition
use Rattle.def_script.specs.Exports.{Exports}
use Rattle.def_session.specs.State.{absent, live, new_session, alive_after}
use Rattle.def_session.specs.Session.{event_reported}
use Rattle.def_session.specs.Commands.{command_done, done_absent}
use Rattle.def_run.specs.Listing.{Item as DefinedItem}
use Rattle.tn_flags.specs.Views.{command_of}
use Rattle.tn_flags.specs.declared.command.Command as code
use Rattle.tn_flags.specs.declared.command.Command.TheVariants.{SessionCreate, SessionDestroy, Process, Function, Send, Recv}
use Rattle.tn_session.specs.Messages.{message_seen}
use Rattle.tn_session.specs.Sessions.{SessionValue, value_in, next_session, exports_in}
use Rattle.tn_session.specs.declared.message.Message.{Message}
use Rattle.tn_session.specs.declared.session.Session.{Session}
use Rattle.tn_trace.specs.Tracks.{Track, item_at, with_event, reported_to, IsOneMore, AreMore}
use Rattle.tn_trace.specs.Slots.{IsSession, IsTracked, Obeys, ObeysOwn}
use Rattle.tn_trace.specs.declared.slot.Slot.{Slot}

module _ {A K G : Type 0} (Keeps : K → List Tree → Type 0) (Gives : G → List DefinedItem → Type 0) (o : Exports) (living : Alive) (t : Track) (old : Slot A K) (h : IsTracked Keeps o living t old) where
  -- the session is there
  pub is_there : (session : Session A) → old.session ≡ Some session → value_in session ≡ Some (record { functions = o.functions; state = t.session })
  is_there session is = subst (IsSession o.functions living t.session) is h.session

  module _ (e : Event) (session after : Session A) (m : Option (Message A)) (is : old.session ≡ Some session)
      (reports : IsSomeAnd (value_in session) (λ s. next_session s (event_reported s.state e) ≡ (value_in after, option_map message_seen m))) where
    reported : next_session (record { functions = o.functions; state = t.session }) (event_reported t.session e) ≡ (value_in after, option_map message_seen m)
    reported = subst (λ v. IsSomeAnd v (λ s. next_session s (event_reported s.state e) ≡ (value_in after, option_map message_seen m))) (is_there session is) reports

    told_is : (n : Option (Message A)) → m ≡ n → (event_reported t.session e).1 ≡ option_map message_seen n
    told_is n is = ap (λ (p : Option SessionValue × Option Tree). p.1) reported ∙ ap (option_map message_seen) is

    session_is : IsSession o.functions (alive_after living e) (event_reported t.session e).0 (Some after)
    session_is = sym (ap (λ (p : Option SessionValue × Option Tree). p.0) reported)

    pub tracked_none : m ≡ None → IsTracked Keeps o (alive_after living e) (with_event e t) (record old { session = Some after })
    tracked_none is = record { number = h.number; name = h.name; session = session_is; kept = subst (λ ms. Keeps old.kept ms) (sym (ap (λ x. t.messages ++ option_to_list x) (told_is None is) ∙ append-nil t.messages)) h.kept }

    pub given_none : (g : G) → m ≡ None → AreMore Gives (reported_to e t) g g
    given_none g is = λ xs k. subst (Gives g) (sym (ap (λ x. xs ++ map (item_at t.number (length t.messages)) (option_to_list x)) (told_is None is) ∙ append-nil xs)) k

    pub tracked_some : (n : Message A) (kept : K) → m ≡ Some n → IsOneMore Keeps (message_seen n) old.kept kept → IsTracked Keeps o (alive_after living e) (with_event e t) (record old { session = Some after; kept = kept })
    tracked_some n kept is added = record { number = h.number; name = h.name; session = session_is; kept = subst (λ ms. Keeps kept ms) (sym (ap (λ x. t.messages ++ option_to_list x) (told_is (Some n) is))) (added t.messages h.kept) }

    pub given_some : (n : Message A) (g g' : G) → m ≡ Some n → IsOneMore Gives (item_at old.number (length t.messages) (message_seen n)) g g' → AreMore Gives (reported_to e t) g g'
    given_some n g g' is added = λ xs k. subst (Gives g') (ap (λ i. xs ++ item_at i (length t.messages) (message_seen n) ∷ []) h.number ∙ sym (ap (λ x. xs ++ map (item_at t.number (length t.messages)) (option_to_list x)) (told_is (Some n) is))) (added xs k)

  -- the command of a session that is there
  pub obeys_there : (c : Command) (session after : Session A) (r : Tree) → old.session ≡ Some session
      → IsSomeAnd (value_in session) (λ s. (n : ℕ) → next_session s (command_done (exports_in s n) s.state c) ≡ (value_in after, r)) → Obeys Keeps o living t c (record old { session = Some after }) r
  obeys_there c session after r is replies =
      let done : next_session (record { functions = o.functions; state = t.session }) (command_done o t.session c) ≡ (value_in after, r) =
      subst (λ v. IsSomeAnd v (λ s. (n : ℕ) → next_session s (command_done (exports_in s n) s.state c) ≡ (value_in after, r))) (is_there session is) replies o.processes in
      record {
        tracked = record { number = h.number; name = h.name; session = sym (ap (λ (p : Option SessionValue × Tree). p.0) done); kept = h.kept };
        replied = sym (ap (λ (p : Option SessionValue × Tree). p.1) done);
      }

  absent_is : old.session ≡ None → t.session ≡ new_session absent living
  absent_is is = subst (IsSession o.functions living t.session) is h.session

  done_is : (c : Command) → old.session ≡ None → command_done o t.session c ≡ done_absent (new_session absent living) c
  done_is c is = ap (λ s. command_done o s c) (absent_is is)

  -- the creation of one that isn't there
  pub obeys_creation : (c : Command) (s tracer : Name) (after : Session A) (r : Tree) → old.session ≡ None → c ≡ create s tracer → value_in after ≡ Some (record { functions = o.functions; state = new_session live living }) → r ≡ tuple (more (word "session") (more (atom s) none))
      → Obeys Keeps o living t c (record old { session = Some after }) r
  obeys_creation c s tracer after r is creates at replied =
      let done : command_done o t.session c ≡ (new_session live living, tuple (more (word "session") (more (atom s) none))) = done_is c is ∙ ap (done_absent (new_session absent living)) creates in
      record {
        tracked = record { number = h.number; name = h.name; session = at ∙ ap (λ q. Some (record { functions = o.functions; state = q })) (sym (ap (λ (p : definition.Session × Tree). p.0) done)); kept = h.kept };
        replied = replied ∙ sym (ap (λ (p : definition.Session × Tree). p.1) done);
      }

  refused_there : (k : code.Command A) → ((s tracer : _) → k ≡ SessionCreate s tracer → ⊥) → done_absent (new_session absent living) (command_of k) ≡ (new_session absent living, word "badarg")
  refused_there (SessionCreate s tracer) other = absurd (other s tracer refl)
  refused_there (SessionDestroy s) other = refl
  refused_there (Process s a b d) other = refl
  refused_there (Function s a b d) other = refl
  refused_there (Send s a) other = refl
  refused_there (Recv s a) other = refl

  -- any other command to one that isn't there
  pub obeys_absent : (k : code.Command A) (r : Tree) → old.session ≡ None → ((s tracer : _) → k ≡ SessionCreate s tracer → ⊥) → r ≡ word "badarg" → Obeys Keeps o living t (command_of k) old r
  obeys_absent k r is other replied =
      let done : command_done o t.session (command_of k) ≡ (new_session absent living, word "badarg") = done_is (command_of k) is ∙ refused_there k other in
      record {
        tracked = record {
          number = h.number;
          name = h.name;
          session = subst (IsSession o.functions living (command_done o t.session (command_of k)).0) (sym is) (ap (λ (p : definition.Session × Tree). p.0) done);
          kept = h.kept;
        };
        replied = replied ∙ sym (ap (λ (p : definition.Session × Tree). p.1) done);
      }

  -- the command of another session
  pub obeys_none : (c : Command) → bytes_eq old.name (session_of c) ≡ false → ObeysOwn Keeps o living t c old None
  obeys_none c other =
      let e : bytes_eq t.name (session_of c) ≡ false = ap (λ n. bytes_eq n (session_of c)) (sym h.name) ∙ other in
      (subst (λ b. IsTracked Keeps o living (if b then record t { session = (command_done o t.session c).0 } else t) old) (sym e) h, e)

  pub obeys_own : (c : Command) (new : Slot A K) (r : Tree) → bytes_eq old.name (session_of c) ≡ true → Obeys Keeps o living t c new r → ObeysOwn Keeps o living t c new (Some r)
  obeys_own c new r own obeys =
      let e : bytes_eq t.name (session_of c) ≡ true = ap (λ n. bytes_eq n (session_of c)) (sym h.name) ∙ own in
      (subst (λ b. IsTracked Keeps o living (if b then record t { session = (command_done o t.session c).0 } else t) new) (sym e) obeys.tracked, (e, obeys.replied))

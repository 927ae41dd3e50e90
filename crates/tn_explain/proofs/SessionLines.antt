-- What a session makes of an event, of its lines that were appended piece by piece.
use Rattle.std.proofs.Common.{◌≡◌, ◌∙◌, ℕ, Bool, true, false, List, [], ◌++◌, map, Option, Some, None, option_to_list, IfSome, is_some, refl, sym, ap, subst}
use Rattle.std.specs.Option.{IsSomeAnd, option_map}
use Rattle.def_term.specs.Tree.{Tree}
use Rattle.def_term.specs.Names as names
use Rattle.def_spec.specs.Flags.{Flags}
use Rattle.def_node.specs.Event.{Event}
use Rattle.def_outlook.specs.Outlook.{Outlook}
use Rattle.def_session.specs.State as definition
use Rattle.def_session.specs.State.{flags_at}
use Rattle.def_session.specs.Session.{effects_of, event_reported, is_silenced}
use Rattle.def_explain.specs.Accounts.{Line, differs, flag_lines, node_lines, event_lines}
use Rattle.tn_session.specs.Looks.{is_live}
use Rattle.tn_session.specs.Sessions.{SessionValue, next_session}
use Rattle.tn_explain.specs.Evaluations.{GivesOf, is_done}
use Rattle.tn_explain.specs.Lines.{PutsLines, lines_text}
use Rattle.tn_explain.specs.SessionLines.{Makes}
use Rattle.tn_explain.specs.LineParts.{both_of, changed_lines, lines_before, reported_lines, lines_after, reported_or_no_flag, inherited_by_flags}
use Rattle.tn_explain.specs.declared.clauses.Evaluation.{Evaluation}
use Rattle.tn_explain.proofs.LineTexts.{nothing, more, other}
use Rattle.tn_explain.proofs.LaterLines.{Inherits, inherits, parts_are, done_is, makes_nothing}

-- an event that was evaluated, and of which nothing is reported
pub told_none : (done silent b : Bool) (m : Option Tree) → done ≡ true → silent ≡ b → m ≡ None → reported_lines done silent m ≡ reported_lines true b None
told_none done silent b m is same none = ap (λ x. reported_lines x silent m) is ∙ ap (λ x. reported_lines true x m) same ∙ ap (reported_lines true b) none

-- the flags of a process before and afterwards, in other words
pub flags_changed : (p : ℕ) (a b c d : Flags) → a ≡ b → c ≡ d → changed_lines p a c ≡ changed_lines p b d
flags_changed p a b c d x y = ap (λ f. changed_lines p f c) x ∙ ap (changed_lines p b) y

-- what a node does otherwise as one process inherits flags of another, in other words
pub flags_inherited : (e : Event) {a a' b b' c c' d d' : Flags} → a ≡ a' → b ≡ b' → c ≡ c' → d ≡ d' → inherited_by_flags e a b c d ≡ inherited_by_flags e a' b' c' d'
flags_inherited e {a} {a'} {b} {b'} {c} {c'} {d} {d'} w x y z =
    ap (λ f. inherited_by_flags e f b c d) w ∙ ap (λ f. inherited_by_flags e a' f c d) x ∙ ap (λ f. inherited_by_flags e a' b' f d) y ∙ ap (inherited_by_flags e a' b' c') z

-- what holds of the session that is there holds where there is one
pub if_there : {T : Type 0} (o : Option T) (P : T → Type 0) → ((x : T) → o ≡ Some x → P x) → IfSome o P
if_there None P h = tt
if_there (Some x) P h = h x refl

pub there : {T : Type 0} (o : Option T) (x : T) (P : T → Type 0) → o ≡ Some x → IfSome o P → P x
there o x P is h = subst (λ v. IfSome v P) is h

pub and_there : {T : Type 0} (o : Option T) (x : T) (P : T → Type 0) → o ≡ Some x → IsSomeAnd o P → P x
and_there o x P is h = subst (λ v. IsSomeAnd v P) is h

-- the state that is seen of the session is its own
pub seen_is : {L : Type 0} (look_of : L → definition.Session) (o : Option SessionValue) (s : SessionValue) (l : L) → o ≡ Some s → option_map look_of (Some l) ≡ option_map (λ (v : SessionValue). v.state) o → look_of l ≡ s.state
seen_is look_of o s l is seen =
    let same : Some (look_of l) ≡ Some s.state = seen ∙ ap (option_map (λ (v : SessionValue). v.state)) is in
    cc

-- where a look is had of the session, the session is there, and the look shows its state
pub if_seen : {K : Type 0} (look_of : K → definition.Session) (o : Option SessionValue) (l : K) (P : SessionValue → Type 0) → option_map look_of (Some l) ≡ option_map (λ (v : SessionValue). v.state) o
    → ((s : SessionValue) → o ≡ Some s → look_of l ≡ s.state → P s) → IsSomeAnd o P
if_seen look_of None l P e h = absurd (cc e)
if_seen look_of (Some s) l P e h = h s refl (seen_is look_of (Some s) s l refl e)

-- and what holds of it there gives what is asked
pub and_seen : {K : Type 0} (look_of : K → definition.Session) (o : Option SessionValue) (l : K) (P Q : SessionValue → Type 0) → option_map look_of (Some l) ≡ option_map (λ (v : SessionValue). v.state) o
    → ((s : SessionValue) → look_of l ≡ s.state → Q s → P s) → IsSomeAnd o Q → IsSomeAnd o P
and_seen look_of None l P Q e h q = absurd q
and_seen look_of (Some s) l P Q e h q = h s (seen_is look_of (Some s) s l refl e) q

module _ (s : SessionValue) (e : Event) (n : names.Name) (new : Option SessionValue) (m : Option Tree) (gives : next_session s (event_reported s.state e) ≡ (new, m)) where
  abbrev pub after : definition.Session
  after = (event_reported s.state e).0

  pub state : new ≡ Some (record s { state = (event_reported s.state e).0 })
  state = sym (ap (λ (p : Option SessionValue × Option Tree). p.0) gives)

  reported : event_reported s.state e ≡ (after, m)
  reported = ap (λ (k : Option Tree). (after, k)) (ap (λ (p : Option SessionValue × Option Tree). p.1) gives)

  -- of an event by which a process inherits flags
  pub inherited_made : (l : Outlook) (giver taker : ℕ) (o b c d f : List ℕ) → s.state.phase ≡ definition.live → both_of e ≡ Some (giver, taker)
      → PutsLines n (changed_lines giver (flags_at s.state giver) (flags_at after giver)) o b → PutsLines n (changed_lines taker (flags_at s.state taker) (flags_at after taker)) b c → PutsLines n (reported_or_no_flag m) c d
      → PutsLines n (map differs (option_to_list (inherited_by_flags e (flags_at s.state giver) (flags_at after giver) (flags_at s.state taker) (flags_at after taker)))) d f
      → Makes l s e n new o f
  inherited_made l giver taker o b c d f phase both first second third fourth =
      let i : Inherits s.state l e giver taker = inherits s.state l e giver taker phase both in
      let ks : List Line = flag_lines giver s.state after in
      let ls : List Line = flag_lines taker s.state after in
      let ds : List Line = node_lines s.state l e in
      let is : event_lines s.state l e ≡ ((ks ++ ls) ++ reported_or_no_flag m) ++ ds =
      i.lines ∙ ap (λ (a : definition.Session × Option Tree). ((flag_lines giver s.state a.0 ++ flag_lines taker s.state a.0) ++ reported_or_no_flag a.1) ++ ds) reported in
      record {
        state = state;
        text =
            more n ((ks ++ ls) ++ reported_or_no_flag m) ds o d f (more n (ks ++ ls) (reported_or_no_flag m) o c d (more n ks ls o b c first second) third)
            (other n _ ds d f (ap (λ x. map differs (option_to_list x)) i.difference ∙ i.node) fourth)
            ∙ ap (λ x. o ++ lines_text n x) (sym is);
      }

  -- of another
  pub evaluated_made : (l : Outlook) (r : Evaluation) (o b c d f end : List ℕ) → s.state.phase ≡ definition.live → both_of e ≡ None → GivesOf n s.state e o b r → PutsLines n (lines_after s.state e) [] end
      → PutsLines n (reported_lines (is_done r) (is_silenced after e) m) b c → d ≡ c ++ end → PutsLines n (node_lines s.state l e) d f → Makes l s e n new o f
  evaluated_made l r o b c d f end phase none before behind tells ended last =
      let ks : List Line = lines_before s.state e in
      let ls : List Line = reported_lines (is_done r) (is_silenced after e) m in
      let ds : List Line = node_lines s.state l e in
      let is : event_lines s.state l e ≡ ((ks ++ ls) ++ lines_after s.state e) ++ ds =
      parts_are s.state l e phase none
      ∙ ap (λ (a : definition.Session × Option Tree). ((ks ++ reported_lines (is_some (effects_of s.state e)) (is_silenced a.0 e) a.1) ++ lines_after s.state e) ++ ds) reported
      ∙ ap (λ b. ((ks ++ reported_lines b (is_silenced after e) m) ++ lines_after s.state e) ++ ds) (sym (done_is r (effects_of s.state e) before.effects)) in
      record {
        state = state;
        text =
            more n ((ks ++ ls) ++ lines_after s.state e) ds o d f (more n (ks ++ ls) (lines_after s.state e) o c d (more n ks ls o b c before.text tells) (ended ∙ ap (λ x. c ++ x) behind)) last
            ∙ ap (λ x. o ++ lines_text n x) (sym is);
      }

  -- of a session that isn't live
  pub nothing_made : (l : Outlook) (o : List ℕ) → is_live s.state.phase ≡ false → Makes l s e n new o o
  nothing_made l o h = record { state = state; text = nothing n o ∙ ap (λ x. o ++ lines_text n x) (sym (makes_nothing s.state l e h)) }

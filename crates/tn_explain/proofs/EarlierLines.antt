-- The lines that are known before the session sees the event: why it isn't evaluated, or its evaluation.
use Rattle.std.proofs.Common.{◌≡◌, ◌∙◌, ℕ, Bool, true, false, ◌||◌, if◌then◌else◌, List, [], ◌∷◌, ◌++◌, Option, Some, None, codes, refl, sym, ap}
use Rattle.std.specs.Prelude.{not}
use Rattle.std.specs.Option.{option_map}
use Rattle.std.specs.Borrow.{Bor}
use Rattle.tn_term.specs.declared.mfa.Mfa as mfas
use Rattle.tn_term.specs.Views.{mfa_seen}
use Rattle.def_term.specs.Tree.{Tree, pid}
use Rattle.def_term.specs.Names.{Mfa, Name, word}
use Rattle.def_term.specs.Alive.{Alive}
use Rattle.def_term.specs.Text.{is_written_bare}
use Rattle.def_spec.specs.Flags.{Flag, FlagTable, only, send_flag, receive_flag, call_flag, procs_flag, flags_by_name}
use Rattle.def_spec.specs.Expressions.{Context, Effect}
use Rattle.def_script.specs.Program.{Class}
use Rattle.def_node.specs.Event.{Event, Call, sent, received, called, returned, raised}
use Rattle.def_session.specs.Settings.{FunctionSetting, Setting, off, plain, by, has_among, setting_for}
use Rattle.def_session.specs.State.{for_returns, for_exceptions, Session, flags_at, mark_of}
use Rattle.def_session.specs.Messages.{process_of}
use Rattle.def_session.specs.Session.{context, mark_asked, is_marked, is_for_exceptions, where_set, where_marked, effects_of, evaluated_by}
use Rattle.def_session.specs.Laws.{needed_for}
use Rattle.def_explain.specs.Causes.{Cause, no_mark, marked_for_returns, no_flag, no_setting, of_named_calls, newest_of, cause_of_setting, cause_of_call, cause_of_event, cause_by, cause_where, cause_by_mark, cause_of}
use Rattle.def_explain.specs.Texts.{said_of_each}
use Rattle.def_explain.specs.Accounts.{Line, said, setting_lines, evaluation_lines, cause_lines, message_lines}
use Rattle.tn_session.specs.Looks.{parts_of}
use Rattle.tn_session.specs.Newest.{newest_with}
use Rattle.tn_explain.specs.LineParts.{lines_by_effects, lines_before, uncovered_lines}
use Rattle.tn_explain.specs.Evaluations.{GivesLines, GivesOf, GivesBySetting, GivesWhere, lines_where, effects_where}
use Rattle.tn_explain.specs.Lines.{lines_text}
use Rattle.tn_explain.specs.declared.clauses.Evaluation.{Evaluation}
use Rattle.tn_explain.specs.declared.clauses.Evaluation.TheVariants.{Refused, Done}
use Rattle.tn_explain.proofs.LineTexts.{nothing}

-- the same lines and effects, said otherwise
pub given : (n : Name) (ks ls : List Line) (es fs : Option (List Effect)) (old new : List ℕ) (r : Evaluation) → ks ≡ ls → es ≡ fs → GivesLines n ks es old new r → GivesLines n ls fs old new r
given n ks ls es fs old new r lines effects g =
    record { text = g.text ∙ ap (λ l. old ++ lines_text n l) lines; effects = g.effects ∙ ap (option_map mark_asked) effects }

-- an event that no setting is of, by the code
pub where_done : (n : Name) (b : Bool) (why old : List ℕ) → b ≡ true → GivesWhere n b why old old (Done None)
where_done n b why old e =
    given n [] (lines_where b why) (Some []) (effects_where b) old old (Done None) (sym (ap (λ x. lines_where x why) e)) (sym (ap effects_where e))
    (record { text = nothing n old; effects = refl })

pub where_refused : (n : Name) (b : Bool) (why old new : List ℕ) → b ≡ false → new ≡ old ++ lines_text n (said why ∷ []) → GivesWhere n b why old new Refused
where_refused n b why old new e made =
    given n (said why ∷ []) (lines_where b why) None (effects_where b) old new Refused (sym (ap (λ x. lines_where x why) e)) (sym (ap effects_where e))
    (record { text = made; effects = refl })

module _ (s : Session) (e : Event) where
  -- the event isn't evaluated, and these lines say why
  abbrev pub Refuses : List Line → Type 0
  Refuses ls = (ls ≡ lines_before s e) × (None ≡ effects_of s e)

  -- it is evaluated by a setting
  abbrev pub IsBy : Setting → Context → Type 0
  IsBy g c = (setting_lines g c ≡ lines_before s e) × (evaluated_by g c ≡ effects_of s e)

  -- all but the mark of a return is as of any event
  abbrev pub IsWhere : Option (List Effect) → Type 0
  IsWhere r = (cause_of s e ≡ cause_where s e) × (effects_of s e ≡ where_set s (process_of e) (needed_for e) r)

  pub refused : (x : Cause) → effects_of s e ≡ None → cause_of s e ≡ Some x → Refuses (cause_lines s e x)
  refused x h k = (sym (ap (lines_by_effects s e) h ∙ ap (λ o. message_lines s e o None) k), sym h)

  -- the process hasn't the flag
  pub unflagged : (r : Option (List Effect)) → IsWhere r → flags_at s (process_of e) (needed_for e) ≡ false → Refuses (cause_lines s e (no_flag (needed_for e)))
  unflagged r is h =
      refused (no_flag (needed_for e)) (is.1 ∙ ap (λ b. if b then r else None) h) (is.0 ∙ ap (λ b. if b then cause_by s e (effects_of s e) else Some (no_flag (needed_for e))) h)

  -- it has
  with_flag : (r : Option (List Effect)) → IsWhere r → flags_at s (process_of e) (needed_for e) ≡ true → effects_of s e ≡ r
  with_flag r is h = is.1 ∙ ap (λ b. if b then r else None) h

  its_cause : (r : Option (List Effect)) → IsWhere r → flags_at s (process_of e) (needed_for e) ≡ true → cause_of s e ≡ cause_by s e r
  its_cause r is h =
      is.0 ∙ ap (λ b. if b then cause_by s e (effects_of s e) else Some (no_flag (needed_for e))) h ∙ ap (cause_by s e) (with_flag r is h)

  -- and no setting
  pub unsettled : (x : Cause) → IsWhere None → flags_at s (process_of e) (needed_for e) ≡ true → cause_of_event s e ≡ x → Refuses (cause_lines s e x)
  unsettled x is h k = refused x (with_flag None is h) (its_cause None is h ∙ ap Some k)

  of_setting : (g : Setting) (c : Context) → cause_lines s e (cause_of_setting g c) ≡ evaluation_lines s e
  of_setting off c = refl
  of_setting plain c = refl
  of_setting (by sp) c = refl

  -- and a setting
  pub settled : (g : Setting) (c : Context) → IsWhere (evaluated_by g c) → flags_at s (process_of e) (needed_for e) ≡ true → cause_of_event s e ≡ cause_of_setting g c → evaluation_lines s e ≡ setting_lines g c → IsBy g c
  settled g c is h k lines = (sym (ap (lines_by_effects s e) ev ∙ go (evaluated_by g c) refl ∙ lines), sym ev)
    where
      ev : effects_of s e ≡ evaluated_by g c
      ev = with_flag (evaluated_by g c) is h

      go : (r : Option (List Effect)) → evaluated_by g c ≡ r → lines_by_effects s e r ≡ evaluation_lines s e
      go None f = ap (λ o. message_lines s e o None) (its_cause (evaluated_by g c) is h ∙ ap (cause_by s e) f ∙ ap Some k) ∙ of_setting g c
      go (Some es) f = refl

  -- an event that no setting is of
  pub plainly : (b : Bool) (why : List ℕ) → IsWhere (Some []) → evaluation_lines s e ≡ [] → b ≡ flags_at s (process_of e) (needed_for e) → cause_lines s e (no_flag (needed_for e)) ≡ said why ∷ [] → (lines_where b why ≡ lines_before s e) × (effects_where b ≡ effects_of s e)
  plainly true why is none h text =
      let ev : effects_of s e ≡ Some [] = with_flag (Some []) is (sym h) in
      (sym (ap (lines_by_effects s e) ev ∙ none), sym ev)
  plainly false why is none h text =
      let r : Refuses (cause_lines s e (no_flag (needed_for e))) = unflagged (Some []) is (sym h) in
      (sym text ∙ r.0, r.1)

-- ---- the texts of flags that are needed

abbrev no_flag_text : Flag → List ℕ
no_flag_text f = codes "no flag" ++ said_of_each (codes " ") (only f) flags_by_name

pub no_send : no_flag_text send_flag ≡ codes "no flag send"
unfolding is_written_bare
no_send = refl

pub no_receive : no_flag_text receive_flag ≡ codes "no flag 'receive'"
unfolding is_written_bare
no_receive = refl

pub no_call : no_flag_text call_flag ≡ codes "no flag call"
unfolding is_written_bare
no_call = refl

pub no_procs : no_flag_text procs_flag ≡ codes "no flag procs"
unfolding is_written_bare
no_procs = refl

-- ---- what is given, by the code

module _ (n : Name) (s : Session) (e : Event) (old new : List ℕ) (r : Evaluation) where
  -- where the event isn't evaluated
  pub refused_so : (ls : List Line) → Refuses s e ls → GivesLines n ls None old new r → GivesOf n s e old new r
  refused_so ls is g = given n ls (lines_before s e) None (effects_of s e) old new r is.0 is.1 g

  -- where its process hasn't the flag
  pub unflagged_so : (es : Option (List Effect)) (text : List ℕ) → IsWhere s e es → flags_at s (process_of e) (needed_for e) ≡ false → no_flag_text (needed_for e) ≡ text → GivesLines n (said text ∷ []) None old new r → GivesOf n s e old new r
  unflagged_so es text is h same g =
      let z : Refuses s e (cause_lines s e (no_flag (needed_for e))) = unflagged s e es is h in
      given n (said text ∷ []) (lines_before s e) None (effects_of s e) old new r (ap (λ t. said t ∷ []) (sym same) ∙ z.0) z.1 g

  -- where a setting is of it
  pub settled_so : (g h : Setting) (c d : Context) → g ≡ h → c ≡ d → IsBy s e h d → GivesBySetting n g c old new r → GivesOf n s e old new r
  settled_so g h c d same alike is z =
      given n (setting_lines g c) (lines_before s e) (evaluated_by g c) (effects_of s e) old new r
      (ap (λ x. setting_lines x c) same ∙ ap (setting_lines h) alike ∙ is.0) (ap (λ x. evaluated_by x c) same ∙ ap (evaluated_by h) alike ∙ is.1) z

  -- where none is
  pub plainly_so : (b : Bool) (why : List ℕ) → IsWhere s e (Some []) → evaluation_lines s e ≡ [] → b ≡ flags_at s (process_of e) (needed_for e) → no_flag_text (needed_for e) ≡ why → GivesWhere n b why old new r → GivesOf n s e old new r
  plainly_so b why is none h text g =
      let z : (lines_where b why ≡ lines_before s e) × (effects_where b ≡ effects_of s e) = plainly s e b why is none h (ap (λ t. said t ∷ []) text) in
      given n (lines_where b why) (lines_before s e) (effects_where b) (effects_of s e) old new r z.0 z.1 g

-- sends and receives
pub send_by : (s : Session) (p : ℕ) (t : Tree) (to : ℕ) (alive : Bool) → flags_at s p send_flag ≡ true → IsBy s (sent p t to alive) s.sending (context s p (pid to ∷ t ∷ []) None)
send_by s p t to alive flag = settled s (sent p t to alive) s.sending (context s p (pid to ∷ t ∷ []) None) (refl, refl) flag refl refl

pub receive_by : (s : Session) (p sender : ℕ) (t : Tree) → flags_at s p receive_flag ≡ true → IsBy s (received p sender t) s.receiving (context s p (word "nonode@nohost" ∷ pid sender ∷ t ∷ []) None)
receive_by s p sender t flag = settled s (received p sender t) s.receiving (context s p (word "nonode@nohost" ∷ pid sender ∷ t ∷ []) None) (refl, refl) flag refl refl

-- contexts by their parts
abbrev pub context_of : ℕ → List Tree → Option Mfa → Alive → FlagTable → Context
context_of self_pid ts f a t = record { matched_list = ts; self_pid = self_pid; caller_mfa = f; alive = a; flags = t }

pub same_context : (self_pid : ℕ) (ts us : List Tree) (f h : Option Mfa) (a b : Alive) (t u : FlagTable) → ts ≡ us → f ≡ h → a ≡ b → t ≡ u → context_of self_pid ts f a t ≡ context_of self_pid us h b u
same_context self_pid ts us f h a b t u x y z v = ap (λ l. context_of self_pid l f a t) x ∙ ap (λ o. context_of self_pid us o a t) y ∙ ap (λ i. context_of self_pid us h i t) z ∙ ap (context_of self_pid us h b) v

-- ---- calls

-- a caller that is lent
pub caller_lent : {A : Type 0} (r : Option (Bor (mfas.Mfa A))) (o : Option (mfas.Mfa A)) → option_map (λ x. x.now) r ≡ o → option_map (λ m. mfa_seen m.now) r ≡ option_map mfa_seen o
caller_lent {A} r o h = go r ∙ ap (option_map mfa_seen) h
  where
    go : (q : Option (Bor (mfas.Mfa A))) → option_map (λ m. mfa_seen m.now) q ≡ option_map mfa_seen (option_map (λ x. x.now) q)
    go None = refl
    go (Some m) = refl

-- a test by what its contrary is
pub is_false : (b : Bool) → not b ≡ true → b ≡ false
is_false true h = absurd (cc h)
is_false false h = refl

pub is_true : (b : Bool) → not b ≡ false → b ≡ true
is_true true h = refl
is_true false h = absurd (cc h)

pub newest_is : (ks : List FunctionSetting) (c : Call) → newest_of ks c ≡ newest_with ks c.mfa c.exported
newest_is [] c = refl
newest_is (k ∷ ks) c = ap (λ o. if has_among k c.mfa c.exported then Some k else o) (newest_is ks c)

abbrev pub by_newest : Option FunctionSetting → Call → Setting
by_newest None c = off
by_newest (Some k) c = if k.local || c.named then k.setting else off

setting_after : (k : FunctionSetting) (rest : Setting) (o : Option FunctionSetting) (c : Call) (q : Bool) → rest ≡ by_newest o c → (if q then (if k.local || c.named then k.setting else off) else rest) ≡ by_newest (if q then Some k else o) c
setting_after k rest o c true e = refl
setting_after k rest o c false e = e

pub setting_is : (ks : List FunctionSetting) (c : Call) → setting_for ks c ≡ by_newest (newest_of ks c) c
setting_is [] c = refl
setting_is (k ∷ ks) c = setting_after k (setting_for ks c) (newest_of ks c) c (has_among k c.mfa c.exported) (setting_is ks c)

module _ (s : Session) (p : ℕ) (c : Call) where
  abbrev call_context : Context
  call_context = context s p c.args c.caller

  is_of_call : (g : Setting) → setting_for s.functions c ≡ g → IsWhere s (called p c) (evaluated_by g call_context)
  is_of_call g e = (refl, ap (λ h. where_set s p call_flag (evaluated_by h call_context)) e)

  -- no command covers the function
  pub uncovered : None ≡ option_map parts_of (newest_with s.functions c.mfa c.exported) → flags_at s p call_flag ≡ true → Refuses s (called p c) (uncovered_lines c.mfa)
  uncovered none flag = go (newest_of s.functions c) refl
    where
      go : (o : Option FunctionSetting) → newest_of s.functions c ≡ o → Refuses s (called p c) (uncovered_lines c.mfa)
      go None e = unsettled s (called p c) no_setting (is_of_call off (setting_is s.functions c ∙ ap (λ o. by_newest o c) e)) flag (ap (λ o. cause_of_call o c call_context) e)
      go (Some k) e = absurd (cc (none ∙ ap (option_map parts_of) (sym (newest_is s.functions c) ∙ e)))

  -- the newest that does is about calls that name the module
  pub unnamed : (g : Setting) (local : Bool) → Some (g, local) ≡ option_map parts_of (newest_with s.functions c.mfa c.exported) → flags_at s p call_flag ≡ true → (local || c.named) ≡ false
      → Refuses s (called p c) (cause_lines s (called p c) of_named_calls)
  unnamed g local some flag other = go (newest_of s.functions c) refl
    where
      go : (o : Option FunctionSetting) → newest_of s.functions c ≡ o → Refuses s (called p c) (cause_lines s (called p c) of_named_calls)
      go None e = absurd (cc (some ∙ ap (option_map parts_of) (sym (newest_is s.functions c) ∙ e)))
      go (Some k) e =
          let parts : Some (g, local) ≡ Some (parts_of k) = some ∙ ap (option_map parts_of) (sym (newest_is s.functions c) ∙ e) in
          let pair : (g, local) ≡ parts_of k = cc parts in
          let same : local ≡ k.local = ap (λ (x : Setting × Bool). x.1) pair in
          let not : (k.local || c.named) ≡ false = ap (λ b. b || c.named) (sym same) ∙ other in
          unsettled s (called p c) of_named_calls
          (is_of_call off (setting_is s.functions c ∙ ap (λ o. by_newest o c) e ∙ ap (λ b. if b then k.setting else off) not)) flag
          (ap (λ o. cause_of_call o c call_context) e ∙ ap (λ b. if b then cause_of_setting k.setting call_context else of_named_calls) not)

  -- it is about this call
  pub covered : (g : Setting) (local : Bool) → Some (g, local) ≡ option_map parts_of (newest_with s.functions c.mfa c.exported) → flags_at s p call_flag ≡ true → (local || c.named) ≡ true
      → IsBy s (called p c) g call_context
  covered g local some flag named = go (newest_of s.functions c) refl
    where
      go : (o : Option FunctionSetting) → newest_of s.functions c ≡ o → IsBy s (called p c) g call_context
      go None e = absurd (cc (some ∙ ap (option_map parts_of) (sym (newest_is s.functions c) ∙ e)))
      go (Some k) e =
          let parts : Some (g, local) ≡ Some (parts_of k) = some ∙ ap (option_map parts_of) (sym (newest_is s.functions c) ∙ e) in
          let pair : (g, local) ≡ parts_of k = cc parts in
          let same : local ≡ k.local = ap (λ (x : Setting × Bool). x.1) pair in
          let its : k.setting ≡ g = sym (ap (λ (x : Setting × Bool). x.0) pair) in
          let yes : (k.local || c.named) ≡ true = ap (λ b. b || c.named) (sym same) ∙ named in
          let is : setting_for s.functions c ≡ g = setting_is s.functions c ∙ ap (λ o. by_newest o c) e ∙ ap (λ b. if b then k.setting else off) yes ∙ its in
          settled s (called p c) g call_context (is_of_call g is) flag
          (ap (λ o. cause_of_call o c call_context) e ∙ ap (λ b. if b then cause_of_setting k.setting call_context else of_named_calls) yes ∙ ap (λ h. cause_of_setting h call_context) its)
          (ap (λ h. setting_lines h call_context) is)

-- ---- returns

-- the call has no mark
pub unmarked : (s : Session) (p depth : ℕ) (f : Mfa) (t : Tree) → is_marked s p depth ≡ false → Refuses s (returned p f t depth) (cause_lines s (returned p f t depth) no_mark)
unmarked s p depth f t h =
    refused s (returned p f t depth) no_mark (ap (λ b. if b then where_set s p call_flag (Some []) else None) h)
    (ap (λ b. if b then cause_where s (returned p f t depth) else Some no_mark) h)

-- it has one
pub marked : (s : Session) (p depth : ℕ) (f : Mfa) (t : Tree) → is_marked s p depth ≡ true → IsWhere s (returned p f t depth) (Some [])
marked s p depth f t h =
    (ap (λ b. if b then cause_where s (returned p f t depth) else Some no_mark) h, ap (λ b. if b then where_set s p call_flag (Some []) else None) h)

-- ---- exceptions

module _ (s : Session) (p depth : ℕ) (f : Mfa) (c : Class) (t : Tree) where
  abbrev raise : Event
  raise = raised p f c t depth

  -- the call has no mark
  pub unmarked_raise : mark_of s p depth ≡ None → Refuses s raise (cause_lines s raise no_mark)
  unmarked_raise h = refused s raise no_mark (ap (λ k. where_marked s p (is_for_exceptions k)) h) (ap (cause_by_mark s raise) h)

  -- it has one for returns
  pub raise_of_returns : mark_of s p depth ≡ Some for_returns → Refuses s raise (cause_lines s raise marked_for_returns)
  raise_of_returns h = refused s raise marked_for_returns (ap (λ k. where_marked s p (is_for_exceptions k)) h) (ap (cause_by_mark s raise) h)

  -- it has one for exceptions
  pub marked_raise : mark_of s p depth ≡ Some for_exceptions → IsWhere s raise (Some [])
  marked_raise h = (ap (cause_by_mark s raise) h, ap (λ k. where_marked s p (is_for_exceptions k)) h)

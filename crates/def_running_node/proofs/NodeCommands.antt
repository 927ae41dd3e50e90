-- The lines of a command and of a link of a process with itself.
use Rattle.std.proofs.Common.{map, true, ◌≡◌, ℕ, pos, not, ◌&&◌, Bool, false, List, [], Option, Some, None, Ok, bytes_eq, option_to_list, refl, sym, ap, ap₂, ◌∙◌, if◌then◌else◌}
use Rattle.std.proofs.lemmas.Slice.Eq.{bytes_eq-Decides}
use Rattle.std.proofs.lemmas.Bool.{false_from_ne_true}
use Rattle.def_term.specs.Tree.{Tree, Trees, int, atom, list, more, triple}
use Rattle.def_term.specs.Order.{same}
use Rattle.def_term.specs.Names.{Name, word}
use Rattle.def_script.specs.Program.{Command, set_function, session_of}
use Rattle.def_script.specs.Exports.{Exports}
use Rattle.def_spec.specs.Expressions.{for_calls}
use Rattle.def_spec.specs.Reading.{Reads, is_wildcard}
use Rattle.def_node.specs.Event.{Event, linked, unlinked}
use Rattle.def_session.specs.Settings.{FunctionPattern, whole_module, every, Setting, setting_of, trace_pattern_of, options_of}
use Rattle.def_session.specs.State.{Phase, absent, live, destroyed, Session}
use Rattle.def_session.specs.Commands.{CommandResult, refuse, number_term, function_set_if, done_in, command_done}
use Rattle.def_session.specs.Session.{event_reported}
use Rattle.def_running_node.specs.NodeReplies.{function_by, all_are_this, option_term, options_once, matches_none, reply_of_none, node_command_live, node_command_in, node_command}
use Rattle.def_running_node.specs.NodeRuns.{NodeRun, adds, lines_by_openness}
use Rattle.def_running_node.specs.NodeComparisons.{SessionPair, texts, determined_in, reply_texts, lines_of_command, lines_of_own_link_in}
use Rattle.def_running_node.specs.Laws.{WasDetermined, OwnUnlinkHasItsLine, CommandHasLinesBetween, OtherCommandHasNoLine, OwnLinkHasItsLine, OptionsCountOnce, NoArityMatchesNone}
use Rattle.def_running_node.proofs.LinesBetween.{lines_are_between}

pub command_has_lines_between : CommandHasLinesBetween
command_has_lines_between o r s k own is of_session =
    let here : List (List ℕ) = reply_texts (command_done o s.here k).1 in
    let there : List (List ℕ) = reply_texts (node_command o s.there.session k).1 in
    (lines_are_between here there (lines_of_command o r s k)).1
    (
    ap (λ b. if b then lines_by_openness s.is_determined (determined_in r s) here there else []) ((bytes_eq-Decides s.name (session_of k)).1 own)
    ∙ ap₂ (λ a b. lines_by_openness a (a && b) here there) of_session is
    )

pub other_command_has_no_line : OtherCommandHasNoLine
other_command_has_no_line o r s k other =
    let no : bytes_eq s.name (session_of k) ≡ false = false_from_ne_true (bytes_eq s.name (session_of k)) (λ e. other ((bytes_eq-Decides s.name (session_of k)).0 e)) in (
      ap (λ b. if b then lines_by_openness s.is_determined (determined_in r s) (reply_texts (command_done o s.here k).1) (reply_texts (node_command o s.there.session k).1) else []) no,
      ap (λ b. if b then record s { here = (command_done o s.here k).0; there = record s.there { session = (node_command o s.there.session k).0 }; is_determined = determined_in r s } else s) no,
    )

own-line : (r : NodeRun) (s : SessionPair) (e : Event) → WasDetermined s → r.is_determined ≡ true →
    lines_of_own_link_in s.here.phase r s e ≡ map adds (texts (option_to_list (event_reported s.there.session e).1))
own-line r s e h is =
    let there : List (List ℕ) = texts (option_to_list (event_reported s.there.session e).1) in
    ap (λ y. lines_of_own_link_in y r s e) h.lives
    ∙ ap₂ (λ a b. lines_by_openness a (a && b) [] there) h.of_session is

pub own_link_has_its_line : OwnLinkHasItsLine
own_link_has_its_line r s p h is = own-line r s (linked p p) h is

pub own_unlink_has_its_line : OwnUnlinkHasItsLine
own_unlink_has_its_line r s p h is = own-line r s (unlinked p p) h is

-- ---- what a node takes

once : (local : Bool) (ts : Trees) → all_are_this (word (if local then "local" else "global")) ts ≡ true → options_once (list (more (word (if local then "local" else "global")) ts)) ≡ option_term local
once true ts h =
    let w : Tree = word "local" in
    ap (λ b. if b then option_term true else (if all_are_this (word "global") (more w ts) then option_term false else list (more w ts))) h
once false ts h = ap (λ b. if b then option_term false else list (more (word "global") ts)) h

alone : (local : Bool) → options_once (option_term local) ≡ option_term local
alone true = refl
alone false = refl

pub options_count_once : OptionsCountOnce
options_count_once o s name mfa spec local ts h =
    let several : Tree = list (more (word (if local then "local" else "global")) ts) in
    go s.phase several refl (once local ts h)
  where
    of : Tree → Command
    of options = set_function name mfa spec options

    go : (p : Phase) (several : Tree) → s.phase ≡ p → options_once several ≡ option_term local → node_command_in p o s (of several) ≡ node_command_in p o s (of (option_term local))
    go absent several e k = ap (λ p. done_in p o s (of several)) e ∙ sym (ap (λ p. done_in p o s (of (option_term local))) e)
    go live several e k = ap (λ t. node_command_live o s (of t)) (k ∙ sym (alone local))
    go destroyed several e k = ap (λ p. done_in p o s (of several)) e ∙ sym (ap (λ p. done_in p o s (of (option_term local))) e)

-- of a function command by what is read of its arguments
abbrev function_done : Exports → Session → Option FunctionPattern → Option Bool → Reads Setting → (is_none : Bool) → CommandResult → CommandResult
function_done o s p local setting b r = let set : CommandResult = function_by o s p local setting r in (set.0, if b then reply_of_none local setting set.1 else set.1)

no-arity : (o : Exports) (s : Session) (name m f : Name) (spec options : Tree) (local : Bool) (setting : Setting)
    → s.phase ≡ live → is_wildcard m ≡ false → is_wildcard f ≡ false → setting_of for_calls spec ≡ Ok setting → options_of options ≡ Some local
    → node_command_live o s (set_function name (triple (atom m) (atom f) (int (pos 256))) spec options) ≡ (s, number_term 0)
no-arity o s name m f spec options local setting alive module_named named read listed =
    let mfa : Tree = triple (atom m) (atom f) (int (pos 256)) in
    let whole : Option FunctionPattern = if same (int (pos 256)) (word "_") then Some (whole_module m) else None in
    let all : Option FunctionPattern = if is_wildcard f && same (int (pos 256)) (word "_") then Some every else None in
    let pattern : trace_pattern_of mfa ≡ None = ap (λ b. if b then all else (if is_wildcard f then whole else None)) module_named ∙ ap (λ b. if b then whole else None) named in
    let is_none : matches_none mfa ≡ true = ap₂ (λ a b. not a && (not b && true)) module_named named in
    let model : command_done o s (set_function name mfa spec options) ≡ refuse s =
    ap (λ p. done_in p o s (set_function name mfa spec options)) alive ∙ ap (λ p. function_set_if o s p (options_of options) spec) pattern in
    ap (λ p. function_done o s p (options_of options) (setting_of for_calls spec) (matches_none mfa) (command_done o s (set_function name mfa spec options))) pattern
    ∙ ap₂ (λ l g. function_done o s None l g (matches_none mfa) (command_done o s (set_function name mfa spec options))) listed read
    ∙ ap₂ (λ b r. function_done o s None (Some local) (Ok setting) b r) is_none model

pub no_arity_matches_none : NoArityMatchesNone
no_arity_matches_none o s name m f spec true setting alive module_named named read =
    ap (λ p. node_command_in p o s (set_function name (triple (atom m) (atom f) (int (pos 256))) spec (option_term true))) alive
    ∙ no-arity o s name m f spec (option_term true) true setting alive module_named named read refl
no_arity_matches_none o s name m f spec false setting alive module_named named read =
    ap (λ p. node_command_in p o s (set_function name (triple (atom m) (atom f) (int (pos 256))) spec (option_term false))) alive
    ∙ no-arity o s name m f spec (option_term false) false setting alive module_named named read refl

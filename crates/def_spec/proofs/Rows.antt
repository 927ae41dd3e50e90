-- Worked bodies with `trace`, computed.
use Rattle.std.proofs.Common.{◌≡◌, true, List, [], ◌∷◌, None, refl}
use Rattle.std.specs.Prelude.{Ok, Err, pos, replicate, false}
use Rattle.def_term.specs.Tree.{Tree, int, atom, pid, tuple, list, Trees, none, more}
use Rattle.def_term.specs.Names.{word}
use Rattle.def_spec.specs.Flags.{no_flags, only, call_flag, with_flags_in}
use Rattle.def_spec.specs.Expressions.{for_calls, for_sends, for_receives, Context, Effect, gives_message}
use Rattle.def_spec.specs.Outcome.{Spec, Outcome, no_match, matched, outcome_of}
use Rattle.def_spec.specs.Reading.{badarg, unsupported, Reads, spec_of}

-- ---- terms

-- [{'_',[],Body}]
abbrev one_clause : Trees → Tree
one_clause body = list (more (tuple (more (word "_") (more (list none) (more (list body) none)))) none)

-- {Name,E1,..}
abbrev called : Tree → Trees → Tree
called f ts = tuple (more f ts)

abbrev one_flag : Tree → Tree
one_flag f = list (more f none)

abbrev no_list : Tree
no_list = list none

-- {trace,Disable,Enable}
abbrev traced : Tree → Tree → Tree
traced off on = called (word "trace") (more off (more on none))

-- {trace,Pid,Disable,Enable}
abbrev traced_at : Tree → Tree → Tree → Tree
traced_at p off on = called (word "trace") (more p (more off (more on none)))

abbrev sent_message : Tree → Tree
sent_message e = called (word "message") (more e none)

abbrev own : Tree
own = called (word "self") none

-- ---- contexts

-- process 100 has the flag `call`, and with it 101 lives, which has none
abbrev on_call : List Tree → Context
on_call ts = record {
  matched_list = ts;
  self_pid = 100;
  caller_mfa = None;
  alive = true ∷ true ∷ replicate 62 false;
  flags = with_flags_in (replicate 64 no_flags) 100 (only call_flag);
}

-- the messages among some effects
abbrev messages_of : List Effect → List Tree
messages_of [] = []
messages_of (gives_message t ∷ es) = t ∷ messages_of es
messages_of (_ ∷ es) = messages_of es

abbrev reported_by : Outcome → List Tree
reported_by no_match = []
reported_by (matched es) = messages_of es

abbrev told_if_read : Reads Spec → List Tree
told_if_read (Ok s) = reported_by (outcome_of s (on_call (int (pos 1) ∷ [])))
told_if_read (Err e) = word "fault" ∷ []

-- what the body tells of the call f(1), where its specification is read
abbrev told_at_call : Trees → List Tree
told_at_call body = told_if_read (spec_of for_calls (one_clause body))

abbrev truths : Tree → Tree → Tree
truths a b = list (more a (more b none))

-- ---- values

-- [{trace,[],[send]},{trace,[],[send]},{trace,[send],[]},{trace,[call],[call]}]: the second changes nothing more, and `call` is there after the last as it was before
tells_each_change : told_at_call (more (sent_message (list
    (more (traced no_list (one_flag (word "send"))) (more (traced no_list (one_flag (word "send"))) (more (traced (one_flag (word "send")) no_list) (more (traced (one_flag (word "call")) (one_flag (word "call"))) none)))))) none)
    ≡ list (more (word "true") (more (word "false") (more (word "true") (more (word "false") none)))) ∷ []
tells_each_change = refl

-- [{enable_trace,send},{trace,[],[send]}]: effects of the same body count
tells_after_other_effects : told_at_call (more (sent_message (truths (called (word "enable_trace") (more (word "send") none)) (traced no_list (one_flag (word "send"))))) none) ≡ truths (word "true") (word "false") ∷ []
tells_after_other_effects = refl

-- {silent,true} sets a flag too
tells_after_silent : told_at_call (more (called (word "silent") (more (word "true") none)) (more (sent_message (traced no_list (one_flag (word "silent")))) none)) ≡ word "false" ∷ []
tells_after_silent = refl

-- {trace,{self},[],[arity]} as the message
tells_of_self : told_at_call (more (sent_message (traced_at own no_list (one_flag (word "arity")))) (more (sent_message (traced_at own no_list (one_flag (word "arity")))) none)) ≡ word "true" ∷ word "false" ∷ []
tells_of_self = refl

-- another process has its own flags: `call` is none of 101's
tells_of_another : told_at_call (more (sent_message (traced_at (pid 101) no_list (one_flag (word "call")))) (more (sent_message (traced no_list (one_flag (word "call")))) none)) ≡ word "true" ∷ word "false" ∷ []
tells_of_another = refl

-- a flag that is in both lists is set where it wasn't
sets_after_clearing : told_at_call (more (sent_message (truths (traced (one_flag (word "send")) (one_flag (word "send"))) (traced (one_flag (word "send")) no_list))) none) ≡ truths (word "true") (word "true") ∷ []
sets_after_clearing = refl

-- empty lists change nothing, and a flag that is listed twice is one flag
tells_of_no_change : told_at_call (more (sent_message (truths (traced no_list no_list) (traced no_list (list (more (word "call") (more (word "call") none)))))) none) ≡ truths (word "false") (word "false") ∷ []
tells_of_no_change = refl

-- what `andalso` doesn't reach changes nothing
reached_alone_changes : told_at_call (more (called (word "andalso") (more (word "false") (more (traced no_list (one_flag (word "send"))) none))) (more (sent_message (traced no_list (one_flag (word "send")))) none)) ≡ word "true" ∷ []
reached_alone_changes = refl

-- of the arguments of a call the first changes the flag, so that the second doesn't
arguments_left_to_right : told_at_call (more (sent_message (called (word "xor") (more (traced no_list (one_flag (word "send"))) (more (traced no_list (one_flag (word "send"))) none)))) none) ≡ word "true" ∷ []
arguments_left_to_right = refl

-- a list of flags that is computed: the inner `trace` comes before the outer
inner_before_outer : told_at_call (more (sent_message (traced (called (word "element") (more (int (pos 2)) (more (tuple (more (tuple (more (traced no_list (one_flag (word "send"))) (more no_list none))) none)) none))) (one_flag (word "send")))) none) ≡ word "false" ∷ []
inner_before_outer = refl

-- ---- faults

-- {trace,[nope],[]}
no_flag_is_a_fault : told_at_call (more (sent_message (traced (one_flag (word "nope")) no_list)) none) ≡ word "EXIT" ∷ []
no_flag_is_a_fault = refl

no_list_is_a_fault : told_at_call (more (sent_message (traced no_list (word "send"))) none) ≡ word "EXIT" ∷ []
no_list_is_a_fault = refl

-- a fault has no effect
fault_changes_nothing : told_at_call (more (traced (one_flag (word "nope")) (one_flag (word "send"))) (more (sent_message (traced no_list (one_flag (word "send")))) none)) ≡ word "true" ∷ []
fault_changes_nothing = refl

dead_process_is_a_fault : told_at_call (more (sent_message (traced_at (pid 102) no_list (one_flag (word "send")))) none) ≡ word "EXIT" ∷ []
dead_process_is_a_fault = refl

-- self too
abbrev dead : Context
dead = record (on_call (int (pos 1) ∷ [])) { alive = replicate 64 false }

abbrev told_if_dead : Reads Spec → List Tree
told_if_dead (Ok s) = reported_by (outcome_of s dead)
told_if_dead (Err e) = word "fault" ∷ []

dead_self_is_a_fault : told_if_dead (spec_of for_calls (one_clause (more (sent_message (traced no_list (one_flag (word "send")))) none))) ≡ word "EXIT" ∷ []
dead_self_is_a_fault = refl

no_pid_is_a_fault : told_at_call (more (sent_message (traced_at (word "me") no_list (one_flag (word "send")))) none) ≡ word "EXIT" ∷ []
no_pid_is_a_fault = refl

-- ---- reading

abbrev fault_of : Reads Spec → List Tree
fault_of (Ok s) = []
fault_of (Err badarg) = word "badarg" ∷ []
fault_of (Err (unsupported s)) = atom s ∷ []

-- in sends, and not in receives
read_for_sends : fault_of (spec_of for_sends (one_clause (more (traced no_list no_list) none))) ≡ []
read_for_sends = refl

not_for_receives : fault_of (spec_of for_receives (one_clause (more (traced no_list no_list) none))) ≡ word "badarg" ∷ []
not_for_receives = refl

one_argument_is_badarg : fault_of (spec_of for_calls (one_clause (more (called (word "trace") (more no_list none)) none))) ≡ word "badarg" ∷ []
one_argument_is_badarg = refl

four_arguments_are_badarg : fault_of (spec_of for_calls (one_clause (more (called (word "trace") (more own (more no_list (more no_list (more no_list none))))) none))) ≡ word "badarg" ∷ []
four_arguments_are_badarg = refl

not_in_conditions : fault_of (spec_of for_calls (list (more (tuple (more (word "_") (more (list (more (traced no_list no_list) none)) (more (list none) none)))) none))) ≡ word "badarg" ∷ []
not_in_conditions = refl

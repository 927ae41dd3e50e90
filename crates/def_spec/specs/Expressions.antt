-- Expressions of conditions and bodies, their values and their effects ("Match Specifications in Erlang", "Variables and Literals" and "Function Descriptions").
-- Depends on bindings, on functions of values and on flags. Only the action `trace` reads flags, and with them the effects before it.
use Rattle.std.specs.Prelude.{ℕ, Bool, true, false, not, if◌then◌else◌, List, [], ◌∷◌, ◌++◌, Option, Some, None}
use Rattle.std.specs.Option.{option_map}
use Rattle.def_term.specs.Tree.{Tree, pid, tuple, list, of_elements}
use Rattle.def_term.specs.Order.{same}
use Rattle.def_term.specs.Names.{Mfa, word, mfa_term}
use Rattle.def_term.specs.Alive.{Alive, is_alive}
use Rattle.def_spec.specs.Flags.{Flag, Flags, no_flags, only, union, without, same_flags, silent_flag, flag_named, flags_listed, FlagTable, flags_in, with_flags_in}
use Rattle.def_spec.specs.Matching.{Bindings, value_bound}
use Rattle.def_spec.specs.Functions.{Func, truth, is_true, apply}

-- what a specification is for: calls, sends or receives
pub data Dialect : Type 0 where
  for_calls for_sends for_receives : Dialect

-- the actions of bodies ("Functions Allowed Only for Tracing")
pub data Action : Type 0 where
  message return_trace exception_trace silent enable_trace disable_trace trace caller : Action

mutual
  -- a variable, `'$_'`, `'$$'`, a literal, a tuple or list of expressions, or a call of a function or an action
  pub data Expr : Type 0 where
    -- '$N', '$_' and '$$'
    bound_to : ℕ → Expr
    whole_list : Expr
    all_bound : Expr
    -- a literal
    constant : Tree → Expr
    tuple_of : Exprs → Expr
    list_of : Exprs → Expr
    call : Func → Exprs → Expr
    -- andalso and orelse, which stop early
    and_also : Exprs → Expr
    or_else : Exprs → Expr
    -- a call of an action
    perform : Action → Exprs → Expr

  -- several expressions in their order
  pub data Exprs : Type 0 where
    no_exprs : Exprs
    and_expr : Expr → Exprs → Exprs

-- what an expression is evaluated in: the list that is matched, the own pid, the caller, which processes are alive, and the flags of all processes
pub record Context : Type 0 where
  pub matched_list : List Tree
  pub self_pid : ℕ
  pub caller_mfa : Option Mfa
  pub alive : Alive
  pub flags : FlagTable

-- ---- effects

-- what an action asks of the session: a message, a mark of the call's frame, the flag `silent`, or a change of flags of a process
pub data Effect : Type 0 where
  gives_message : Tree → Effect
  traces_return : Effect
  traces_exception : Effect
  silences : Bool → Effect
  changes : (of_pid : ℕ) → (off on : Flags) → Effect

-- flags cleared first and then set
abbrev pub change_flags : Flags → (off on : Flags) → Flags
change_flags f off on = union (without f off) on

-- the flags of all processes after an effect in the process of this pid
abbrev pub flags_by : ℕ → FlagTable → Effect → FlagTable
flags_by self_pid t (gives_message u) = t
flags_by self_pid t traces_return = t
flags_by self_pid t traces_exception = t
flags_by self_pid t (silences b) = with_flags_in t self_pid (if b then union (flags_in t self_pid) (only silent_flag) else without (flags_in t self_pid) (only silent_flag))
flags_by self_pid t (changes n off on) = with_flags_in t n (change_flags (flags_in t n) off on)

-- after several, in order
abbrev pub flags_after : ℕ → FlagTable → List Effect → FlagTable
flags_after self_pid t [] = t
flags_after self_pid t (e ∷ es) = flags_after self_pid (flags_by self_pid t e) es

-- what is evaluated after some effects reads the flags after them
abbrev pub context_after : Context → List Effect → Context
context_after c es = record c { flags = flags_after c.self_pid c.flags es }

-- ---- actions

-- the pid of a living process; of no other is a flag changed (own)
abbrev pub living_pid : Alive → Tree → Option ℕ
living_pid alive (pid n) = if is_alive alive n then Some n else None
living_pid alive _ = None

-- the change of one flag of one process, where both are there; else the call faults and has no effect (own)
abbrev pub change : Bool → Option ℕ → Option Flag → Option (List Effect)
change on (Some n) (Some f) = Some (changes n (if on then no_flags else only f) (if on then only f else no_flags) ∷ [])
change on _ _ = None

-- of a flag on self, or of flag E2 on pid E1
abbrev pub change_by : Bool → Context → List Tree → Option (List Effect)
change_by on c [] = None
change_by on c (f ∷ []) = change on (living_pid c.alive (pid c.self_pid)) (flag_named f)
change_by on c (p ∷ f ∷ []) = change on (living_pid c.alive p) (flag_named f)
change_by on c (p ∷ f ∷ t ∷ ts) = None

-- `true` where the flags of the process differ afterwards from those just before, else `false` (own)
abbrev pub is_changing : Flags → (off on : Flags) → Bool
is_changing f off on = not (same_flags f (change_flags f off on))

-- two lists of flags on a living process; any other value is a fault without an effect (own)
abbrev pub trace_change : Context → Option ℕ → Option Flags → Option Flags → Option (Tree × List Effect)
trace_change c (Some n) (Some off) (Some on) = Some (truth (is_changing (flags_in c.flags n) off on), changes n off on ∷ [])
trace_change c _ _ _ = None

-- on a pid
abbrev pub trace_on : Context → (process off on : Tree) → Option (Tree × List Effect)
trace_on c p off on = trace_change c (living_pid c.alive p) (flags_listed off) (flags_listed on)

-- {trace,Disable,Enable} on self, {trace,Pid,Disable,Enable} on that pid
abbrev pub trace_by : Context → List Tree → Option (Tree × List Effect)
trace_by c (off ∷ on ∷ []) = trace_on c (pid c.self_pid) off on
trace_by c (p ∷ off ∷ on ∷ []) = trace_on c p off on
trace_by c _ = None

-- for `true` or `false` that effect, for another value none
abbrev pub silence : Tree → List Effect
silence t = if same t (word "true") then silences true ∷ [] else if same t (word "false") then silences false ∷ [] else []

-- in the dialect of calls alone
abbrev pub of_calls : Dialect → Effect → List Effect
of_calls for_calls e = e ∷ []
of_calls for_sends e = []
of_calls for_receives e = []

-- {M,F,Arity} of the caller, `undefined` for an entry call
abbrev pub caller_term : Option Mfa → Tree
caller_term None = word "undefined"
caller_term (Some f) = mfa_term f

-- the value and the effects of an action on its arguments' values; None is a fault
abbrev pub action_done : Dialect → Action → List Tree → Context → Option (Tree × List Effect)
action_done d message (t ∷ []) c = Some (word "true", gives_message t ∷ [])
action_done d message _ c = None
action_done d return_trace ts c = Some (word "true", of_calls d traces_return)
action_done d exception_trace ts c = Some (word "true", of_calls d traces_exception)
action_done d silent (t ∷ []) c = Some (word "true", silence t)
action_done d silent _ c = None
action_done d enable_trace ts c = option_map (λ es. (word "true", es)) (change_by true c ts)
action_done d disable_trace ts c = option_map (λ es. (word "true", es)) (change_by false c ts)
action_done d trace ts c = trace_by c ts
action_done d caller ts c = Some (caller_term c.caller_mfa, [])

-- ---- values

-- where a fault is a fault of the whole, and where it is 'EXIT'
pub data Position : Type 0 where
  in_condition : Position
  in_body : Position

-- what an expression gives: a value or a fault, with the effects so far
pub data Evaluation (X : Type 0) : Type 0 where
  comes_to : X → List Effect → Evaluation X
  faults : List Effect → Evaluation X

-- goes on with the value and the effects; a fault is the fault of the whole
abbrev pub then_on : {X Y : Type 0} → Evaluation X → (X → List Effect → Evaluation Y) → Evaluation Y
then_on (comes_to t es) f = f t es
then_on (faults es) f = faults es

-- the value, or a fault where there is none
abbrev pub or_fault : {X : Type 0} → Option X → List Effect → Evaluation X
or_fault (Some t) es = comes_to t es
or_fault None es = faults es

-- in a condition a fault is the fault of the whole, in a body a call that faults has the value 'EXIT' (own)
abbrev pub settle : Position → Option Tree → Option Tree
settle in_condition r = r
settle in_body None = Some (word "EXIT")
settle in_body (Some t) = Some t

-- the effects of an action come after those so far; one that faults has none. Actions are in bodies alone
abbrev pub with_effect : Position → Option (Tree × List Effect) → List Effect → Evaluation Tree
with_effect in_condition r es = faults es
with_effect in_body None es = comes_to (word "EXIT") es
with_effect in_body (Some p) es = comes_to p.0 (es ++ p.1)

-- by rising number
abbrev pub values_bound : Bindings → List Tree
values_bound [] = []
values_bound (e ∷ es) = e.1 ∷ values_bound es

module _ (d : Dialect) (part : Position) (b : Bindings) (c : Context) where
  abbrev mutual
    -- what an expression gives after these effects; its own come after them, an argument's before its call's
    pub evaluation : Expr → List Effect → Evaluation Tree
    evaluation (bound_to n) x = or_fault (value_bound b n) x
    evaluation whole_list x = comes_to (list (of_elements c.matched_list)) x
    evaluation all_bound x = comes_to (list (of_elements (values_bound b))) x
    evaluation (constant t) x = comes_to t x
    evaluation (tuple_of es) x = then_on (evaluation_of_all es x) (λ ts y. comes_to (tuple (of_elements ts)) y)
    evaluation (list_of es) x = then_on (evaluation_of_all es x) (λ ts y. comes_to (list (of_elements ts)) y)
    evaluation (call f es) x = then_on (evaluation_of_all es x) (λ ts y. or_fault (settle part (apply f ts c.self_pid)) y)
    evaluation (and_also es) x = evaluation_while_true es x
    evaluation (or_else es) x = evaluation_until_true es x
    evaluation (perform a es) x = then_on (evaluation_of_all es x) (λ ts y. with_effect part (action_done d a ts (context_after c y)) y)

    -- left to right (own)
    pub evaluation_of_all : Exprs → List Effect → Evaluation (List Tree)
    evaluation_of_all no_exprs x = comes_to [] x
    evaluation_of_all (and_expr e es) x = then_on (evaluation e x) (λ t y. then_on (evaluation_of_all es y) (λ ts z. comes_to (t ∷ ts) z))

    -- stops at the first that isn't true: false where it has another value (own)
    pub evaluation_while_true : Exprs → List Effect → Evaluation Tree
    evaluation_while_true no_exprs x = comes_to (truth true) x
    evaluation_while_true (and_expr e es) x = then_on (evaluation e x) (λ t y. if is_true t then evaluation_while_true es y else comes_to (truth false) y)

    -- stops at the first that is true
    pub evaluation_until_true : Exprs → List Effect → Evaluation Tree
    evaluation_until_true no_exprs x = comes_to (truth false) x
    evaluation_until_true (and_expr e es) x = then_on (evaluation e x) (λ t y. if is_true t then comes_to (truth true) y else evaluation_until_true es y)

-- ---- values alone, and effects alone

-- the value, where there is one
abbrev pub its_value : {X : Type 0} → Evaluation X → Option X
its_value (comes_to t es) = Some t
its_value (faults es) = None

-- the effects
abbrev pub its_effects : {X : Type 0} → Evaluation X → List Effect
its_effects (comes_to t es) = es
its_effects (faults es) = es

-- there is a value, and it is `true`
abbrev pub is_true_value : Option Tree → Bool
is_true_value None = false
is_true_value (Some t) = is_true t

-- the value of an expression, with no effect before it
abbrev pub value : Dialect → Position → Bindings → Context → Expr → Option Tree
value d part b c e = its_value (evaluation d part b c e [])

-- those of several
abbrev pub values : Dialect → Position → Bindings → Context → Exprs → Option (List Tree)
values d part b c es = its_value (evaluation_of_all d part b c es [])

-- the effects of a body
abbrev pub effects_of_all : Dialect → Bindings → Context → Exprs → List Effect
effects_of_all d b c es = its_effects (evaluation_of_all d in_body b c es [])

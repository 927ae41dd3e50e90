-- A term is no step, and no command, exactly where there is a reason.
use Rattle.std.proofs.Common.{◌≡◌, ℕ, nat_le, nat_lt, Bool, true, false, not, cond, is_some, List, [], ◌∷◌, length, Option, Some, None, codes, refl, sym, ap, ◌∙◌, arith}
use Rattle.std.specs.Option.{option_map, option_or}
use Rattle.std.proofs.lemmas.Bool.Decides.{nat_tests}
use Rattle.def_term.specs.Tree.{Tree}
use Rattle.def_term.specs.Names.{Name}
use Rattle.def_script.specs.Program.{error, throw, exit, Step, call_local, link, unlink, give_back, raise, Command, create, set_processes, set_function, set_send, set_receive}
use Rattle.def_script.specs.Shapes.{both, all_three, and_then, if_few, name_in, target_in, callee_in, args_in, list_in, tuple_in, is_tuple, is_empty_list, is_tagged, remote_call, catch_of, spawn_of, send_in, receive_in, call_in, of_callee_in, of_one_in, step_of_fields, step_in, create_in, destroy_in, of_three_in, specified_in, command_of_fields, command_in}
use Rattle.def_wording.specs.ShapeTexts.{PartReason, unless_read, by_list, name_reason, length_reason, arguments_reason, target_reason, callee_reason, called_reason, send_step_reason, receive_step_reason, call_step_reason, one_part_reason, step_fields_reason, step_shape_reason, create_reason, destroy_reason, three_parts_reason, specified_reason, command_fields_reason, command_shape_reason}

-- there is a reason exactly where nothing is read
abbrev pub Excludes : {X : Type 0} → Option PartReason → Option X → Type 0
Excludes r o = is_some r ≡ not (is_some o)

unread : {X : Type 0} (o : Option X) (r : PartReason) → Excludes (unless_read o r) o
unread None r = refl
unread (Some x) r = refl

mapped : {X Y : Type 0} (g : X → Y) (r : Option PartReason) (o : Option X) → Excludes r o → Excludes r (option_map g o)
mapped g r None h = h
mapped g r (Some x) h = h

chosen : {X : Type 0} (b : Bool) (r q : Option PartReason) (o p : Option X) → Excludes r o → Excludes q p → Excludes (cond b r q) (cond b o p)
chosen true r q o p h k = h
chosen false r q o p h k = k

of_two : {X Y Z : Type 0} (g : X → Y → Z) (r q : Option PartReason) (x : Option X) (y : Option Y) → Excludes r x → Excludes q y → Excludes (option_or r q) (both g x y)
of_two g None q (Some x) None h k = k
of_two g None q (Some x) (Some y) h k = k
of_two g (Some r) q None y h k = refl
of_two g None q None y h k = absurd (cc h)
of_two g (Some r) q (Some x) y h k = absurd (cc h)

of_three : {W X Y Z : Type 0} (g : W → X → Y → Z) (r q p : Option PartReason) (w : Option W) (x : Option X) (y : Option Y) → Excludes r w → Excludes q x → Excludes p y
    → Excludes (option_or r (option_or q p)) (all_three g w x y)
of_three g None q p (Some w) x y h k l = of_two (g w) q p x y k l
of_three g (Some r) q p None x y h k l = refl
of_three g None q p None x y h k l = absurd (cc h)
of_three g (Some r) q p (Some w) x y h k l = absurd (cc h)

few : (n : ℕ) (a b : Bool) → nat_lt 255 n ≡ a → nat_le n 255 ≡ b → a ≡ not b
few n true false p q = refl
few n false true p q = refl
few n true true p q = absurd (grind (arith, nat_tests))
few n false false p q = absurd (grind (arith, nat_tests))

some_cond : {X : Type 0} (b : Bool) (x : X) → is_some (cond b (Some x) None) ≡ b
some_cond true x = refl
some_cond false x = refl

arguments_of : (x : PartReason) (words : List ℕ) (o : Option (List Tree)) → Excludes (by_list (Some x) (length_reason words) o) (and_then o if_few)
arguments_of x words None = refl
arguments_of x words (Some ts) =
    some_cond (nat_lt 255 (length ts)) _ ∙ few (length ts) _ _ refl refl ∙ ap not (sym (some_cond (nat_le (length ts) 255) ts))

arguments : (t : Tree) → Excludes (arguments_reason t) (args_in t)
arguments t = arguments_of _ _ (list_in t)

-- ---- steps

sent : (ts : List Tree) → Excludes (send_step_reason ts) (send_in ts)
sent [] = refl
sent (a ∷ []) = refl
sent (a ∷ b ∷ []) = refl
sent (a ∷ b ∷ c ∷ []) = refl
sent (a ∷ b ∷ c ∷ d ∷ ts) = refl

received : (ts : List Tree) → Excludes (receive_step_reason ts) (receive_in ts)
received [] = refl
received (a ∷ []) = refl
received (a ∷ v ∷ []) = mapped _ (target_reason v) (target_in v) (unread (target_in v) _)
received (a ∷ b ∷ c ∷ ts) = refl

of_callee : (shape : List ℕ) (g : Option Name → Name × Name → List Tree → Step) (ts : List Tree) → Excludes (call_step_reason shape callee_reason ts) (of_callee_in g ts)
of_callee shape g [] = refl
of_callee shape g (a ∷ []) = refl
of_callee shape g (a ∷ b ∷ []) = refl
of_callee shape g (a ∷ b ∷ c ∷ []) = refl
of_callee shape g (a ∷ v ∷ f ∷ args ∷ []) =
    of_three g (target_reason v) (callee_reason f) (arguments_reason args) (target_in v) (callee_in f) (args_in args) (unread (target_in v) _) (unread (callee_in f) _) (arguments args)
of_callee shape g (a ∷ b ∷ c ∷ d ∷ e ∷ ts) = refl

called_as : (b : Bool) (v f args : Tree) → Excludes (option_or (target_reason v) (option_or (cond b (callee_reason f) (name_reason (codes "F") f)) (arguments_reason args)))
    (cond b (all_three remote_call (target_in v) (callee_in f) (args_in args)) (all_three call_local (target_in v) (name_in f) (args_in args)))
called_as true v f args =
    of_three remote_call (target_reason v) (callee_reason f) (arguments_reason args) (target_in v) (callee_in f) (args_in args) (unread (target_in v) _) (unread (callee_in f) _) (arguments args)
called_as false v f args =
    of_three call_local (target_reason v) (name_reason (codes "F") f) (arguments_reason args) (target_in v) (name_in f) (args_in args) (unread (target_in v) _) (unread (name_in f) _) (arguments args)

called : (shape : List ℕ) (ts : List Tree) → Excludes (call_step_reason shape called_reason ts) (call_in ts)
called shape [] = refl
called shape (a ∷ []) = refl
called shape (a ∷ b ∷ []) = refl
called shape (a ∷ b ∷ c ∷ []) = refl
called shape (a ∷ v ∷ f ∷ args ∷ []) = called_as (is_tuple f) v f args
called shape (a ∷ b ∷ c ∷ d ∷ e ∷ ts) = refl

of_one : (shape : List ℕ) (g : Tree → Step) (ts : List Tree) → Excludes (one_part_reason shape ts) (of_one_in g ts)
of_one shape g [] = refl
of_one shape g (a ∷ []) = refl
of_one shape g (a ∷ b ∷ []) = refl
of_one shape g (a ∷ b ∷ c ∷ ts) = refl

step_fields : (t : Tree) (ts : List Tree) → Excludes (step_fields_reason t ts) (step_of_fields ts)
step_fields t ts =
    chosen (is_tagged "send" ts) _ _ _ _ (sent ts)
    (chosen (is_tagged "receive" ts) _ _ _ _ (received ts)
    (chosen (is_tagged "call" ts) _ _ _ _ (called _ ts)
    (chosen (is_tagged "catch" ts) _ _ _ _ (of_callee _ catch_of ts)
    (chosen (is_tagged "spawn" ts) _ _ _ _ (of_callee _ spawn_of ts)
    (chosen (is_tagged "link" ts) _ _ _ _ (of_one _ link ts)
    (chosen (is_tagged "unlink" ts) _ _ _ _ (of_one _ unlink ts)
    (chosen (is_tagged "return" ts) _ _ _ _ (of_one _ give_back ts)
    (chosen (is_tagged "error" ts) _ _ _ _ (of_one _ (raise error) ts)
    (chosen (is_tagged "throw" ts) _ _ _ _ (of_one _ (raise throw) ts)
    (chosen (is_tagged "exit" ts) _ _ _ _ (of_one _ (raise exit) ts) refl))))))))))

by_tuple : {X : Type 0} (x : PartReason) (r : List Tree → Option PartReason) (g : List Tree → Option X) (o : Option (List Tree)) → ((ts : List Tree) → Excludes (r ts) (g ts))
    → Excludes (by_list (Some x) r o) (and_then o g)
by_tuple x r g None h = refl
by_tuple x r g (Some ts) h = h ts

pub step_or_reason : (t : Tree) → Excludes (step_shape_reason t) (step_in t)
step_or_reason t = by_tuple _ (step_fields_reason t) step_of_fields (tuple_in t) (step_fields t)

-- ---- commands

created_with : (b : Bool) (x : PartReason) (r q : Option PartReason) {X Y Z : Type 0} (g : X → Y → Z) (s : Option X) (t : Option Y) → Excludes r s → Excludes q t
    → Excludes (option_or r (option_or (cond b None (Some x)) q)) (cond b (both g s t) None)
created_with true x r q g s t h k = of_two g r q s t h k
created_with false x None q g s t h k = refl
created_with false x (Some r) q g s t h k = refl

created : (ts : List Tree) → Excludes (create_reason ts) (create_in ts)
created [] = refl
created (a ∷ []) = refl
created (a ∷ b ∷ []) = refl
created (a ∷ b ∷ c ∷ []) = refl
created (a ∷ s ∷ t ∷ o ∷ []) = created_with (is_empty_list o) _ (name_reason (codes "S") s) (name_reason (codes "T") t) create (name_in s) (name_in t) (unread (name_in s) _) (unread (name_in t) _)
created (a ∷ b ∷ c ∷ d ∷ e ∷ ts) = refl

destroyed : (ts : List Tree) → Excludes (destroy_reason ts) (destroy_in ts)
destroyed [] = refl
destroyed (a ∷ []) = refl
destroyed (a ∷ s ∷ []) = mapped _ (name_reason (codes "S") s) (name_in s) (unread (name_in s) _)
destroyed (a ∷ b ∷ c ∷ ts) = refl

with_three : (shape : List ℕ) (g : Name → Tree → Tree → Tree → Command) (ts : List Tree) → Excludes (three_parts_reason shape ts) (of_three_in g ts)
with_three shape g [] = refl
with_three shape g (a ∷ []) = refl
with_three shape g (a ∷ b ∷ []) = refl
with_three shape g (a ∷ b ∷ c ∷ []) = refl
with_three shape g (a ∷ b ∷ c ∷ d ∷ []) = refl
with_three shape g (a ∷ s ∷ c ∷ d ∷ e ∷ []) = mapped _ (name_reason (codes "S") s) (name_in s) (unread (name_in s) _)
with_three shape g (a ∷ b ∷ c ∷ d ∷ e ∷ f ∷ ts) = refl

specified_with : (b : Bool) (x : PartReason) (r : Option PartReason) {X Y : Type 0} (g : X → Y) (s : Option X) → Excludes r s
    → Excludes (option_or r (cond b None (Some x))) (cond b (option_map g s) None)
specified_with true x None g (Some s) h = refl
specified_with true x (Some r) g None h = refl
specified_with true x None g None h = absurd (cc h)
specified_with true x (Some r) g (Some s) h = absurd (cc h)
specified_with false x None g s h = refl
specified_with false x (Some r) g s h = refl

specified : (shape : List ℕ) (g : Name → Tree → Command) (ts : List Tree) → Excludes (specified_reason shape ts) (specified_in g ts)
specified shape g [] = refl
specified shape g (a ∷ []) = refl
specified shape g (a ∷ b ∷ []) = refl
specified shape g (a ∷ b ∷ c ∷ []) = refl
specified shape g (a ∷ s ∷ spec ∷ o ∷ []) = specified_with (is_empty_list o) _ (name_reason (codes "S") s) (λ n. g n spec) (name_in s) (unread (name_in s) _)
specified shape g (a ∷ b ∷ c ∷ d ∷ e ∷ ts) = refl

command_fields : (t : Tree) (ts : List Tree) → Excludes (command_fields_reason t ts) (command_of_fields ts)
command_fields t ts =
    chosen (is_tagged "session_create" ts) _ _ _ _ (created ts)
    (chosen (is_tagged "session_destroy" ts) _ _ _ _ (destroyed ts)
    (chosen (is_tagged "process" ts) _ _ _ _ (with_three _ set_processes ts)
    (chosen (is_tagged "function" ts) _ _ _ _ (with_three _ set_function ts)
    (chosen (is_tagged "send" ts) _ _ _ _ (specified _ set_send ts)
    (chosen (is_tagged "recv" ts) _ _ _ _ (specified _ set_receive ts) refl)))))

pub command_or_reason : (t : Tree) → Excludes (command_shape_reason t) (command_in t)
command_or_reason t = by_tuple _ (command_fields_reason t) command_of_fields (tuple_in t) (command_fields t)

-- What tells the values of nodes apart: a code of each type that is in one.
use Rattle.std.specs.Prelude.{◌≡◌, ◌⊎◌, ℕ, zero, suc, pos, negsuc, Bool, List, [], ◌∷◌, Option, refl}
use Rattle.std.specs.Coded.{Coded, code_by, coded_ℕ, coded_bool, coded_list, coded_option, coded×, coded⊎}
use base.Stored.{Gv, gnil, gnum, gcons, num}
use mathlib.Core.Logic.{inl, inr}
use mathlib.Core.Path.{ap, ap₂}
use Rattle.def_term.specs.Tree.{Tree, Trees, int, atom, pid, tuple, list, none, more}
use Rattle.def_term.specs.Names.{Name}
use Rattle.def_script.specs.Program.{Class, error, throw, exit, Step, send, receive, call_remote, call_local, catch, spawn, link, unlink, give_back, raise, Function, Entry}
use Rattle.def_node.specs.Values.{Env}
use Rattle.def_node.specs.Process.{Frame, Process}
use Rattle.def_node.specs.Node.{NodeState}

-- a name
abbrev pub name_code : Coded Name
name_code = coded_list coded_ℕ

-- the characters of an atom
abbrev atom_to : List ℕ → Gv
atom_to [] = gnil
atom_to (c ∷ cs) = gcons (gnum c) (atom_to cs)

abbrev atom_from : Gv → List ℕ
atom_from gnil = []
atom_from (gnum n) = []
atom_from (gcons c cs) = num c ∷ atom_from cs

pub atom_back : (cs : List ℕ) → atom_from (atom_to cs) ≡ cs
atom_back [] = refl
atom_back (c ∷ cs) = ap (λ ds. c ∷ ds) (atom_back cs)

-- a term
abbrev mutual
  tree_to : Tree → Gv
  tree_to (pid n) = gnum n
  tree_to (int (pos n)) = gcons (gnum 0) (gnum n)
  tree_to (int (negsuc n)) = gcons (gnum 1) (gnum n)
  tree_to (atom cs) = gcons (gnum 2) (atom_to cs)
  tree_to (tuple ts) = gcons gnil (trees_to ts)
  tree_to (list ts) = gcons (gcons gnil gnil) (trees_to ts)

  trees_to : Trees → Gv
  trees_to none = gnil
  trees_to (more t ts) = gcons (tree_to t) (trees_to ts)

abbrev mutual
  tree_from : Gv → Tree
  tree_from gnil = tuple none
  tree_from (gnum n) = pid n
  tree_from (gcons (gnum zero) g) = int (pos (num g))
  tree_from (gcons (gnum (suc zero)) g) = int (negsuc (num g))
  tree_from (gcons (gnum (suc (suc k))) g) = atom (atom_from g)
  tree_from (gcons gnil g) = tuple (trees_from g)
  tree_from (gcons (gcons a b) g) = list (trees_from g)

  trees_from : Gv → Trees
  trees_from gnil = none
  trees_from (gnum n) = none
  trees_from (gcons g h) = more (tree_from g) (trees_from h)

mutual
  pub tree_back : (t : Tree) → tree_from (tree_to t) ≡ t
  tree_back (pid n) = refl
  tree_back (int (pos n)) = refl
  tree_back (int (negsuc n)) = refl
  tree_back (atom cs) = ap atom (atom_back cs)
  tree_back (tuple ts) = ap tuple (trees_back ts)
  tree_back (list ts) = ap list (trees_back ts)

  pub trees_back : (ts : Trees) → trees_from (trees_to ts) ≡ ts
  trees_back none = refl
  trees_back (more t ts) = ap₂ more (tree_back t) (trees_back ts)

abbrev gv_code : Coded Gv
gv_code = record { code = λ g. g; inj = λ x y e. e }

abbrev pub tree_code : Coded Tree
tree_code = code_by Gv gv_code tree_to tree_from tree_back

-- a class of exceptions
abbrev class_to : Class → Unit {0} ⊎ (Unit {0} ⊎ Unit {0})
class_to error = inl tt
class_to throw = inr (inl tt)
class_to exit = inr (inr tt)

abbrev class_from : Unit {0} ⊎ (Unit {0} ⊎ Unit {0}) → Class
class_from (inl u) = error
class_from (inr (inl u)) = throw
class_from (inr (inr u)) = exit

pub class_back : (c : Class) → class_from (class_to c) ≡ c
class_back error = refl
class_back throw = refl
class_back exit = refl

abbrev unit_code : Coded (Unit {0})
unit_code = record { code = λ u. gnil; inj = λ x y e. refl }

abbrev class_code : Coded Class
class_code = code_by (Unit {0} ⊎ (Unit {0} ⊎ Unit {0})) (coded⊎ unit_code (coded⊎ unit_code unit_code)) class_to class_from class_back

-- what a call names: its target, the module, the function and the arguments
abbrev NamedCall : Type 0
NamedCall = Option Name × (Name × (Name × List Tree))

abbrev named_call_code : Coded NamedCall
named_call_code = coded× (coded_option name_code) (coded× name_code (coded× name_code (coded_list tree_code)))

-- a step that names a function: call_remote, call_local, catch or spawn
abbrev CallStep : Type 0
CallStep = NamedCall ⊎ ((Option Name × (Name × List Tree)) ⊎ (NamedCall ⊎ NamedCall))

abbrev call_step_code : Coded CallStep
call_step_code = coded⊎ named_call_code (coded⊎ (coded× (coded_option name_code) (coded× name_code (coded_list tree_code))) (coded⊎ named_call_code named_call_code))

-- a step of one term: link, unlink, give_back or raise
abbrev TermStep : Type 0
TermStep = Tree ⊎ (Tree ⊎ (Tree ⊎ (Class × Tree)))

abbrev term_step_code : Coded TermStep
term_step_code = coded⊎ tree_code (coded⊎ tree_code (coded⊎ tree_code (coded× class_code tree_code)))

-- any step
abbrev AnyStep : Type 0
AnyStep = (Tree × Tree) ⊎ (Option Name ⊎ (CallStep ⊎ TermStep))

abbrev step_to : Step → AnyStep
step_to (send to m) = inl (to, m)
step_to (receive x) = inr (inl x)
step_to (call_remote x m f ts) = inr (inr (inl (inl (x, (m, (f, ts))))))
step_to (call_local x f ts) = inr (inr (inl (inr (inl (x, (f, ts))))))
step_to (catch x m f ts) = inr (inr (inl (inr (inr (inl (x, (m, (f, ts))))))))
step_to (spawn x m f ts) = inr (inr (inl (inr (inr (inr (x, (m, (f, ts))))))))
step_to (link t) = inr (inr (inr (inl t)))
step_to (unlink t) = inr (inr (inr (inr (inl t))))
step_to (give_back t) = inr (inr (inr (inr (inr (inl t)))))
step_to (raise c t) = inr (inr (inr (inr (inr (inr (c, t))))))

abbrev step_from : AnyStep → Step
step_from (inl s) = send s.0 s.1
step_from (inr (inl x)) = receive x
step_from (inr (inr (inl (inl c)))) = call_remote c.0 c.1.0 c.1.1.0 c.1.1.1
step_from (inr (inr (inl (inr (inl c))))) = call_local c.0 c.1.0 c.1.1
step_from (inr (inr (inl (inr (inr (inl c)))))) = catch c.0 c.1.0 c.1.1.0 c.1.1.1
step_from (inr (inr (inl (inr (inr (inr c)))))) = spawn c.0 c.1.0 c.1.1.0 c.1.1.1
step_from (inr (inr (inr (inl t)))) = link t
step_from (inr (inr (inr (inr (inl t))))) = unlink t
step_from (inr (inr (inr (inr (inr (inl t)))))) = give_back t
step_from (inr (inr (inr (inr (inr (inr r)))))) = raise r.0 r.1

pub step_back : (s : Step) → step_from (step_to s) ≡ s
step_back (send to m) = refl
step_back (receive x) = refl
step_back (call_remote x m f ts) = refl
step_back (call_local x f ts) = refl
step_back (catch x m f ts) = refl
step_back (spawn x m f ts) = refl
step_back (link t) = refl
step_back (unlink t) = refl
step_back (give_back t) = refl
step_back (raise c t) = refl

abbrev step_code : Coded Step
step_code = code_by AnyStep (coded⊎ (coded× tree_code tree_code) (coded⊎ (coded_option name_code) (coded⊎ call_step_code term_step_code))) step_to step_from step_back

-- a function
abbrev pub function_code : Coded Function
function_code =
    code_by (Name × (Name × (Bool × (List Name × List Step))))
    (coded× name_code (coded× name_code (coded× coded_bool (coded× (coded_list name_code) (coded_list step_code)))))
    (λ k. (k.module_name, (k.function_name, (k.exported, (k.params, k.steps)))))
    (λ p. record { module_name = p.0; function_name = p.1.0; exported = p.1.1.0; params = p.1.1.1.0; steps = p.1.1.1.1 }) (λ _. refl)

-- an entry call
abbrev pub entry_code : Coded Entry
entry_code =
    code_by (Name × (Name × List Tree)) (coded× name_code (coded× name_code (coded_list tree_code)))
    (λ e. (e.module_name, (e.function_name, e.args))) (λ p. record { module_name = p.0; function_name = p.1.0; args = p.1.1 }) (λ _. refl)

-- a frame
abbrev env_code : Coded Env
env_code = coded_list (coded× name_code tree_code)

abbrev frame_code : Coded Frame
frame_code =
    code_by (ℕ × (ℕ × (Env × (Option Name × Bool)))) (coded× coded_ℕ (coded× coded_ℕ (coded× env_code (coded× (coded_option name_code) coded_bool))))
    (λ f. (f.function, (f.place, (f.env, (f.target, f.by_catch)))))
    (λ p. record { function = p.0; place = p.1.0; env = p.1.1.0; target = p.1.1.1.0; by_catch = p.1.1.1.1 }) (λ _. refl)

-- a process
abbrev process_code : Coded Process
process_code =
    code_by (Option Entry × (List Frame × (List Tree × (Option Tree × List Bool))))
    (coded× (coded_option entry_code) (coded× (coded_list frame_code) (coded× (coded_list tree_code) (coded× (coded_option tree_code) (coded_list coded_bool)))))
    (λ q. (q.entry, (q.frames, (q.mailbox, (q.signal, q.links)))))
    (λ p. record { entry = p.0; frames = p.1.0; mailbox = p.1.1.0; signal = p.1.1.1.0; links = p.1.1.1.1 }) (λ _. refl)

-- the state of a node
abbrev pub state_code : Coded NodeState
state_code =
    code_by (List (Option Process) × ℕ) (coded× (coded_list (coded_option process_code)) coded_ℕ) (λ s. (s.world.slots, s.taken))
    (λ p. record { world = record { slots = p.0 }; taken = p.1 }) (λ _. refl)

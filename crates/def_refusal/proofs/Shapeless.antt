-- A term with a step or a command without a shape is no form.
use Rattle.std.proofs.Common.{◌≡◌, ℕ, suc, Bool, true, false, List, [], ◌∷◌, codes, Option, Some, None, refl, sym, ap, ◌∙◌, if◌then◌else◌}
use Rattle.std.specs.Option.{option_map}
use Rattle.std.specs.Str.{bytes_eq}
use Rattle.std.proofs.lemmas.Slice.Eq.{bytes_eq-Decides}
use Rattle.def_term.specs.Tree.{Tree, int, atom, pid, tuple, list, elements}
use Rattle.def_term.specs.Names.{Name}
use Rattle.def_script.specs.Program.{Step, Command, Form, declares, controls}
use Rattle.def_script.specs.Shapes.{both, and_then, each_in, is_tagged, is_atom_of, step_in, command_in, all_four, name_in, exported_in, params_in, steps_in, list_in, function_from, function_in, process_in, control_in, form_of_fields, form_in}
use Rattle.def_refusal.specs.Items.{FormItem, step, command, or_position, position_without_shape, terms_as_steps, terms_as_commands, shapeless_item_of, shapeless_item}
use Rattle.def_refusal.specs.Laws.{ShapelessItemIsNoForm}

no_some : {X : Type 0} (P : Type 0) (x : X) → None ≡ Some x → P
no_some P x e = cc

mapped_none : {X Y : Type 0} (f : X → Y) (o : Option X) → o ≡ None → option_map f o ≡ None
mapped_none f o e = ap (option_map f) e

mapped_some : {X Y : Type 0} (f : X → Y) (o : Option X) (y : Y) → option_map f o ≡ Some y → (x : X) × (o ≡ Some x)
mapped_some f None y e = no_some _ y e
mapped_some f (Some x) y e = (x, refl)

both_none : {X : Type 0} (x : X) (p : Option (List X)) → p ≡ None → both (λ y ys. y ∷ ys) (Some x) p ≡ None
both_none x p e = ap (both (λ y ys. y ∷ ys) (Some x)) e

unread_by : {X : Type 0} (f : Tree → Option X) (n : ℕ) (ts : List Tree) (o : Option X) (k : ℕ) → (position_without_shape f (suc n) ts ≡ Some k → each_in f ts ≡ None) → or_position n o (position_without_shape f (suc n) ts) ≡ Some k → both (λ x xs. x ∷ xs) o (each_in f ts) ≡ None
unread_by f n ts None k later e = refl
unread_by f n ts (Some x) k later e = both_none x (each_in f ts) (later e)

unread : {X : Type 0} (f : Tree → Option X) (n : ℕ) (ts : List Tree) (k : ℕ) → position_without_shape f n ts ≡ Some k → each_in f ts ≡ None
unread f n [] k e = no_some _ k e
unread f n (t ∷ ts) k e = unread_by f n ts (f t) k (λ h. unread f (suc n) ts k h) e

then_unread : {X : Type 0} (f : Tree → Option X) (l : Option (List Tree)) (k : ℕ) → and_then l (position_without_shape f 1) ≡ Some k → and_then l (λ ts. each_in f ts) ≡ None
then_unread f None k e = refl
then_unread f (Some ts) k e = unread f 1 ts k e

both_unread : {M Z : Type 0} (make : M → List Step → Z) (a : Option M) (l : Option (List Tree)) (k : ℕ) → and_then (both (λ m ts. ts) a l) (position_without_shape step_in 1) ≡ Some k → both make a (and_then l (λ ts. each_in step_in ts)) ≡ None
both_unread make None l k e = refl
both_unread make (Some m) None k e = refl
both_unread make (Some m) (Some ts) k e = ap (both make (Some m)) (unread step_in 1 ts k e)

no_function : (ts : List Tree) (k : ℕ) → and_then (terms_as_steps ts) (position_without_shape step_in 1) ≡ Some k → function_in ts ≡ None
no_function [] k e = refl
no_function (a ∷ []) k e = refl
no_function (a ∷ b ∷ []) k e = refl
no_function (a ∷ b ∷ c ∷ []) k e = refl
no_function (a ∷ b ∷ c ∷ d ∷ []) k e = refl
no_function (a ∷ b ∷ c ∷ d ∷ f ∷ []) k e = refl
no_function (a ∷ b ∷ c ∷ d ∷ f ∷ g ∷ []) k e =
    both_unread (λ make ss. declares (make ss)) (all_four function_from (name_in b) (name_in c) (exported_in d) (params_in f)) (list_in g) k e
no_function (a ∷ b ∷ c ∷ d ∷ f ∷ g ∷ h ∷ ts) k e = refl

no_control : (ts : List Tree) (k : ℕ) → and_then (terms_as_commands ts) (position_without_shape command_in 1) ≡ Some k → control_in ts ≡ None
no_control [] k e = refl
no_control (a ∷ []) k e = refl
no_control (a ∷ b ∷ []) k e = ap (option_map controls) (then_unread command_in (list_in b) k e)
no_control (a ∷ b ∷ c ∷ ts) k e = refl

-- one word is not another
not_process : (s : Name) → bytes_eq s (codes "control") ≡ true → bytes_eq s (codes "process") ≡ false
not_process s e = ap (λ u. bytes_eq u (codes "process")) ((bytes_eq-Decides s (codes "control")).0 e)

control_no_process : (ts : List Tree) → is_tagged "control" ts ≡ true → is_tagged "process" ts ≡ false
control_no_process [] e = refl
control_no_process (int n ∷ ts) e = refl
control_no_process (atom s ∷ ts) e = not_process s e
control_no_process (pid n ∷ ts) e = refl
control_no_process (tuple us ∷ ts) e = refl
control_no_process (list us ∷ ts) e = refl

by_control : (ts : List Tree) (i : FormItem) (c : Bool) → is_tagged "control" ts ≡ c → (if c then option_map command (and_then (terms_as_commands ts) (position_without_shape command_in 1)) else None) ≡ Some i
    → (if is_tagged "process" ts then process_in ts else if c then control_in ts else None) ≡ None
by_control ts i false is e = no_some _ i e
by_control ts i true is e =
    let k = mapped_some command (and_then (terms_as_commands ts) (position_without_shape command_in 1)) i e in
    ap (λ b. if b then process_in ts else control_in ts) (control_no_process ts is) ∙ no_control ts k.0 k.1

by_function : (ts : List Tree) (i : FormItem) (f : Bool)
    → (if f then option_map step (and_then (terms_as_steps ts) (position_without_shape step_in 1)) else if is_tagged "control" ts then option_map command (and_then (terms_as_commands ts) (position_without_shape command_in 1)) else None) ≡ Some i
    → (if f then function_in ts else if is_tagged "process" ts then process_in ts else if is_tagged "control" ts then control_in ts else None) ≡ None
by_function ts i true e = let k = mapped_some step (and_then (terms_as_steps ts) (position_without_shape step_in 1)) i e in no_function ts k.0 k.1
by_function ts i false e = by_control ts i (is_tagged "control" ts) refl e

pub no_form : ShapelessItemIsNoForm
no_form (int n) i e = refl
no_form (atom s) i e = refl
no_form (pid n) i e = refl
no_form (tuple us) i e = by_function (elements us) i (is_tagged "function" (elements us)) e
no_form (list us) i e = refl

-- What templates stand for, and the values of a call's parameters.
use Rattle.std.specs.Prelude.{◌≡◌, ◌≤◌, ◌+◌, List, [], ◌∷◌, ℕ, map, codes, Option, Some, None}
use Rattle.def_term.specs.Tree.{Tree, Trees, pid, size, depth, sum_of_sizes, greatest_depth}
use Rattle.def_term.specs.Names.{Name}
use Rattle.def_node.specs.Values as values
use Rattle.def_node.specs.Values.{instance_of, params_bound}
use Rattle.tn_term.specs.Views.{tree_of, trees_of}
use Rattle.tn_term.specs.SharedTree.{shared_tree}
use Rattle.tn_term.specs.declared.shared_term.SharedTerm.{SharedTerm}
use Rattle.tn_term.specs.declared.term.Term.{Term}
use Rattle.tn_script.specs.declared.form.Arguments.{Arguments}
use Rattle.tn_process.specs.declared.process.Frame.{Frame}
use Rattle.tn_process.specs.declared.value.Elements.{Elements}
use Rattle.tn_process.specs.declared.value.Value.{Value}
use Rattle.tn_process.specs.declared.env.Env.{Env}
use Rattle.tn_process.specs.Views.{env_of}

-- what templates stand for, by the values of variables
abbrev pub all_built_by : {A : Type 0} → Env A → List (Term A) → List Tree
all_built_by e ts = map (λ t. instance_of (env_of e) (tree_of t)) ts

-- what arguments stand for, by the values of variables
abbrev pub args_built_by : {A : Type 0} → Env A → Arguments A → List Tree
args_built_by e ts = all_built_by e ts.terms.items

-- what a template stands for in a frame
abbrev pub built_in : {A : Type 0} → Frame A → Term A → Tree
built_in f t = instance_of (env_of f.env) (tree_of t)

-- what templates stand for in a frame
abbrev pub all_built_in : {A : Type 0} → Frame A → Arguments A → List Tree
all_built_in f ts = args_built_by f.env ts

-- the values of a function's parameters, and the process's own pid
abbrev pub env_for_call : ℕ → List Name → List Tree → values.Env
env_for_call n ps ts = params_bound ((codes "Self", pid n) ∷ []) ps ts

-- one more parameter has its value
abbrev pub BindsNext : {A : Type 0} → Env A → Env A → Name → List (SharedTerm A) → List (SharedTerm A) → Type 0
BindsNext old new p had left =
    (ps : List Name) → params_bound (env_of new) ps (map shared_tree left) ≡ params_bound (env_of old) (p ∷ ps) (map shared_tree had)

-- the value is the term, which has at most size n and depth d
pub record IsValueIn {A : Type 0} (n d : ℕ) (t : Tree) (v : Value A) : Type 0 where
  pub tree : tree_of v.term ≡ t
  pub size_is : v.size ≡ size t
  pub depth_is : v.depth ≡ depth t
  pub size_fits : size t ≤ n
  pub depth_fits : depth t ≤ d

-- the answer is the term where it has at most size n and depth d, and none for another
abbrev pub IsBuiltIn : {A : Type 0} → ℕ → ℕ → Tree → Option (Value A) → Type 0
IsBuiltIn n d t None = size t ≤ n → depth t ≤ d → ⊥
IsBuiltIn n d t (Some v) = IsValueIn n d t v

-- the same of the elements of a tuple or list, which has at most size n and depth d
pub record AreElementsIn {A : Type 0} (n d : ℕ) (ts : Trees) (e : Elements A) : Type 0 where
  pub trees : trees_of e.terms.items ≡ ts
  pub size_fits : 1 + sum_of_sizes ts ≤ n
  pub depth_fits : 1 + greatest_depth ts ≤ d

-- the answer is the elements where a tuple or list of them is so, and none for others
abbrev pub AreBuiltIn : {A : Type 0} → ℕ → ℕ → Trees → Option (Elements A) → Type 0
AreBuiltIn n d ts None = 1 + sum_of_sizes ts ≤ n → 1 + greatest_depth ts ≤ d → ⊥
AreBuiltIn n d ts (Some e) = AreElementsIn n d ts e

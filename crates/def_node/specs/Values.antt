-- The values of variables, and what a template stands for (own).
-- Depends on terms and on what is a variable.
use Rattle.std.specs.Prelude.{nat_le, Bool, true, ◌&&◌, if◌then◌else◌, List, [], ◌∷◌, ℕ, Option, Some, None}
use Rattle.std.specs.Option.{unwrap_or}
use Rattle.std.specs.Str.{bytes_eq}
use Rattle.def_term.specs.Tree.{Tree, int, atom, pid, tuple, list, Trees, none, more, depth, size}
use Rattle.def_term.specs.Names.{Name}
use Rattle.def_text.specs.Limits.{DEPTH}
use Rattle.def_script.specs.Program.{is_variable}

-- each variable once, the oldest first
abbrev pub Env : Type 0
Env = List (Name × Tree)

-- the value of a variable, where it is bound
abbrev pub binding_of : Env → Name → Option Tree
binding_of [] x = None
binding_of (e ∷ env) x = if bytes_eq e.0 x then Some e.1 else binding_of env x

-- the value of an atom that is a bound variable
abbrev pub value_of : Env → Name → Option Tree
value_of env a = if is_variable a then binding_of env a else None

-- a step that binds a bound variable replaces its value
abbrev pub rebound : Env → Name → Tree → Env
rebound [] x t = (x, t) ∷ []
rebound (e ∷ env) x t = if bytes_eq e.0 x then (e.0, t) ∷ env else e ∷ rebound env x t

-- without a target the value is discarded
abbrev pub rebound_target : Option Name → Tree → Env → Env
rebound_target None t env = env
rebound_target (Some x) t env = rebound env x t

-- each parameter is bound to its argument
abbrev pub params_bound : Env → List Name → List Tree → Env
params_bound env [] ts = env
params_bound env (x ∷ xs) [] = env
params_bound env (x ∷ xs) (t ∷ ts) = params_bound (rebound env x t) xs ts

-- each variable of a template stands for its value
abbrev mutual
  pub instance_of : Env → Tree → Tree
  instance_of env (int z) = int z
  instance_of env (atom a) = unwrap_or (value_of env a) (atom a)
  instance_of env (pid n) = pid n
  instance_of env (tuple ts) = tuple (all_built env ts)
  instance_of env (list ts) = list (all_built env ts)

  -- each element so
  pub all_built : Env → Trees → Trees
  all_built env none = none
  all_built env (more t ts) = more (instance_of env t) (all_built env ts)

-- the greatest size of a built term
abbrev pub SIZE : ℕ
SIZE = 65536

-- whether a built term is within the limits on size and depth
abbrev pub fits : Tree → Bool
fits t = nat_le (size t) SIZE && nat_le (depth t) DEPTH

-- the built term, where it is within the limits
abbrev pub fit : Tree → Option Tree
fit t = if fits t then Some t else None

-- each of the built terms is within the limits
abbrev pub all_fit : List Tree → Bool
all_fit [] = true
all_fit (t ∷ ts) = fits t && all_fit ts

-- the built terms, where each is within the limits
abbrev pub fitting_all : List Tree → Option (List Tree)
fitting_all ts = if all_fit ts then Some ts else None

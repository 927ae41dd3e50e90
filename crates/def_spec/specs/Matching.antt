-- Heads of clauses, and what it is to match one ("Match Specifications in Erlang", "Grammar").
-- Depends on terms and their equality. `Matches` defines a match by substitution; `bindings_of` is the walk that finds the binding.
use Rattle.std.specs.Prelude.{◌≡◌, ℕ, ◌==◌, Bool, false, ◌||◌, if◌then◌else◌, List, [], ◌∷◌, Option, Some, None, is_some, unwrap_or, IsTrue}
use Rattle.std.specs.Ordering.{nat_cmp}
use Rattle.std.specs.Option.{option_and_then}
use Rattle.std.specs.FinMap.{find, put, is_sorted}
use Rattle.def_term.specs.Tree.{Tree, tuple, list, Trees, none, more}
use Rattle.def_term.specs.Order.{same}

-- a variable, `'_'`, a term that matches itself alone, or a tuple or list of patterns
mutual
  pub data Pattern : Type 0 where
    variable : ℕ → Pattern
    anything : Pattern
    only_term : Tree → Pattern
    in_tuple : Patterns → Pattern
    in_list : Patterns → Pattern

  -- several patterns in their order
  pub data Patterns : Type 0 where
    no_patterns : Patterns
    and_pattern : Pattern → Patterns → Patterns

-- terms by the numbers of variables, in rising order
abbrev pub Bindings : Type 0
Bindings = List (ℕ × Tree)

-- the term that is bound to a variable, where one is
abbrev pub value_bound : Bindings → ℕ → Option Tree
value_bound b n = find nat_cmp n b

-- the variable occurs in the pattern
abbrev mutual
  pub occurs : ℕ → Pattern → Bool
  occurs n (variable m) = n == m
  occurs n anything = false
  occurs n (only_term t) = false
  occurs n (in_tuple ps) = occurs_in_some n ps
  occurs n (in_list ps) = occurs_in_some n ps

  -- in one of the patterns
  pub occurs_in_some : ℕ → Patterns → Bool
  occurs_in_some n no_patterns = false
  occurs_in_some n (and_pattern p ps) = occurs n p || occurs_in_some n ps

-- a step on the way to a part of a pattern: into the first of some patterns, or past it
pub data PathStep : Type 0 where
  here : PathStep
  past : PathStep

-- a term of its own for each place of a pattern
abbrev pub Fill : Type 0
Fill = List PathStep → Tree

-- the pattern with each variable replaced by what b gives, and each '_' by a term of its own
abbrev mutual
  pub subst_in : Pattern → Bindings → Fill → Tree
  subst_in (variable n) b fill = unwrap_or (value_bound b n) (list none)
  subst_in anything b fill = fill []
  subst_in (only_term t) b fill = t
  subst_in (in_tuple ps) b fill = tuple (subst_each ps b fill)
  subst_in (in_list ps) b fill = list (subst_each ps b fill)

  -- each pattern so
  pub subst_each : Patterns → Bindings → Fill → Trees
  subst_each no_patterns b fill = none
  subst_each (and_pattern p ps) b fill = more (subst_in p b (λ path. fill (here ∷ path))) (subst_each ps b (λ path. fill (past ∷ path)))

-- b binds exactly the pattern's variables, and for some fill the pattern becomes the term
pub record Matches (p : Pattern) (t : Tree) (b : Bindings) : Type 0 where
  pub rising : IsTrue (is_sorted nat_cmp b)
  pub exact : (n : ℕ) → is_some (value_bound b n) ≡ occurs n p
  pub filled : (fill : Fill) × (subst_in p b fill ≡ t)

-- the bindings after t was matched with the variable n, which had that value before
abbrev pub bind : ℕ → Tree → Bindings → Option Tree → Option Bindings
bind n t b None = Some (put nat_cmp n t b)
bind n t b (Some u) = if same u t then Some b else None

-- the bindings after a pattern was matched with a term, from those before
abbrev mutual
  pub bind_on : Pattern → Tree → Bindings → Option Bindings
  bind_on (variable n) t b = bind n t b (value_bound b n)
  bind_on anything t b = Some b
  bind_on (only_term c) t b = if same c t then Some b else None
  bind_on (in_tuple ps) (tuple ts) b = bind_each ps ts b
  bind_on (in_tuple ps) _ b = None
  bind_on (in_list ps) (list ts) b = bind_each ps ts b
  bind_on (in_list ps) _ b = None

  -- each pattern with its term, left to right; there are as many of the one as of the other
  pub bind_each : Patterns → Trees → Bindings → Option Bindings
  bind_each no_patterns none b = Some b
  bind_each no_patterns (more t ts) b = None
  bind_each (and_pattern p ps) none b = None
  bind_each (and_pattern p ps) (more t ts) b = option_and_then (bind_each ps ts) (bind_on p t b)

-- the binding that the walk finds, with nothing bound before
abbrev pub bindings_of : Pattern → Tree → Option Bindings
bindings_of p t = bind_on p t []

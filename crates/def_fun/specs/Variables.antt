-- The variables of a fun's clause, and the atoms that a specification has for them.
-- Depends on trees. `ms_transform` (STDLIB), "Warnings and Restrictions": "the variables ... are replaced with match_spec variables in the order of occurrence", and the name of the whole is '$_'.
use Rattle.std.specs.Prelude.{◌≡◌, ℕ, ◌+◌, List, [], ◌∷◌, ◌++◌, length, Bool, false, ◌||◌, if◌then◌else◌, Option, Some, None, codes, decimal}
use Rattle.std.specs.Str.{bytes_eq}
use Rattle.def_term.specs.Names.{Name}
use Rattle.def_term.specs.Text.{is_among}
use Rattle.def_fun.specs.Trees.{FunExpr, variable, whole, atom, strings, in_parens, call, list, list_onto, tuple, before, between, FunExprs, none, more, FunHead, alone, both}

-- the variables in the order of occurrence
abbrev mutual
  pub variables_in : FunExpr → List Name
  variables_in (variable at s) = s ∷ []
  variables_in (whole at n) = []
  variables_in (atom at s) = []
  variables_in (strings at s ss) = []
  variables_in (in_parens at e) = variables_in e
  variables_in (call at s es) = variables_in_each es
  variables_in (list at es) = variables_in_each es
  variables_in (list_onto at es e) = variables_in_each es ++ variables_in e
  variables_in (tuple at es) = variables_in_each es
  variables_in (before at o e) = variables_in e
  variables_in (between at o l r) = variables_in l ++ variables_in r

  -- of several
  pub variables_in_each : FunExprs → List Name
  variables_in_each none = []
  variables_in_each (more e es) = variables_in e ++ variables_in_each es

-- `_`
abbrev pub ANY : Name
ANY = codes "_"

-- the name of a variable
abbrev pub name_of_variable : FunExpr → Option Name
name_of_variable (variable at s) = Some s
name_of_variable e = None

-- of `E1 = E2` the one that is the name of the whole: E1 where it is a variable, else E2
abbrev pub name_of_two : Option Name → Option Name → Option Name
name_of_two (Some s) n = Some s
name_of_two None n = n

-- the name of the whole, where there is one
abbrev pub name_of_whole : FunHead → Option Name
name_of_whole (alone e) = None
name_of_whole (both a b) = name_of_two (name_of_variable a) (name_of_variable b)

-- of `E1 = E2` the one that isn't
abbrev pub other_part : Option Name → FunExpr → FunExpr → FunExpr
other_part (Some s) a b = b
other_part None a b = a

-- what the arguments are matched with
abbrev pub matched_part : FunHead → FunExpr
matched_part (alone e) = e
matched_part (both a b) = other_part (name_of_variable a) a b

-- the names of a clause: that of the whole, and those with numbers from 1 in their order
pub record ClauseNames : Type 0 where
  pub of_whole : Option Name
  pub numbers : List Name

-- it is the name of the whole
abbrev pub is_of_whole : Option Name → Name → Bool
is_of_whole None s = false
is_of_whole (Some n) s = bytes_eq n s

-- one more name, unless it has a number, is `_`, or is that of the whole
abbrev pub with_name : Option Name → List Name → Name → List Name
with_name n ns s = if is_of_whole n s || (bytes_eq s ANY || is_among ns s) then ns else ns ++ s ∷ []

-- with several
abbrev pub with_names : Option Name → List Name → List Name → List Name
with_names n ns [] = ns
with_names n ns (s ∷ ss) = with_names n (with_name n ns s) ss

-- the names of a head
abbrev pub names_of : FunHead → ClauseNames
names_of h = record { of_whole = name_of_whole h; numbers = with_names (name_of_whole h) [] (variables_in (matched_part h)) }

-- the number of a name among names with numbers from so many on
abbrev pub number_among : ℕ → List Name → Name → Option ℕ
number_among k [] s = None
number_among k (n ∷ ns) s = if bytes_eq n s then Some k else number_among (k + 1) ns s

-- the name is the one of that number among some, which are numbered from 1 in their order
pub record IsNameOfNumber (ns : List Name) (s : Name) (k : ℕ) : Type 0 where
  pub earlier : List Name
  pub later : List Name
  pub split : ns ≡ earlier ++ s ∷ later
  pub number : k ≡ length earlier + 1

-- '$K'
abbrev pub dollar_name : ℕ → Name
dollar_name k = 36 ∷ decimal k

-- what a variable is: the whole, anything, the one of that number, or none of the head
pub data VariableKind : Type 0 where
  the_whole : VariableKind
  anything_there : VariableKind
  of_number : ℕ → VariableKind
  of_no_head : VariableKind

-- by its number, where it has one
abbrev pub kind_of_number : Option ℕ → VariableKind
kind_of_number None = of_no_head
kind_of_number (Some k) = of_number k

-- the name of the whole first, also where it is `_`
abbrev pub variable_kind : ClauseNames → Name → VariableKind
variable_kind ns s = if is_of_whole ns.of_whole s then the_whole else (if bytes_eq s ANY then anything_there else kind_of_number (number_among 1 ns.numbers s))

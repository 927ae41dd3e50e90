-- What a text is as a script: the program that it makes, or its one refusal (own).
-- Depends on what a text spells, on the shapes of forms and on their rules.
use Rattle.std.specs.Prelude.{◌≡◌, ℕ, suc, ◌<◌, ◌≤◌, List, [], ◌∷◌, ◌++◌, length, Option, Some, None, codes, decimal}
use Rattle.def_term.specs.Tree.{Tree}
use Rattle.def_term.specs.Names.{Name}
use Rattle.def_text.specs.Faults as faults
use Rattle.def_text.specs.Spelling.{LENGTH}
use Rattle.def_text.specs.Scripts.{SpellsTerms, ScriptRefused}
use Rattle.def_script.specs.Limits.{FORMS}
use Rattle.def_script.specs.Program.{Form, Program, Command, create}
use Rattle.def_script.specs.Shapes.{form_in, forms_in}
use Rattle.def_script.specs.Rules.{Rule, duplicate, undeclared, not_exported, unbound, tracer_taken, wrong_arity, past_limit, rule_number, form_functions, entries_of, commands_of, Breaks, IsFirstBroken}

-- the functions, initial processes and commands of the forms, in their order
abbrev pub program_from : List Form → Program
program_from fs = record { functions = form_functions fs; entries = entries_of fs; commands = commands_of fs }

-- the name and the tracer of the session that a command creates
abbrev pub creation_of : Command → Option (Name × Name)
creation_of (create s t) = Some (s, t)
creation_of c = None

-- those of all sessions that the commands create, in their order
abbrev pub creations : List Command → List (Name × Name)
creations [] = []
creations (create s t ∷ cs) = (s, t) ∷ creations cs
creations (c ∷ cs) = creations cs

-- the bytes spell terms with full stops, each of the shape of a form
pub record SpellsForms (bytes : List ℕ) (fs : List Form) : Type 0 where
  pub terms : List Tree
  pub spelled : SpellsTerms bytes terms
  pub shaped : forms_in terms ≡ Some fs

-- the text is within the length, and the program is made of at most 256 forms, which break no rule
pub record IsScript (bytes : List ℕ) (p : Program) : Type 0 where
  pub forms : List Form
  pub spelled : SpellsForms bytes forms
  pub few : length forms ≤ FORMS
  pub kept : (n : ℕ) (r : Rule) → Breaks forms n r → ⊥
  pub made : p ≡ program_from forms

-- term n, counted from 1, is the first that has no shape
pub record IsFirstShapeless (ts : List Tree) (n : ℕ) : Type 0 where
  pub earlier : List Tree
  pub term : Tree
  pub later : List Tree
  pub whole : ts ≡ earlier ++ term ∷ later
  pub number : n ≡ suc (length earlier)
  pub none : form_in term ≡ None
  pub forms : List Form
  pub shaped : forms_in earlier ≡ Some forms

-- the refusals 1 to 13 of a script, and 20, which is of a text of picks
pub data Refusal : Type 0 where
  too_long : Refusal
  token : (at : ℕ) → Refusal
  too_deep : (at : ℕ) → Refusal
  too_large : (at : ℕ) → Refusal
  form : (n : ℕ) → Refusal
  too_many_forms : Refusal
  broken : Rule → (n : ℕ) → Refusal
  bad_picks : Refusal

-- the text spells terms, of which there are more than 256
pub record HasTooMany (bytes : List ℕ) : Type 0 where
  pub terms : List Tree
  pub spelled : SpellsTerms bytes terms
  pub many : FORMS < length terms

-- the text spells at most 256 terms, and n is the first that has no shape
pub record HasShapeless (bytes : List ℕ) (n : ℕ) : Type 0 where
  pub terms : List Tree
  pub spelled : SpellsTerms bytes terms
  pub few : length terms ≤ FORMS
  pub first : IsFirstShapeless terms n

-- the text spells at most 256 forms, of which n is the first that breaks a rule, and r the least that it breaks
pub record HasBroken (bytes : List ℕ) (n : ℕ) (r : Rule) : Type 0 where
  pub forms : List Form
  pub spelled : SpellsForms bytes forms
  pub few : length forms ≤ FORMS
  pub first : IsFirstBroken forms n r

-- the first that applies of 1; 2 to 4; 6; 5 of the lowest-numbered form without a shape; of the lowest-numbered form that breaks a rule, the least of 7 to 13 that it breaks
abbrev pub IsRefused : List ℕ → Refusal → Type 0
IsRefused bytes too_long = LENGTH < length bytes
IsRefused bytes (token at) = ScriptRefused bytes faults.misplaced at
IsRefused bytes (too_deep at) = ScriptRefused bytes faults.too_deep at
IsRefused bytes (too_large at) = ScriptRefused bytes faults.too_large at
IsRefused bytes too_many_forms = HasTooMany bytes
IsRefused bytes (form n) = HasShapeless bytes n
IsRefused bytes (broken r n) = HasBroken bytes n r
IsRefused bytes bad_picks = ⊥

-- what the line calls the rule
abbrev pub rule_words : Rule → List ℕ
rule_words duplicate = codes "duplicate"
rule_words undeclared = codes "undeclared"
rule_words not_exported = codes "not exported"
rule_words unbound = codes "unbound"
rule_words tracer_taken = codes "tracer taken"
rule_words wrong_arity = codes "arity"
rule_words past_limit = codes "limit"

-- the line of a refusal, without its line feed
abbrev pub refusal_line : Refusal → List ℕ
refusal_line too_long = codes "refused 1 too long"
refusal_line (token at) = codes "refused 2 token at " ++ decimal at
refusal_line (too_deep at) = codes "refused 3 too deep at " ++ decimal at
refusal_line (too_large at) = codes "refused 4 too large at " ++ decimal at
refusal_line (form n) = codes "refused 5 form " ++ decimal n
refusal_line too_many_forms = codes "refused 6 too many forms"
refusal_line (broken r n) = codes "refused " ++ decimal (rule_number r) ++ codes " " ++ rule_words r ++ codes " in form " ++ decimal n
refusal_line bad_picks = codes "refused 20 bad picks"

-- The texts of why a term is no match specification, of the code's terms and rows.
use Rattle.std.specs.Prelude.{◌≡◌, ℕ, List, [], ◌++◌, drop, Option, Some, None, codes}
use Rattle.std.specs.Option.{option_map}
use Rattle.std.specs.declared.vec.Vec.{Vec}
use Rattle.def_term.specs.Tree.{Tree, atom, more}
use Rattle.def_term.specs.Names.{Name}
use Rattle.def_term.specs.Text.{each_after_comma, atom_text}
use Rattle.def_text.specs.Spelling.{Spells}
use Rattle.def_spec.specs.Reading.{Row, row}
use Rattle.def_explain.specs.SpecReasons.{SpecReason, no_call, wrong_count, spec_reason}
use Rattle.def_explain.specs.ReasonTexts.{tuple_text, with_count, common_slips, meant_in, no_function_text, other_name_text, row_counts, expression_reason_text, spec_reason_text}
use Rattle.tn_term.specs.declared.term.Term.{Term}
use Rattle.tn_term.specs.Views.{trees_of}
use Rattle.tn_spec.specs.declared.table.Row as code
use Rattle.tn_spec.specs.declared.func.Dialect.{Dialect}
use Rattle.tn_spec.specs.Names.{called_seen}
use Rattle.tn_spec.specs.Views.{dialect_of}

-- the texts of the terms after the first so many, each after a comma
abbrev pub further_texts : {A : Type 0} → ℕ → Vec (Term A) A → List ℕ
further_texts n v = each_after_comma (trees_of (drop n v.items))

-- a row without its name
abbrev pub unnamed_row : code.Row → Row
unnamed_row r = row [] (called_seen r.called) r.least r.most

-- how many arguments there may be by a row, which doesn't depend on its name
abbrev pub counts_of : Option code.Row → List ℕ
counts_of r = row_counts (option_map unnamed_row r)

-- that a tuple of these terms is no call
abbrev pub no_call_text_of : {A : Type 0} → Vec (Term A) A → List ℕ
no_call_text_of v = expression_reason_text (no_call (trees_of v.items))

-- how a tuple of a name and the terms after the first is written as an expression
abbrev pub call_tuple_text : {A : Type 0} → Name → Vec (Term A) A → List ℕ
call_tuple_text s v = tuple_text (more (atom s) (trees_of (drop 1 v.items)))

-- a name and how many terms there are after the first
abbrev pub with_count_of : {A : Type 0} → Name → Vec (Term A) A → List ℕ
with_count_of s v = with_count s (trees_of (drop 1 v.items))

-- a name, and the written name that is meant
abbrev pub suggestion_text : Name → List ℕ → List ℕ
suggestion_text s meant = atom_text s ++ codes "; " ++ meant ++ codes " is meant?"

-- that a name is of no function, with the terms after the first
abbrev pub no_function_text_of : {A : Type 0} → Name → Vec (Term A) A → List ℕ
no_function_text_of s v = no_function_text s (trees_of (drop 1 v.items)) (meant_in common_slips s)

-- the same, where the name may be `const`
abbrev pub other_name_text_of : {A : Type 0} → Name → Vec (Term A) A → List ℕ
other_name_text_of s v = other_name_text s (trees_of (drop 1 v.items))

-- that a name takes another number of arguments
abbrev pub wrong_count_text : Name → ℕ → List ℕ
wrong_count_text s n = expression_reason_text (wrong_count s n)

-- why a term is no specification, and nothing where it is one
abbrev pub text_where_reason : Option SpecReason → List ℕ
text_where_reason None = []
text_where_reason (Some r) = spec_reason_text r

-- the bytes spell a term, and the text tells why it is no specification
abbrev pub TellsReason : Dialect → List ℕ → List ℕ → Type 0
TellsReason d bytes text = (t : Tree) × Spells bytes t × (text ≡ text_where_reason (spec_reason (dialect_of d) t))

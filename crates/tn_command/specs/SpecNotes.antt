-- Notes on the test of a match specification (own).
-- Depends on terms, on how they are read as match specifications, and on the first of several terms for which there is something.
use Rattle.std.specs.Prelude.{◌≡◌, ◌↔◌, ℕ, suc, ◌==◌, ◌++◌, List, [], Option, Some, None, Ok, if◌then◌else◌, codes, decimal}
use Rattle.std.specs.Option.{option_map, option_or, option_map_or}
use Rattle.def_term.specs.Tree.{Tree, atom, tuple, list, Trees, none, more, count}
use Rattle.def_term.specs.Names.{Name}
use Rattle.def_term.specs.Text.{atom_text}
use Rattle.def_spec.specs.Expressions.{Dialect, for_calls, for_sends, for_receives, Position, in_condition, in_body}
use Rattle.def_spec.specs.Reading.{Callee, Row, table, found_in, takes, named_call}
use Rattle.def_explain.specs.SpecReasons.{HasReasonAt, reason_after, IsClauseOf}

-- ---- a list that was probably meant as a call

-- a name with so many arguments
pub record CallShape : Type 0 where
  pub name : Name
  pub arguments : ℕ

-- where a list is in a clause, after how many conditions or expressions of the body, and the call that was probably meant
pub record ListAsCall : Type 0 where
  pub part : Position
  pub before : ℕ
  pub call : CallShape

-- the term is [Name,E1,..], and {Name,E1,..} is a call: bodies of specifications for calls have each function and each action
abbrev pub IsCallInList : Tree → CallShape → Type 0
IsCallInList t c =
    (ts : Trees) × (called : Callee) × (t ≡ list (more (atom c.name) ts)) × (c.arguments ≡ count ts)
    × (named_call for_calls in_body c.name c.arguments ≡ Ok called)

-- there is nothing of the kind of the term
abbrev pub HasNo : {R : Type 0} → (Tree → R → Type 0) → Tree → Type 0
HasNo {R} Has t = (r : R) → ¬ Has t r

-- the first of the terms that is such a list, after so many
abbrev pub IsFirstCall : Trees → ℕ → CallShape → Type 0
IsFirstCall ts n c = HasReasonAt (HasNo IsCallInList) IsCallInList ts n c

-- the first of the conditions, or of the body where the conditions have none
abbrev pub IsFirstInPart : Position → (conditions body : Trees) → ℕ → CallShape → Type 0
IsFirstInPart in_condition cs bs n c = IsFirstCall cs n c
IsFirstInPart in_body cs bs n c = ((m : ℕ) (d : CallShape) → ¬ IsFirstCall cs m d) × IsFirstCall bs n c

-- the first of a clause
abbrev pub IsFirstInClause : Tree → ListAsCall → Type 0
IsFirstInClause t l = (h : Tree) × (cs bs : Trees) × IsClauseOf t h cs bs × IsFirstInPart l.part cs bs l.before l.call

-- the first of a specification, in the clause after so many
abbrev pub IsListAsCall : Tree → ℕ → ListAsCall → Type 0
IsListAsCall t n l = (ts : Trees) × (t ≡ list ts) × HasReasonAt (HasNo IsFirstInClause) IsFirstInClause ts n l

-- ---- the same, computed

-- the table's row takes so many arguments
abbrev pub call_by_row : Name → ℕ → Option Row → Option CallShape
call_by_row s n None = None
call_by_row s n (Some r) = if takes r n then Some (record { name = s; arguments = n }) else None

-- of a term itself
abbrev pub call_in_list : Tree → Option CallShape
call_in_list (list (more (atom s) ts)) = call_by_row s (count ts) (found_in table s)
call_in_list t = None

-- in that part of a clause
abbrev pub list_in_part : Position → ℕ × CallShape → ListAsCall
list_in_part part x = record { part = part; before = x.0; call = x.1 }

-- of the conditions and the body of a clause
abbrev pub list_in_parts : Trees → Trees → Option ListAsCall
list_in_parts cs bs = option_or (option_map (list_in_part in_condition) (reason_after call_in_list 0 cs)) (option_map (list_in_part in_body) (reason_after call_in_list 0 bs))

-- of a clause whose second and third element these are
abbrev pub list_in_two : Tree → Tree → Option ListAsCall
list_in_two (list cs) (list bs) = list_in_parts cs bs
list_in_two c b = None

-- of a clause
abbrev pub list_in_clause : Tree → Option ListAsCall
list_in_clause (tuple (more h (more c (more b none)))) = list_in_two c b
list_in_clause t = None

-- of a specification, with how many clauses are before it
abbrev pub list_as_call : Tree → Option (ℕ × ListAsCall)
list_as_call (list ts) = reason_after list_in_clause 0 ts
list_as_call t = None

-- what is computed is the first
abbrev pub ListAsCallIsComputed : Type 0
ListAsCallIsComputed = (t : Tree) (n : ℕ) (l : ListAsCall) → (list_as_call t ≡ Some (n, l)) ↔ IsListAsCall t n l

-- ---- a list of another length

-- the receiver and the message of a send; the node, the sender and the message of a receive; a call has any number of arguments
abbrev pub IsListOf : Dialect → Trees → Type 0
IsListOf for_calls ts = Unit {0}
IsListOf for_sends ts = (receiver message : Tree) × (ts ≡ more receiver (more message none))
IsListOf for_receives ts = (node sender message : Tree) × (ts ≡ more node (more sender (more message none)))

-- ---- the same, computed

-- how many elements the list has, where each has as many
abbrev pub list_length_of : Dialect → Option ℕ
list_length_of for_calls = None
list_length_of for_sends = Some 2
list_length_of for_receives = Some 3

-- the length that a list should have, where it has another
abbrev pub other_length : Option ℕ → ℕ → Option ℕ
other_length None n = None
other_length (Some m) n = if n == m then None else Some m

-- there is another length exactly where the list is none of the dialect
abbrev pub OtherLengthIsOfOther : Type 0
OtherLengthIsOfOther = (d : Dialect) (ts : Trees) → (other_length (list_length_of d) (count ts) ≡ None) ↔ IsListOf d ts

-- ---- the lines

-- conditions and expressions of the body are counted from 1
abbrev pub part_text : Position → List ℕ
part_text in_condition = codes "condition "
part_text in_body = codes "body "

-- {Name}, or {Name,..} where it has arguments
abbrev pub call_text : CallShape → List ℕ
call_text c = codes "{" ++ atom_text c.name ++ (if c.arguments == 0 then codes "}" else codes ",..}")

-- what is said of a list, and with where it is
unfoldable pub call_words : CallShape → List ℕ
call_words c = codes " is a list, not a call; a call is written " ++ call_text c

unfoldable pub list_words : ListAsCall → List ℕ
list_words l = codes ": " ++ part_text l.part ++ decimal (suc l.before) ++ call_words l.call

-- the line of a list that was probably meant as a call; clauses are counted from 1
abbrev pub list_note : ℕ × ListAsCall → List ℕ
list_note x = codes "note: clause " ++ decimal (suc x.0) ++ list_words x.1 ++ codes "\n"

-- the event of a dialect
abbrev pub event_text : Dialect → List ℕ
event_text for_calls = codes "call"
event_text for_sends = codes "send"
event_text for_receives = codes "receive"

-- the length that there should be, and the one that there is
abbrev pub length_words : ℕ → ℕ → List ℕ
length_words n m = codes " has " ++ decimal m ++ codes " elements, found " ++ decimal n

-- the line of a list of another length
abbrev pub length_note : Dialect → ℕ → ℕ → List ℕ
length_note d n m = codes "note: the list of a " ++ event_text d ++ length_words n m ++ codes "\n"

-- the elements of a list; another term has none
abbrev pub elements_in : Tree → Trees
elements_in (list ts) = ts
elements_in t = none

-- the line of a list, where there is one
abbrev pub length_notes : Dialect → ℕ → List ℕ
length_notes d n = option_map_or (length_note d n) (other_length (list_length_of d) n) []

-- the line of a specification, where there is one
abbrev pub list_notes : Tree → List ℕ
list_notes t = option_map_or list_note (list_as_call t) []

-- the lines of a list that is tested with a specification
abbrev pub spec_notes : Dialect → (list specification : Tree) → List ℕ
spec_notes d l s = list_notes s ++ length_notes d (count (elements_in l))

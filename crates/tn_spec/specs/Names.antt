-- What the code's answers on names stand for.
use Rattle.std.specs.Prelude.{ℕ, ◌≤◌, nat_le, Bool, ◌&&◌, if◌then◌else◌, List, [], ◌∷◌, take, drop, Option, Some, None}
use Rattle.std.specs.Bool.{⊤}
use Rattle.std.specs.Str.{bytes_eq}
use Rattle.def_term.specs.Names.{Name}
use Rattle.def_spec.specs.Expressions as ex
use Rattle.def_spec.specs.Reading as reading
use Rattle.def_spec.specs.Reading.{Row, table, is_at_most, is_allowed}
use Rattle.tn_spec.specs.declared.names.AtomKind.{AtomKind}
use Rattle.tn_spec.specs.declared.names.AtomKind.TheVariants as kinds
use Rattle.tn_spec.specs.declared.callee.Position.{Position}
use Rattle.tn_spec.specs.declared.callee.Position.TheVariants as parts
use Rattle.tn_spec.specs.declared.table.Callee.{Callee}
use Rattle.tn_spec.specs.declared.table.Callee.TheVariants as calls
use Rattle.tn_spec.specs.declared.table.Row as code
use Rattle.tn_spec.specs.Views.{func_of, action_of}

abbrev pub atom_kind_seen : AtomKind → reading.AtomKind
atom_kind_seen (kinds.Variable n) = reading.a_variable n
atom_kind_seen kinds.WrongVariable = reading.a_wrong_variable
atom_kind_seen kinds.Plain = reading.a_plain_atom

abbrev pub position_seen : Position → ex.Position
position_seen parts.Condition = ex.in_condition
position_seen parts.Body = ex.in_body

abbrev pub called_seen : Callee → reading.Callee
called_seen (calls.Func f) = reading.a_function (func_of f)
called_seen calls.AndAlso = reading.an_and_also
called_seen calls.OrElse = reading.an_or_else
called_seen (calls.Action a) = reading.an_action (action_of a)

-- a variable's number is at most 999
abbrev pub IsNumbered : AtomKind → Type 0
IsNumbered (kinds.Variable n) = n ≤ 999
IsNumbered kinds.WrongVariable = ⊤
IsNumbered kinds.Plain = ⊤

-- ---- the table of names, without the names

abbrev pub row_seen : code.Row → reading.Callee × ℕ × Option ℕ
row_seen r = (called_seen r.called, r.least, r.most)

abbrev pub row_of : Row → reading.Callee × ℕ × Option ℕ
row_of r = (r.called, r.least, r.most)

-- what the row calls takes so many arguments
abbrev pub row_takes : code.Row → ℕ → Bool
row_takes r n = nat_le r.least n && is_at_most r.most n

-- what the row calls may stand there, with so many arguments
abbrev pub row_allows : code.Row → ex.Dialect → ex.Position → ℕ → Bool
row_allows r d part n = row_takes r n && is_allowed d part (called_seen r.called)

-- the first row of this name
abbrev pub row_in : List Row → Name → Option (reading.Callee × ℕ × Option ℕ)
row_in [] s = None
row_in (r ∷ rs) s = if bytes_eq s r.name then Some (row_of r) else row_in rs s

-- the parts of the table, in its order
abbrev pub test_rows : List Row
test_rows = take 14 table

abbrev pub of_lists : List Row
of_lists = take 6 (drop 14 table)

abbrev pub integer_rows : List Row
integer_rows = take 10 (drop 20 table)

abbrev pub comparisons : List Row
comparisons = take 8 (drop 30 table)

abbrev pub others : List Row
others = take 8 (drop 38 table)

abbrev pub actions : List Row
actions = drop 46 table

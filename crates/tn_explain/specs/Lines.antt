-- The text of what a session of a name makes of something.
use Rattle.std.specs.Prelude.{◌≡◌, ℕ, List, ◌++◌, map, flat_map, codes}
use Rattle.std.specs.declared.vec.Vec.{Vec}
use Rattle.def_term.specs.Names.{Name}
use Rattle.def_term.specs.Text.{atom_text}
use Rattle.def_explain.specs.Accounts.{Line}
use Rattle.def_explain.specs.Runs.{makes}
use Rattle.def_explain.specs.RunTexts.{entry_text}
use Rattle.tn_explain.specs.declared.line.Lines.{Lines}

-- a line each, indented, after the name
unfoldable pub lines_text : Name → List Line → List ℕ
lines_text n ls = flat_map entry_text (map (makes n) ls)

-- what each of them begins with
abbrev pub line_start : Name → List ℕ
line_start n = codes "  " ++ atom_text n ++ codes ": "

-- these lines were appended
abbrev pub PutsLines : Name → List Line → (old new : List ℕ) → Type 0
PutsLines n ls old new = new ≡ old ++ lines_text n ls

-- they were appended for the session whose lines are made
abbrev pub Adds : {A : Type 0} → Lines A → List Line → (old new : Vec ℕ A) → Type 0
Adds lines ls old new = PutsLines lines.name.now ls old.items new.items

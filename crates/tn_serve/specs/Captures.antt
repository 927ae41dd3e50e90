-- What a command wrote, as clauses see it (own).
use Rattle.std.specs.Prelude.{ℕ, Bool, true, false, List, Option, Some, None}

-- the text that was written; none once memory for it was refused
abbrev pub text_unless : (is_cut : Bool) → List ℕ → Option (List ℕ)
text_unless true text = None
text_unless false text = Some text

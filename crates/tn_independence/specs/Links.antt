-- Steps that make or remove a link.
-- Depends on moves that change one process alone.
use Rattle.std.specs.Prelude.{Bool, ◌||◌}
use Rattle.std.specs.List.{list_any}
use Rattle.def_script.specs.Program.{Step, Function}
use Rattle.def_independence.specs.Alone.{is_link, is_unlink}

-- the step makes a link, or removes one
abbrev pub changes_link : Step → Bool
changes_link s = is_link s || is_unlink s

-- the function has such a step
abbrev pub has_changes : Function → Bool
has_changes k = list_any changes_link k.steps

-- Which terms are trace messages (the tuples `{trace, Pid, ..}` of `trace:process/4` and of `erlang:trace/3`, "Trace messages").
-- Depends on terms and their equality.
use Rattle.std.specs.Prelude.{◌≡◌, ℕ, Bool, false}
use Rattle.def_term.specs.Tree.{Tree, pid, tuple, Trees, more}
use Rattle.def_term.specs.Names.{word}
use Rattle.def_term.specs.Order.{same}

-- a tuple of three elements or more, the first of which is the atom `trace` and the second a pid
abbrev pub IsTraceMessage : Tree → Type 0
IsTraceMessage t = (p : ℕ) × (third : Tree) × (others : Trees) × (t ≡ tuple (more (word "trace") (more (pid p) (more third others))))

-- the same computed
abbrev pub is_trace_message : Tree → Bool
is_trace_message (tuple (more u (more (pid p) (more t ts)))) = same u (word "trace")
is_trace_message t = false

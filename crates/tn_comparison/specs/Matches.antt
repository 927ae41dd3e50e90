-- What a trace and an entry that shows it stand for.
-- Depends on comparisons.
use Rattle.std.specs.Prelude.{◌≡◌, Bool, map}
use Rattle.def_explore.specs.Rests.{KeptMessages}
use Rattle.def_compare.specs.Traces.{begins_trace}
use Rattle.def_compare.specs.Traces as traces
use Rattle.def_compare.specs.Entries.{Match, Prefix}
use Rattle.tn_messages.specs.MessageViews.{kept_seen}
use Rattle.tn_renaming.specs.Pairs.{pairs_seen}
use Rattle.tn_term.specs.Views.{tree_of}
use Rattle.tn_comparison.specs.declared.trace_question.TraceQuestion.{TraceQuestion}
use Rattle.tn_comparison.specs.Orders.{AreTraceOrders}
use Rattle.tn_comparison.specs.declared.matches.Demand.{Demand}
use Rattle.tn_comparison.specs.declared.matches.TraceMatch.{TraceMatch}
use Rattle.tn_comparison.specs.declared.matches.TracePrefix.{TracePrefix}

abbrev pub trace_question_seen : {P : Type 0} → TraceQuestion P → traces.TraceQuestion
trace_question_seen q = record { messages = map tree_of q.messages.items; goes_on = q.goes_on }

-- what is kept begins the trace that is asked about
abbrev pub admits_by : {P : Type 0} → TraceQuestion P → KeptMessages → Bool
admits_by q = begins_trace (trace_question_seen q).messages

abbrev pub match_seen : {A : Type 0} → TraceMatch A → Match
match_seen m = record { entry = record { kept = kept_seen m.kept.now; journal = m.journal.now }; pairs = pairs_seen m.pairs }

abbrev pub prefix_seen : {A : Type 0} → TracePrefix A → Prefix
prefix_seen f = record { count = f.count; by = match_seen f.by }

-- a run must show this trace
pub record IsDemand {P A : Type 0} (a : traces.TraceQuestion) (d : Demand P A) : Type 0 where
  pub orders : AreTraceOrders a.messages d.orders
  pub goes_on : d.goes_on ≡ a.goes_on

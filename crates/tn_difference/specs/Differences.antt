-- What the code's differences stand for.
use Rattle.std.specs.Prelude.{◌≡◌, ℕ, Bool, true, if◌then◌else◌, List, [], ◌∷◌, map}
use Rattle.std.specs.Option.{is_some}
use Rattle.def_spec.specs.Expressions.{Effect}
use Rattle.def_session.specs.Session.{mark_asked}
use Rattle.def_explain.specs.Differences as definition
use Rattle.def_explain.specs.Texts.{difference_line}
use Rattle.tn_spec.specs.Views.{dialect_of}
use Rattle.tn_spec.specs.declared.func.Dialect.{Dialect}
use Rattle.tn_action.specs.Views.{context_seen, effect_seen}
use Rattle.tn_action.specs.declared.context.Context.{Context}
use Rattle.tn_action.specs.declared.effect.Effect as code
use Rattle.tn_difference.specs.declared.differences.Difference.{Difference}
use Rattle.tn_difference.specs.declared.differences.Difference.TheVariants.{NodeEnds, ReadsFreed, SuppressesMessage, LeavesNoMark, IgnoresSilent, ReportsExceptions, CatchesError, ReportsAttempt, RaisesNoproc, ReportsLater, AddsCalls, InheritsAlone, EvaluatesFromRight, ReadsNoList, FaultsInLogic, LeavesOtherSetting, TakesLocalSetting, EndsTest}

abbrev pub difference_seen : Difference → definition.Difference
difference_seen NodeEnds = definition.node_ends
difference_seen ReadsFreed = definition.reads_freed
difference_seen SuppressesMessage = definition.suppresses_message
difference_seen LeavesNoMark = definition.leaves_no_mark
difference_seen IgnoresSilent = definition.ignores_silent
difference_seen ReportsExceptions = definition.reports_exceptions
difference_seen CatchesError = definition.catches_error
difference_seen ReportsAttempt = definition.reports_attempt
difference_seen RaisesNoproc = definition.raises_noproc
difference_seen ReportsLater = definition.reports_later
difference_seen AddsCalls = definition.adds_calls
difference_seen InheritsAlone = definition.inherits_alone
difference_seen EvaluatesFromRight = definition.evaluates_from_right
difference_seen ReadsNoList = definition.reads_no_list
difference_seen FaultsInLogic = definition.faults_in_logic
difference_seen LeavesOtherSetting = definition.leaves_other_setting
difference_seen TakesLocalSetting = definition.takes_local_setting
difference_seen EndsTest = definition.ends_test

-- an effect asks for a mark, or leaves it to those after it
abbrev pub AsksOrLeaves : Effect → Bool → Type 0
AsksOrLeaves e asks = (es : List Effect) → is_some (mark_asked (e ∷ es)) ≡ (if asks then true else is_some (mark_asked es))

-- the line of a difference, where it is one
abbrev pub difference_line_where : Bool → definition.Difference → List ℕ
difference_line_where b x = if b then difference_line x else []

-- whether a node does this otherwise at a clause that fires in this context with these effects
abbrev pub body_differs_seen : {A : Type 0} → Difference → Dialect → Context A → List (code.Effect A) → Bool
body_differs_seen x d c es = definition.body_differs (dialect_of d) (context_seen c) (map effect_seen es) (difference_seen x)

-- What is written of a run that is explained (own).
use Rattle.std.specs.Prelude.{◌≡◌, ◌≢◌, ℕ, Bool, true, false, ◌||◌, List, [], Option, Some, None}
use Rattle.std.specs.Option.{is_some}
use Rattle.def_term.specs.Names.{Name}
use Rattle.def_script.specs.Program.{Program}
use Rattle.def_script.specs.Rules.{is_created}
use Rattle.def_script.specs.Script.{Refusal}
use Rattle.def_message_choice.specs.ChosenAccounts.{AccountQuestion, account_question_text}
use Rattle.tn_moves.specs.Schedules.{schedule_seen, ArePicks, HasPicks}
use Rattle.tn_run.specs.Answers.{IsRefusedRun, text_refusal}
use Rattle.tn_run.specs.Jobs.{JobView, failed_end}
use Rattle.tn_run.specs.declared.refusal_form.RefusalForm.TheVariants.{Line}
use Rattle.tn_run.specs.declared.fault.RunFault.{RunFault}
use Rattle.tn_explain.specs.Filters.{account_question_seen}
use Rattle.tn_explain.specs.declared.request.ExplainRequest.{ExplainRequest}
use Rattle.tn_explain.specs.declared.request.ExplainOutcome.{ExplainOutcome}
use Rattle.tn_explain.specs.declared.request.ExplainOutcome.TheVariants.{Account, Refused, NoSession, NoMove, NoDifference, NoMessage}

-- the session that is asked for is there, where a name is given
abbrev pub HasAskedSession : Option Name → Program → Type 0
HasAskedSession None p = Unit {0}
HasAskedSession (Some n) p = is_created p.commands n ≡ true

-- and it isn't
abbrev pub LacksAskedSession : Option Name → Program → Type 0
LacksAskedSession None p = ⊥
LacksAskedSession (Some n) p = is_created p.commands n ≡ false

-- an account has a line at least where a move's number or a message is given, or only moves are asked for that a node does otherwise
abbrev pub asks_for_moves : AccountQuestion → Bool
asks_for_moves q = is_some q.message || (q.question.node || is_some q.question.filter.move)

-- what is reported of a program's run by these picks, and what is written
abbrev pub IsAnswer : Program → List ℕ → AccountQuestion → ExplainOutcome → List ℕ → Type 0
IsAnswer p picks q Account text = HasAskedSession q.question.filter.session p × (asks_for_moves q ≡ true → text ≢ []) × (text ≡ account_question_text q p picks)
IsAnswer p picks q NoSession text = LacksAskedSession q.question.filter.session p × (text ≡ [])
IsAnswer p picks q NoMove text =
    HasAskedSession q.question.filter.session p × (is_some q.message ≡ false) × (q.question.node ≡ false) × (is_some q.question.filter.move ≡ true) × (account_question_text q p picks ≡ []) × (text ≡ [])
IsAnswer p picks q NoDifference text = HasAskedSession q.question.filter.session p × (is_some q.message ≡ false) × (q.question.node ≡ true) × (account_question_text q p picks ≡ []) × (text ≡ [])
IsAnswer p picks q NoMessage text = HasAskedSession q.question.filter.session p × (is_some q.message ≡ true) × (account_question_text q p picks ≡ []) × (text ≡ [])
IsAnswer p picks q (Refused r) text = ⊥

-- the answer for the picks that are asked
pub record IsAskedAnswer (q : ExplainRequest) (p : Program) (reported : ExplainOutcome) (text : List ℕ) : Type 0 where
  pub picks : List ℕ
  pub given : ArePicks (schedule_seen q.schedule) p picks
  pub answer : IsAnswer p picks (account_question_seen q.filter q.message) reported text

-- what is written by each outcome: nothing where the moves are refused
abbrev pub IsExplanation : ExplainRequest → Program → ExplainOutcome → List ℕ → Type 0
IsExplanation q p Account text = IsAskedAnswer q p Account text
IsExplanation q p (Refused r) text = IsRefusedRun (schedule_seen q.schedule) p r text
IsExplanation q p NoSession text = IsAskedAnswer q p NoSession text
IsExplanation q p NoMove text = IsAskedAnswer q p NoMove text
IsExplanation q p NoDifference text = IsAskedAnswer q p NoDifference text
IsExplanation q p NoMessage text = IsAskedAnswer q p NoMessage text

-- the refusal of a text that an outcome is
abbrev pub explain_refusal : ExplainOutcome → Option Refusal
explain_refusal Account = None
explain_refusal (Refused r) = text_refusal r
explain_refusal NoSession = None
explain_refusal NoMove = None
explain_refusal NoDifference = None
explain_refusal NoMessage = None

-- the outcome is the account that is asked for, or that there is no difference
abbrev pub is_account : ExplainOutcome → Bool
is_account Account = true
is_account (Refused r) = false
is_account NoSession = false
is_account NoMove = false
is_account NoDifference = true
is_account NoMessage = false

-- the explanation that is asked for
abbrev pub explain_by : ExplainRequest → JobView ExplainOutcome RunFault
explain_by q = record {
  of_program = IsExplanation q;
  refusal_in = explain_refusal;
  refusal_form = Line;
  succeeds = is_account;
  has = λ outcome. Unit {0};
  reads = HasPicks (schedule_seen q.schedule);
  end_of = failed_end;
}

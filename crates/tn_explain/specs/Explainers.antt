-- What the code's explainer stands for, and what it adds of one more pick.
use Rattle.std.specs.Prelude.{◌≡◌, ℕ, suc, if◌then◌else◌, List, [], ◌++◌, length}
use Rattle.std.specs.declared.vec.Vec.{Vec}
use Rattle.def_script.specs.Program.{Program}
use Rattle.def_script.specs.Exports.{exports_of}
use Rattle.def_outlook.specs.Outlook as definition
use Rattle.def_run.specs.Run.{PickStep, moves, pick_step_after}
use Rattle.def_run.specs.History.{NamedSession, MoveHistory, move_history}
use Rattle.def_explain.specs.Runs.{AccountEntry, entries_of_move}
use Rattle.def_explain.specs.RunTexts.{Filter}
use Rattle.tn_trace.specs.NamedSessions.{sessions_after}
use Rattle.tn_running_node.specs.NodeMoves.{outlook_after, HasCompared, lines_of_next}
use Rattle.tn_explain.specs.Filters.{selection_seen, filtered_text}
use Rattle.tn_explain.specs.NamedSessions.{AreNamedSessions}
use Rattle.tn_explain.specs.declared.explainer.Explainer.{Explainer}
use Rattle.tn_explain.specs.declared.message_explainer.MessageExplainer.{MessageExplainer}
use Rattle.tn_explain.specs.declared.node_explainer.NodeExplainer.{NodeExplainer}
use Rattle.def_running_node.specs.NodeNotes.{text_of_node_move}
use Rattle.def_message_choice.specs.MessageChoices.{MessageChoice}
use Rattle.def_message_choice.specs.ChosenAccounts.{text_of_chosen}
use Rattle.tn_message_choice.specs.Choices.{choice_seen}
use Rattle.tn_message_choice.specs.Choosers.{AreChoosers}

-- the explainer's sessions are those of the program after these picks
abbrev pub HasExplained : {A : Type 0} → Explainer A → Program → List ℕ → Type 0
HasExplained e p picks = AreNamedSessions (exports_of p) (sessions_after p picks) e.sessions

-- what is written of one more pick, after so many moves
abbrev pub entries_of_turn : Program → definition.Outlook → ℕ → ℕ → List NamedSession → PickStep → List AccountEntry
entries_of_turn p l k pick ss t = if t.moved then entries_of_move (exports_of p) l (suc k) pick ss t.shown else []

-- its text, as far as it is asked for
abbrev pub text_of_pick : Filter → Program → List ℕ → ℕ → List ℕ
text_of_pick a p picks pick = let k : ℕ = length (moves p picks) in filtered_text a (suc k) (entries_of_turn p (outlook_after p picks pick) k pick (sessions_after p picks) (pick_step_after p picks pick))

-- it was appended, and the same is asked for as before
pub record AddsExplanation {A : Type 0} (p : Program) (picks : List ℕ) (pick : ℕ) (old new : Explainer A) (text text' : Vec ℕ A) : Type 0 where
  pub filter : new.selection ≡ old.selection
  pub written : text'.items ≡ text.items ++ text_of_pick (selection_seen old.selection) p picks pick

-- ---- the moves that a running node does otherwise

-- the same, and the comparison is that of the sessions that are selected
pub record HasExplainedNode {A : Type 0} (e : NodeExplainer A) (p : Program) (picks : List ℕ) : Type 0 where
  pub explained : HasExplained e.explainer p picks
  pub compared : HasCompared (selection_seen e.explainer.selection).session e.comparison p picks

-- one more pick that moves, and its text
abbrev pub history_of_next : Program → List ℕ → ℕ → MoveHistory
history_of_next p picks pick =
    move_history (exports_of p) (suc (length (moves p picks))) pick (outlook_after p picks pick) (sessions_after p picks) (pick_step_after p picks pick).shown

abbrev pub node_text_of_next : Filter → Program → List ℕ → ℕ → List ℕ
node_text_of_next a p picks pick = text_of_node_move (exports_of p) a (history_of_next p picks pick) (lines_of_next a.session p picks pick)

-- of one more pick, where it moves
abbrev pub node_text_of_pick : Filter → Program → List ℕ → ℕ → List ℕ
node_text_of_pick a p picks pick = if (pick_step_after p picks pick).moved then node_text_of_next a p picks pick else []

-- it was appended, and the same is asked for as before
pub record AddsNodeExplanation {A : Type 0} (p : Program) (picks : List ℕ) (pick : ℕ) (old new : NodeExplainer A) (text text' : Vec ℕ A) : Type 0 where
  pub filter : new.explainer.selection ≡ old.explainer.selection
  pub written : text'.items ≡ text.items ++ node_text_of_pick (selection_seen old.explainer.selection) p picks pick

-- ---- the moves that are chosen by a message

-- the same, and the sessions that choose are those of the program
pub record HasExplainedChosen {A : Type 0} (e : MessageExplainer A) (p : Program) (picks : List ℕ) : Type 0 where
  pub explained : HasExplained e.explainer p picks
  pub choosers : AreChoosers (exports_of p) (sessions_after p picks) e.choosers

-- one more pick that moves, and its text where it is chosen
abbrev pub chosen_text_of_next : MessageChoice → Filter → Program → List ℕ → ℕ → List ℕ
chosen_text_of_next c a p picks pick = text_of_chosen c (exports_of p) a (history_of_next p picks pick)

-- of one more pick, where it moves
abbrev pub chosen_text_of_pick : MessageChoice → Filter → Program → List ℕ → ℕ → List ℕ
chosen_text_of_pick c a p picks pick = if (pick_step_after p picks pick).moved then chosen_text_of_next c a p picks pick else []

-- it was appended, and the same is asked for as before
pub record AddsChosenExplanation {A : Type 0} (p : Program) (picks : List ℕ) (pick : ℕ) (old new : MessageExplainer A) (text text' : Vec ℕ A) : Type 0 where
  pub filter : new.explainer.selection ≡ old.explainer.selection
  pub choice : new.choice ≡ old.choice
  pub written : text'.items ≡ text.items ++ chosen_text_of_pick (choice_seen old.choice) (selection_seen old.explainer.selection) p picks pick

-- When a move that changes one process alone has to do with no other pick (own).
-- Depends on such moves, and on specifications that act on their own process alone.
use Rattle.std.specs.Prelude.{◌≡◌, ℕ, true, false, List, [], ◌∷◌, ◌++◌}
use Rattle.def_term.specs.Names.{Name}
use Rattle.def_script.specs.Program.{Program}
use Rattle.def_run.specs.Run.{run_state_of}
use Rattle.def_independence.specs.Alone.{have_link, goes_alone_after}
use Rattle.def_independence.specs.OwnEffects.{sessions_act_on_self, sessions_show_no_receive, none_is_to_one}

-- after the journal a pick of t has to do with no other pick, as far as these sessions show
pub record IsMoveAlone (ss : List Name) (p : Program) (j : List ℕ) (t : ℕ) : Type 0 where
  -- no function makes a link, so that no exit comes to another process
  pub links : have_link p.functions ≡ false
  -- the move changes the process t alone
  pub alone : goes_alone_after p j t ≡ true
  -- no command to one of the sessions is left
  pub commands : none_is_to_one ss (run_state_of p j).commands ≡ true
  -- no specification of theirs acts on another process than its own
  pub effects : sessions_act_on_self ss p j ≡ true
  -- and none shows a message to t as it comes, neither before the move nor after it
  pub before : sessions_show_no_receive ss p j t ≡ true
  pub after : sessions_show_no_receive ss p (j ++ t ∷ []) t ≡ true

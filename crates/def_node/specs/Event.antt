-- The events of the node, which sessions can report (trace:process/4 and trace:function/4).
-- Depends on terms, the names of functions and the classes of exceptions.
use Rattle.std.specs.Prelude.{ℕ, Bool, List, Option}
use Rattle.def_term.specs.Tree.{Tree}
use Rattle.def_term.specs.Names.{Mfa}
use Rattle.def_script.specs.Program.{Class}

-- a call: whether it names the module, whether the function is exported, its caller, and the depth of its frame
pub record Call : Type 0 where
  pub mfa : Mfa
  pub args : List Tree
  pub named : Bool
  pub exported : Bool
  pub caller : Option Mfa
  pub depth : ℕ

-- the first field is the process that the event is about
pub data Event : Type 0 where
  sent : (p : ℕ) → (message : Tree) → (to : ℕ) → (alive : Bool) → Event
  received : (p sender : ℕ) → (message : Tree) → Event
  called : (p : ℕ) → Call → Event
  returned : (p : ℕ) → Mfa → (value : Tree) → (depth : ℕ) → Event
  -- a frame of this depth is left by an exception of this class and value
  raised : (p : ℕ) → Mfa → Class → (value : Tree) → (depth : ℕ) → Event
  -- the parent's event, and then the child's
  spawning : (p child : ℕ) → Mfa → (args : List Tree) → Event
  spawned : (p parent : ℕ) → Mfa → (args : List Tree) → Event
  exited : (p : ℕ) → (reason : Tree) → Event
  linked : (p other : ℕ) → Event
  unlinked : (p other : ℕ) → Event
  -- other is the process that linked, unlinked or exited
  getting_linked : (p other : ℕ) → Event
  getting_unlinked : (p other : ℕ) → Event

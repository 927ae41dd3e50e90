-- What a core stands for, and what is promised of it.
use Rattle.std.specs.Prelude.{◌≡◌, ℕ, zero, suc, ◌<◌, List, [], ◌∷◌, ◌++◌, length, map, slice_get, Option, Some, None, Result, Ok, Err, refl}
use Rattle.std.specs.Coded.{Coded, code_by, coded_ℕ, coded_list, coded_option, coded×}
use Rattle.def_term.specs.Names.{Name}
use Rattle.def_script.specs.Program.{Program}
use Rattle.def_run.specs.Run.{JOURNAL, moves}
use Rattle.def_run.specs.Listing.{Item as DefinedItem, answer, messages}
use Rattle.def_script.specs.Script.{creations}
use Rattle.def_run.specs.Laws.{IsIdleAfter}
use Rattle.tn_text.specs.WrittenTrees.{written_tree}
use Rattle.tn_text.specs.declared.written_term.WrittenTerm.{WrittenTerm}
use Rattle.tn_program.specs.Views.{program_of}
use Rattle.tn_program.specs.declared.parts.Program as code
use Rattle.tn_trace.specs.Codes.{program_code}
use Rattle.tn_trace.specs.Items.{item_seen}
use Rattle.tn_trace.specs.Advances.{IsTermRun}
use Rattle.tn_trace.specs.declared.run.Run.{Run}
use Rattle.tn_trace.specs.declared.recorder.Recorder.{Recorder}
use Rattle.tn_trace.specs.declared.sinks.Terms.{Terms}
use Rattle.tn_trace.specs.declared.item.Answer.{Answer}
use Rattle.tn_trace.specs.declared.item.Answer.TheVariants.{Moved, Idle}
use Rattle.tn_trace.specs.declared.item.StepFault.{StepFault}
use Rattle.tn_trace.specs.declared.item.StepFault.TheVariants.{LimitReached, Spent, OutOfMemory}
use denote.Ref.{Bor}

-- a program and the picks that moved, in order; no picks once memory was refused
pub record CoreValue : Type 0 where
  pub program : Program
  pub journal : Option (List ℕ)

-- it is told apart by its fields
abbrev pub core_code : Coded CoreValue
core_code = code_by (Program × Option (List ℕ)) (coded× program_code (coded_option (coded_list coded_ℕ))) (λ c. (c.program, c.journal)) (λ p. record { program = p.0; journal = p.1 }) (λ _. refl)

-- the core of the program and this journal
abbrev pub core_of : Program → List ℕ → CoreValue
core_of p picks = record { program = p; journal = Some picks }

-- the core of the program that was refused memory
abbrev pub spent_core : Program → CoreValue
spent_core p = record { program = p; journal = None }

-- the run is that of the program by the picks of its journal, each of which moved
abbrev pub IsOwnRun : {A : Type 0} → code.Program A → Run A (Recorder A (Terms A)) → Type 0
IsOwnRun p r = IsTermRun (program_of p) r.journal.items r

-- the pick moved: the journal has it at its end, and the items are the answer of its move
pub record MovesOn (p : Program) (picks : List ℕ) (pick : ℕ) (new : CoreValue) (items : List DefinedItem) : Type 0 where
  pub room : length picks < JOURNAL
  pub after : new ≡ core_of p (picks ++ pick ∷ [])
  pub moved : moves p (picks ++ pick ∷ []) ≡ picks ++ pick ∷ []
  pub answered : items ≡ answer p (picks ++ pick ∷ []) (length picks)

-- the pick moves nothing, and the core is that of the same journal
pub record RestsOn (p : Program) (picks : List ℕ) (pick : ℕ) (new : CoreValue) : Type 0 where
  pub room : length picks < JOURNAL
  pub after : new ≡ core_of p picks
  pub moved : moves p picks ≡ picks
  pub idle : IsIdleAfter p picks pick

-- what a step of the core of this journal answers, and the core afterwards
abbrev pub IsStepOf : {A : Type 0} → Program → List ℕ → ℕ → CoreValue → Result (Answer A) StepFault → Type 0
IsStepOf p picks pick new (Ok (Moved items)) = MovesOn p picks pick new (map item_seen items.items)
IsStepOf p picks pick new (Ok Idle) = RestsOn p picks pick new
IsStepOf p picks pick new (Err LimitReached) = (length picks ≡ JOURNAL) × (new ≡ core_of p picks)
IsStepOf p picks pick new (Err Spent) = ⊥
IsStepOf p picks pick new (Err OutOfMemory) = (length picks < JOURNAL) × (new ≡ spent_core p)

-- the creation of this number, counted from 1
abbrev pub creation_numbered : Program → ℕ → Option (Name × Name)
creation_numbered p zero = None
creation_numbered p (suc n) = slice_get (creations p.commands) n

-- the terms are the messages of the session of this number; none where there is no such session
abbrev pub Lists : {A : Type 0} → Program → List ℕ → ℕ → Option (Bor (List (WrittenTerm A))) → Type 0
Lists p picks n None = creation_numbered p n ≡ None
Lists p picks n (Some v) = (s : Name × Name) × (creation_numbered p n ≡ Some s) × (map written_tree v.now ≡ messages s.0 p picks)

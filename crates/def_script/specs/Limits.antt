-- The limits on scripts, apart from those on terms (own).
-- Depends on nothing.
use Rattle.std.specs.Prelude.{ℕ}

-- forms of a script
abbrev pub FORMS : ℕ
FORMS = 256

-- parameters of a function, and arguments of a call
abbrev pub PARAMETERS : ℕ
PARAMETERS = 255

-- functions of a script
abbrev pub FUNCTIONS : ℕ
FUNCTIONS = 64

-- steps of one function
abbrev pub STEPS : ℕ
STEPS = 64

-- initial processes
abbrev pub INITIAL_PROCESSES : ℕ
INITIAL_PROCESSES = 16

-- commands of the control list
abbrev pub COMMANDS : ℕ
COMMANDS = 256

-- sessions that the control list creates
abbrev pub SESSIONS : ℕ
SESSIONS = 128

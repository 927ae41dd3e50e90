-- The commands to one session, one after the other.
use Rattle.std.proofs.Common.{◌≡◌, ◌∙◌, ℕ, ◌+◌, ◌<◌, ◌≤◌, Bool, true, false, if◌then◌else◌, List, [], ◌∷◌, length, drop, get_or, map, refl, sym, ap}
use Rattle.std.specs.Prelude.{filter}
use Rattle.std.specs.Str.{bytes_eq}
use Rattle.std.proofs.lemmas.List.{drop_more, drop_all}
use Rattle.def_term.specs.Names.{Name}
use Rattle.def_script.specs.Program as program
use Rattle.def_script.specs.Program.{create, destroy, set_processes, set_function, set_send, set_receive}
use Rattle.def_state.specs.SettingTerms.{after_creation}
use Rattle.tn_flags.specs.Views.{command_of}
use Rattle.tn_flags.specs.declared.command.Command.{Command}
use Rattle.tn_state.specs.Commands.{is_command_to, own_commands, creates}

-- ---- the command that creates the session

created : (name : Name) (c : program.Command) (cs : List program.Command) → creates name c ≡ true → after_creation (filter (is_command_to name) (c ∷ cs)) ≡ filter (is_command_to name) cs
created name (create s tracer) cs h = ap (λ b. after_creation (if b then create s tracer ∷ filter (is_command_to name) cs else filter (is_command_to name) cs)) h
created name (destroy s) cs h = cc
created name (set_processes s procs how flags) cs h = cc
created name (set_function s mfa spec options) cs h = cc
created name (set_send s spec) cs h = cc
created name (set_receive s spec) cs h = cc

-- another command
passed : (name : Name) (c : program.Command) (cs : List program.Command) → creates name c ≡ false → after_creation (filter (is_command_to name) (c ∷ cs)) ≡ after_creation (filter (is_command_to name) cs)
passed name (create s tracer) cs h = ap (λ b. after_creation (if b then create s tracer ∷ filter (is_command_to name) cs else filter (is_command_to name) cs)) h
passed name (destroy s) cs h = go (bytes_eq name s)
  where
    go : (b : Bool) → after_creation (if b then destroy s ∷ filter (is_command_to name) cs else filter (is_command_to name) cs) ≡ after_creation (filter (is_command_to name) cs)
    go true = refl
    go false = refl
passed name (set_processes s procs how flags) cs h = go (bytes_eq name s)
  where
    go : (b : Bool) → after_creation (if b then set_processes s procs how flags ∷ filter (is_command_to name) cs else filter (is_command_to name) cs) ≡ after_creation (filter (is_command_to name) cs)
    go true = refl
    go false = refl
passed name (set_function s mfa spec options) cs h = go (bytes_eq name s)
  where
    go : (b : Bool) → after_creation (if b then set_function s mfa spec options ∷ filter (is_command_to name) cs else filter (is_command_to name) cs) ≡ after_creation (filter (is_command_to name) cs)
    go true = refl
    go false = refl
passed name (set_send s spec) cs h = go (bytes_eq name s)
  where
    go : (b : Bool) → after_creation (if b then set_send s spec ∷ filter (is_command_to name) cs else filter (is_command_to name) cs) ≡ after_creation (filter (is_command_to name) cs)
    go true = refl
    go false = refl
passed name (set_receive s spec) cs h = go (bytes_eq name s)
  where
    go : (b : Bool) → after_creation (if b then set_receive s spec ∷ filter (is_command_to name) cs else filter (is_command_to name) cs) ≡ after_creation (filter (is_command_to name) cs)
    go true = refl
    go false = refl

-- ---- a loop over commands

module _ {A : Type 0} (name : Name) (cs : List (Command A)) (i : ℕ) (x : Command A) where
  own_more : i < length cs → x ≡ get_or cs i x → own_commands name (drop i cs) ≡ filter (is_command_to name) (command_of x ∷ map command_of (drop (i + 1) cs))
  own_more below is = ap (λ ks. filter (is_command_to name) (map command_of ks)) (drop_more cs i x below) ∙ ap (λ y. filter (is_command_to name) (command_of y ∷ map command_of (drop (i + 1) cs))) (sym is)

  pub creation_here : i < length cs → x ≡ get_or cs i x → creates name (command_of x) ≡ true → after_creation (own_commands name (drop i cs)) ≡ own_commands name (drop (i + 1) cs)
  creation_here below is h = ap after_creation (own_more below is) ∙ created name (command_of x) (map command_of (drop (i + 1) cs)) h

  pub creation_later : i < length cs → x ≡ get_or cs i x → creates name (command_of x) ≡ false → after_creation (own_commands name (drop i cs)) ≡ after_creation (own_commands name (drop (i + 1) cs))
  creation_later below is h = ap after_creation (own_more below is) ∙ passed name (command_of x) (map command_of (drop (i + 1) cs)) h

pub no_creation : {A : Type 0} (name : Name) (cs : List (Command A)) (i : ℕ) → length cs ≤ i → after_creation (own_commands name (drop i cs)) ≡ []
no_creation name cs i past = ap (λ ks. after_creation (own_commands name ks)) (drop_all i cs past)

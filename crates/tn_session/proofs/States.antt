-- Flags of processes, inheritance and the end of a process, step by step.
use Rattle.std.proofs.Common.{◌≡◌, ◌∙◌, ℕ, true, false, List, [], ap}
use Rattle.def_term.specs.Tree.{Tree}
use Rattle.def_term.specs.Alive.{with_alive}
use Rattle.def_term.specs.Names.{Mfa}
use Rattle.def_spec.specs.Flags.{Flags, no_flags, after_spawn, after_link}
use Rattle.def_node.specs.Event.{spawned, exited, getting_linked}
use Rattle.def_session.specs.State.{Session, flags_at, with_flags, with_marks}
use Rattle.def_session.specs.Session.{inherit, finish}

abbrev pub pair_of : Flags → Flags → Flags × Flags
pair_of f g = (f, g)

pub spawn_case : (s s1 s2 s3 : Session) (parent child : ℕ) (k c : Flags) (f : Mfa) (args : List Tree)
    → s1 ≡ record s { alive = with_alive s.alive child true } → s2 ≡ with_flags s1 parent k → s3 ≡ with_flags s2 child c
    → pair_of k c ≡ after_spawn (flags_at s1 parent) s1.new_process_flags → s3 ≡ inherit s (spawned child parent f args)
spawn_case s s1 s2 s3 parent child k c f args a b d pair =
    d ∙ ap (λ x. with_flags x child c) b
    ∙ ap (λ (q : Flags × Flags). with_flags (with_flags s1 parent q.0) child q.1) pair
    ∙ ap (λ x. let q : Flags × Flags = after_spawn (flags_at x parent) x.new_process_flags in with_flags (with_flags x parent q.0) child q.1) a

pub link_case : (s s2 s3 : Session) (linker partner : ℕ) (k c : Flags)
    → s2 ≡ with_flags s linker k → s3 ≡ with_flags s2 partner c
    → pair_of k c ≡ after_link (flags_at s linker) (flags_at s partner) → s3 ≡ inherit s (getting_linked partner linker)
link_case s s2 s3 linker partner k c b d pair =
    d ∙ ap (λ x. with_flags x partner c) b ∙ ap (λ (q : Flags × Flags). with_flags (with_flags s linker q.0) partner q.1) pair

pub exit_case : (s s1 s2 s3 : Session) (p : ℕ) (none : Flags) (t : Tree)
    → s1 ≡ record s { alive = with_alive s.alive p false } → s2 ≡ with_flags s1 p none → none ≡ no_flags
    → s3 ≡ with_marks s2 p [] → s3 ≡ finish s (exited p t) []
exit_case s s1 s2 s3 p none t a b n d =
    d ∙ ap (λ (x : Session). with_marks x p [])
    (b ∙ ap (λ (x : Session). with_flags x p none) a ∙ ap (λ (f : Flags). with_flags (record s { alive = with_alive s.alive p false }) p f) n)

-- A link of a process with itself changes no session.
use Rattle.std.proofs.Common.{◌≡◌, ℕ, Bool, true, false, if◌then◌else◌, Some, None, [], refl}
use Rattle.def_spec.specs.Flags.{procs_flag}
use Rattle.def_node.specs.Event.{linked, unlinked}
use Rattle.def_outlook.specs.Outlook.{OwnLink, links_itself, unlinks_itself}
use Rattle.def_session.specs.State.{Phase, absent, live, destroyed, Session, flags_at}
use Rattle.def_session.specs.Session.{reported_in, reported_for, event_reported}
use Rattle.def_running_node.specs.NodeComparisons.{own_link_event}

keeps-in : (ph : Phase) (s : Session) (p : ℕ) (x : OwnLink) → (reported_in ph s (own_link_event p x)).0 ≡ s
keeps-in absent s p links_itself = refl
keeps-in absent s p unlinks_itself = refl
keeps-in destroyed s p links_itself = refl
keeps-in destroyed s p unlinks_itself = refl
keeps-in live s p links_itself = go (flags_at s p procs_flag)
  where
    go : (b : Bool) → (reported_for s (linked p p) (if b then Some [] else None)).0 ≡ s
    go true = refl
    go false = refl
keeps-in live s p unlinks_itself = go (flags_at s p procs_flag)
  where
    go : (b : Bool) → (reported_for s (unlinked p p) (if b then Some [] else None)).0 ≡ s
    go true = refl
    go false = refl

pub own_link_keeps : (s : Session) (p : ℕ) (x : OwnLink) → (event_reported s (own_link_event p x)).0 ≡ s
own_link_keeps s p x = keeps-in s.phase s p x

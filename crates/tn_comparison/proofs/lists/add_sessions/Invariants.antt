use Rattle.std.proofs.Common.{◌≡◌, ◌++◌, map, take, flat_map}
use Rattle.tn_messages.specs.MessageViews.{lists_seen}
use Rattle.tn_renaming.specs.Pairs.{lent_terms_seen}
use Rattle.tn_comparison.proofs.lists.add_sessions.Given as goal

abbrev pub invariant-loop-session : goal.invariant-loop-session
invariant-loop-session g l = map lent_terms_seen l.lists.items ≡ map lent_terms_seen l.fn.lists.items ++ flat_map (λ v. lists_seen v) (take l.session-index l.sessions)

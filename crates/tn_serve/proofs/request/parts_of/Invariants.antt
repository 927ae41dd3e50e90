use Rattle.std.proofs.Common.{◌≡◌, drop}
use Rattle.json.specs.Value.{members_view}
use Rattle.def_serve.specs.Requests.{no_parts, with_members}
use Rattle.tn_serve.specs.Views.{parts_seen}
use Rattle.tn_serve.proofs.request.parts_of.Given as goal

-- the rest is read after what was read so far
abbrev pub invariant-loop-member : goal.invariant-loop-member
invariant-loop-member l = with_members (members_view l.members) no_parts ≡ with_members (members_view (drop l.member-index l.members)) (parts_seen l.parts)

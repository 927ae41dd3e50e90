use Rattle.std.proofs.Common.{◌≡◌, ◌∙◌, sym, ap}
use Rattle.tn_live.specs.States.{AreFresh, live_of}
use Rattle.complete_runs.proofs.Both.{both_if_ok}
use Rattle.complete_live.proofs.SameStarts.{same_fresh}
use Rattle.complete_live.proofs.live.begin.Goals as goal

pub returns-clause-lives : goal.returns-clause-lives
returns-clause-lives g c =
    let same = ap (live_of c.args.n) c.requires.logs in
    both_if_ok (λ r. r.0 ≡ live_of c.args.n g.J.JournalName.log) (λ r. r.0 ≡ live_of c.args.n g.K.JournalName.log)
    (λ r q. r.0 ≡ q.0) (λ r q h i. h ∙ same ∙ sym i) _ _ c.begin-first.ensures.live c.begin-second.ensures.live

pub returns-clause-seats : goal.returns-clause-seats
returns-clause-seats g c =
    both_if_ok (λ r. AreFresh c.args.n r.1.items) (λ r. AreFresh c.args.n r.1.items) (λ r q. r.1.items ≡ q.1.items) (λ r q h i. same_fresh c.args.n _ _ h i) _ _
    c.begin-first.ensures.seats c.begin-second.ensures.seats

use Rattle.std.proofs.Common.{◌≡◌, ◌∙◌, [], sym}
use Rattle.tn_live.specs.States.{AreFresh, book_of}
use Rattle.complete_runs.proofs.Both.{both_if_ok}
use Rattle.complete_live.proofs.SameStarts.{same_fresh}
use Rattle.complete_live.proofs.book.begin.Goals as goal

pub returns-clause-books : goal.returns-clause-books
returns-clause-books g c =
    both_if_ok (λ r. r.0 ≡ book_of []) (λ r. r.0 ≡ book_of []) (λ r q. r.0 ≡ q.0) (λ r q h i. h ∙ sym i) _ _ c.begin-first.ensures.book c.begin-second.ensures.book

pub returns-clause-seats : goal.returns-clause-seats
returns-clause-seats g c =
    both_if_ok (λ r. AreFresh c.args.n r.1.items) (λ r. AreFresh c.args.n r.1.items) (λ r q. r.1.items ≡ q.1.items) (λ r q h i. same_fresh c.args.n _ _ h i) _ _
    c.begin-first.ensures.seats c.begin-second.ensures.seats

use Rattle.std.proofs.Common.{◌≡◌, ◌∙◌, Some, None, if◌then◌else◌, length, drop, sym, ap, arith}
use Rattle.std.proofs.lemmas.List.{drop_all}
use Rattle.std.specs.List.{count_by}
use Rattle.def_running_node.specs.NodeNotes.{NodeNote}
use Rattle.tn_replay.proofs.NoteCounts.{counted, count_is, none_counted, some_counted}
use Rattle.tn_replay.proofs.note.note_of.Goals as goal

pub returns-then-differing-eq0 : goal.returns-then-differing-eq0
returns-then-differing-eq0 c =
    let bs = c.args.differs.now in
    let l = c.loop-differ in
    let all : counted (drop l.differ-index bs) ≡ 0 = ap counted (drop_all l.differ-index bs c.loop-differ-test.false) in
    let some = l.invariant.0 in
    let zero = c.if-differing-eq0.true in
    let note : NodeNote = record { differing = count_by (λ b. b) bs; moves = length bs } in
    sym (ap (λ b. if b then Some note else None) (none_counted bs (omega (arith, all, some, zero))))

pub returns : goal.returns
returns c =
    let bs = c.args.differs.now in
    let l = c.loop-differ in
    let all : counted (drop l.differ-index bs) ≡ 0 = ap counted (drop_all l.differ-index bs c.loop-differ-test.false) in
    let so_far = l.invariant.0 in
    let some = c.if-differing-eq0.false in
    let count : l.differing ≡ count_by (λ b. b) bs = sym (count_is bs ∙ omega (arith, all, so_far)) in
    let note : NodeNote = record { differing = count_by (λ b. b) bs; moves = length bs } in
    ap (λ n. Some (record { differing = n; moves = length bs })) count
    ∙ sym (ap (λ b. if b then Some note else None) (some_counted bs (λ h. absurd (omega (arith, h, all, so_far, some)))))

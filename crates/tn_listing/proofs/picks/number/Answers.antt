use Rattle.std.proofs.Common.{◌≡◌, ◌≢◌, length, slice_index_or, rules, subst}
use Rattle.tn_listing.proofs.PiecesLemmas.{empty_is_none, plus_is_none, zero_leads_none, bytes_are_none, parsed}
use Rattle.std.specs.Str.Parse.{ParsesUnsigned}
use Rattle.tn_listing.proofs.picks.number.Goals as goal
use Rattle.tn_listing.proofs.picks.number.Goals.{then-is_empty-via-then-is_empty, then-is_empty-via-else-is_empty+then-piece-eq43, else-piece-eq48-via-then-piece-eq48+else-piece-gt1, else-piece-eq48-via-else-piece-eq48}

pub returns-then-is_empty : goal.returns-then-is_empty
returns-then-is_empty c n small =
    elim c.then-is_empty.branch [
      | then-is_empty-via-then-is_empty w ↦ empty_is_none c.args.piece.now n (search rules) small
      | then-is_empty-via-else-is_empty+then-piece-eq43 w ↦ plus_is_none c.args.piece.now n w.if-piece-eq43.true small
    ]

pub returns-then-piece-gt1 : goal.returns-then-piece-gt1
returns-then-piece-gt1 c n small = zero_leads_none c.args.piece.now n c.if-piece-eq48.true c.if-piece-gt1.true small

pub returns-in_default : goal.returns-in_default
returns-in_default c n small = bytes_are_none c.args.piece.now n c.in_default.ensures.cases.0 small

pub returns : goal.returns
returns c =
    let short : slice_index_or c.args.piece.now 0 0 ≡ 48 → length c.args.piece.now ≡ 1 =
    elim c.else-piece-eq48.branch [
      | else-piece-eq48-via-then-piece-eq48+else-piece-gt1 w ↦ λ e. search rules
      | else-piece-eq48-via-else-piece-eq48 w ↦ λ e. absurd (w.if-piece-eq48.false e)
    ] in
    let text = c.in-Ok.ensures.cases.0 in
    let parse = subst (λ l. ParsesUnsigned 32 10 l c.parse.result) text c.parse.ensures.value.0 in
    let plain : slice_index_or c.args.piece.now 0 0 ≢ 43 = c.if-piece-eq43.false in
    let gives = parsed c.args.piece.now c.parse.result parse plain short in
    rw c.ok.ensures.value gives

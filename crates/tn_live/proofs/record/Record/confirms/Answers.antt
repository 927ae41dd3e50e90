use Rattle.std.proofs.Common.{◌≡◌, ◌<◌, ◌+◌, ◌-◌, suc, length, arith}
use Rattle.tn_live.specs.Journal.{picks_of}
use Rattle.tn_live.specs.Places.{AreTold}
use Rattle.tn_live.proofs.Receipts.{told_of, confirms_where, placed_at, placed-length}
use Rattle.tn_live.proofs.record.Record.confirms.Goals as goal

pub index-requires : goal.index-requires
index-requires g c =
    let es = c.args.self.now.entries.items in
    let l : length c.args.self.now.places.items ≡ length es = placed-length g.J.JournalName.program (picks_of es) (length es) (λ v. v.items) c.args.self.now.places.items c.requires.placed in
    omega (arith, l, c.args.self.now.places.ok.0, c.args.self.now.entries.ok.0, c.len.ensures, c.if-number-len.false)

pub returns : goal.returns
returns g c =
    let p = g.J.JournalName.program in
    let es = c.args.self.now.entries.items in
    let n = c.args.receipt.now.number in
    let l : length c.args.self.now.places.items ≡ length es = placed-length p (picks_of es) (length es) (λ v. v.items) c.args.self.now.places.items c.requires.placed in
    let below : n < length es = omega (arith, c.args.self.now.entries.ok.0, c.len.ensures, c.if-number-len.false) in
    let size : length es ≡ (length es - suc n) + suc n = omega (arith, below) in
    confirms_where p es c.args.receipt.now c.index-entry.result.now c.index.result.now.items (length es - suc n) c.are_told.result size c.requires.moved c.index-entry.ensures c.if-entry-receipt.false
    c.if-entry-receipt-2.false (placed_at p (picks_of es) (length es) n (length es - suc n) (λ v. v.items) c.args.self.now.places.items c.index.result.now size c.requires.placed (omega (arith, l, below)) c.index.ensures)
    (told_of p (picks_of es) c.args.self.now.core c.are_told.result (λ q picks. AreTold q picks c.index.result.now.items c.args.receipt.now.items.items) c.requires.core
    (rw (c.deref.ensures.value, c.deref-2.ensures.value) at c.are_told.ensures))

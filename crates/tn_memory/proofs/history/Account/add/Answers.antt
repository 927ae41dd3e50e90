use Rattle.std.proofs.Common.{sym, ◌∙◌, ap, subst, List}
use mathlib.Core.List.{IsPrefix}
use Rattle.tn_memory.specs.declared.history.Use.{Use}
use Rattle.tn_memory.proofs.Histories.{adds_moves}
use Rattle.tn_memory.proofs.history.Account.add.Goals as goal

pub compare_exchange-requires : goal.compare_exchange-requires
compare_exchange-requires c =
    let account = c.args.self.now in
    let history = c.args.reached.now.log in
    let offer = c.plain-offer.ensures in
    let pen = c.no_pen-pen.ensures in
    let first = subst (λ (start : List Use). IsPrefix start history) account.begins c.requires.front in (
      ap (λ w. w.tracked) account.word,
      c.requires.book ∙ sym (ap (λ w. w.book) account.word),
      pen.0 ∙ (c.requires.book ∙ sym (ap (λ w. w.book) account.word)),
      offer.0,
      rw (ap (λ w. w.key) account.word, pen.1, offer.1, offer.3) (adds_moves account.most history c.args.one.now c.args.old c.args.new c.requires.counts c.requires.within first),
    )

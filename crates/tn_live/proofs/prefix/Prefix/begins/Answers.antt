use Rattle.std.proofs.Common.{ap, subst, List}
use mathlib.Core.List.{IsPrefix}
use Rattle.tn_live.specs.declared.entry.Entry.{Entry}
use Rattle.tn_live.proofs.Prefixes.{prefix_shorter}
use Rattle.tn_live.proofs.prefix.Prefix.begins.Goals as goal

pub returns : goal.returns
returns g c =
    let both = c.learn.new.self.log in
    let this : IsPrefix c.self.inside.seen.log both = subst (λ (l : List Entry). IsPrefix l both) (ap (λ s. s.log) c.again-both.ensures) c.learn.ensures.2 in
    rw (← c.self.view_is, ← c.longer.view_is) (prefix_shorter c.self.inside.seen.log c.longer.inside.seen.log both this c.learn.ensures.3 (rw (← c.self.view_is, ← c.longer.view_is) at c.requires))

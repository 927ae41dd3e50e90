use Rattle.std.proofs.Common.{◌∙◌, ap, map, set}
use Rattle.std.proofs.lemmas.List.{map-set}
use Rattle.tn_flags.specs.Views.{flags_of}
use Rattle.tn_flags.proofs.table.FlagTable.set.Goals as goal

pub returns-then-place-lt64 : goal.returns-then-place-lt64
returns-then-place-lt64 c = map-set flags_of c.args.self.now.flags c.place_of-place.result c.args.flags ∙ ap (λ i. set (map flags_of c.args.self.now.flags) i (flags_of c.args.flags)) c.place_of-place.ensures

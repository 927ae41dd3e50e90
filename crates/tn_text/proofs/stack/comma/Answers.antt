use Rattle.std.proofs.Common.{◌≡◌, [], ◌∷◌, ◌++◌, arith, rules}
use Rattle.tn_text.proofs.Frames.{comma_goes_on, comma_full}
use Rattle.tn_text.proofs.stack.comma.Goals as goal

pub returns-then-len-most_of : goal.returns-then-len-most_of
returns-then-len-most_of g c =
    let top = c.in-Some.top in
    let size = top.items.ok.0 in
    let taken : c.args.frames.items ≡ c.pop.new.self.items ++ top ∷ [] = search rules in
    comma_full c.args.frames.items c.pop.new.self.items top taken (omega (arith, size))

pub returns-in-Ok : goal.returns-in-Ok
returns-in-Ok g c =
    let top = c.in-Some.top in
    let size = top.items.ok.0 in
    let taken : c.args.frames.items ≡ c.pop.new.self.items ++ top ∷ [] = search rules in
    let kept : c.push.new.self.items ≡ c.pop.new.self.items ++ top ∷ [] = c.in-Ok.ensures.items in
    comma_goes_on c.args.frames.items c.push.new.self.items c.pop.new.self.items top taken kept (omega (arith, size))

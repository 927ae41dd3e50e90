use Rattle.std.proofs.Common.{◌≡◌, suc, ◌+◌, ◌∷◌, [], ◌++◌, ◌<◌, ◌∙◌, ap, subst, arith, length, length-append}
use Rattle.std.proofs.lemmas.List.{map-append}
use Rattle.def_machine.specs.Compilation.{at_place, code_from}
use Rattle.tn_code.specs.Views.{instruction_of, instructions_of}
use Rattle.tn_compile.specs.Places.{JumpsInside, jump_place}
use Rattle.tn_compile.specs.Views.{code_left}
use Rattle.tn_compile.proofs.PlaceLemmas.{left-pop, placed-more}
use Rattle.tn_compile.proofs.Steps.{left-length}
use Rattle.tn_compile.proofs.places.in_places.Goals as goal

pub loop-instr-preserved : goal.loop-instr-preserved
loop-instr-preserved g c =
    let old = c.loop-instr.items.items in
    let x = c.at_place.result in
    let left : code_left c.loop-instr.code ≡ instruction_of c.in-Some.instr ∷ code_left c.pop.new.self = left-pop c.loop-instr.code.items c.pop.new.self.items c.in-Some.instr c.in-Some.ensures.items in
    let pushed : c.push.new.self.items ≡ c.loop-instr.items.items ++ c.at_place.result ∷ [] = c.in_ok-push.ensures.items in
    let popped : length c.loop-instr.code.items ≡ length c.pop.new.self.items + 1 = ap length c.in-Some.ensures.items ∙ length-append c.pop.new.self.items (c.in-Some.instr ∷ []) in
    let longer : length c.push.new.self.items ≡ length c.loop-instr.items.items + 1 = ap length pushed ∙ length-append c.loop-instr.items.items (c.at_place.result ∷ []) in
    let counted : c.len-next.result ≡ length c.loop-instr.items.items = c.len-next.ensures ∙ c.loop-instr.items.ok.0 in
    let next : c.len-next.result + 1 ≡ suc (length c.loop-instr.items.items) = omega (arith, counted) in
    record {
      inside = (subst JumpsInside left c.loop-instr.invariant.inside).1;
      many = omega (arith, popped, longer, c.loop-instr.invariant.many);
      seen = ap (λ xs. instructions_of xs ++ code_from (length c.push.new.self.items) (code_left c.pop.new.self)) pushed
          ∙ ap (λ ys. ys ++ code_from (length c.push.new.self.items) (code_left c.pop.new.self)) (map-append instruction_of old (x ∷ []))
          ∙ placed-more _ (instructions_of old) (code_left c.loop-instr.code) (code_left c.pop.new.self) (instruction_of c.in-Some.instr) (instruction_of x) (length old) (length c.push.new.self.items) left
          (c.at_place.ensures ∙ ap (λ q. at_place q (instruction_of c.in-Some.instr)) next) longer c.loop-instr.invariant.seen;
    }

pub at_place-requires : goal.at_place-requires
at_place-requires g c =
    let left : code_left c.loop-instr.code ≡ instruction_of c.in-Some.instr ∷ code_left c.pop.new.self = left-pop c.loop-instr.code.items c.pop.new.self.items c.in-Some.instr c.in-Some.ensures.items in
    let inside : jump_place (instruction_of c.in-Some.instr) < length (instruction_of c.in-Some.instr ∷ code_left c.pop.new.self) = (subst JumpsInside left c.loop-instr.invariant.inside).0 in
    let popped : length c.loop-instr.code.items ≡ length c.pop.new.self.items + 1 = ap length c.in-Some.ensures.items ∙ length-append c.pop.new.self.items (c.in-Some.instr ∷ []) in
    let counted : c.len-next.result ≡ length c.loop-instr.items.items = c.len-next.ensures ∙ c.loop-instr.items.ok.0 in
    let all : c.len.result ≡ length c.args.code.items = c.len.ensures ∙ c.args.code.ok.0 in
    omega (arith, inside, popped, counted, all, c.len.type_inv, c.loop-instr.invariant.many, left-length c.pop.new.self)

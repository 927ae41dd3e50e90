use Rattle.std.proofs.Common.{◌-◌, ◌∷◌, [], ◌∙◌, ap, sym, arith}
use Rattle.std.proofs.lemmas.List.{map-append}
use Rattle.tn_code.specs.Views.{instruction_of, instructions_of}
use Rattle.tn_compile.specs.Views.{code_left}
use Rattle.tn_compile.proofs.Steps.{left-length}
use Rattle.tn_compile.proofs.HeadCode.{last-front}
use Rattle.tn_compile.proofs.fronts.put_in_front.Goals as goal

pub loop-step-preserved : goal.loop-step-preserved
loop-step-preserved g c =
    let before = c.pop.new.self.items in
    record {
      longer = omega (arith, c.loop-step.invariant.longer, c.in_ok-emit.ensures.longer);
      seen = last-front c.args.left (c.len.result - c.args.left) (instructions_of c.loop-step.steps.items) (instructions_of before) (code_left c.loop-step.code) (code_left c.emit.new.code) _ (instruction_of c.in-Some.step) (instruction_of c.with_jump.result)
          (ap instructions_of c.in-Some.ensures.items ∙ map-append instruction_of before (c.in-Some.step ∷ []))
          (ap (λ n. n - c.args.left) (c.len.ensures ∙ c.loop-step.code.ok.0 ∙ sym (left-length c.loop-step.code)))
          c.with_jump.ensures c.in_ok-emit.ensures.emitted c.loop-step.invariant.seen;
    }

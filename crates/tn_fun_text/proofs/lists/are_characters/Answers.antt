use Rattle.std.proofs.Common.{◌&&◌, true, false, refl, sym, ◌∙◌, arith}
use Rattle.def_fun.specs.FunTexts.{is_character_code, are_character_codes}
use Rattle.tn_fun_text.proofs.Loops.{decided, passed, ended}
use Rattle.tn_fun_text.proofs.lists.are_characters.Goals as goal

pub returns-then-not-is_character : goal.returns-then-not-is_character
returns-then-not-is_character g c =
    let stored = c.args.terms.now.ok.0 in
    sym (decided ◌&&◌ are_character_codes are_character_codes is_character_code (λ t ts. refl) c.args.terms.now.items c.loop-i.i c.index.result.now false false _ (omega arith) c.index.ensures (sym c.is_character.ensures ∙ c.if-not-is_character.true) (λ b. refl) c.loop-i.invariant)

pub loop-i-preserved : goal.loop-i-preserved
loop-i-preserved g c =
    let stored = c.args.terms.now.ok.0 in
    passed ◌&&◌ are_character_codes are_character_codes is_character_code (λ t ts. refl) c.args.terms.now.items c.loop-i.i c.index.result.now true _ (omega arith) c.index.ensures (sym c.is_character.ensures ∙ c.if-not-is_character.false) (λ b. refl) c.loop-i.invariant

pub returns : goal.returns
returns g c =
    let stored = c.args.terms.now.ok.0 in
    sym (ended are_character_codes c.args.terms.now.items c.loop-i.i true _ refl (omega arith) c.loop-i.invariant)

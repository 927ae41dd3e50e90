use Rattle.std.proofs.Common.{[], ◌++◌, ◌+◌, drop, refl, ap, sym, ◌∙◌, append-nil, arith}
use Rattle.def_fun.specs.FunTexts.{are_character_codes, character_code, string_character}
use Rattle.tn_term.specs.Views.{tree_of, trees_of}
use Rattle.tn_term.proofs.Trees.{here}
use Rattle.tn_fun_text.specs.Texts.{each_character}
use Rattle.tn_fun_text.proofs.Loops.{next_written, all_written}
use Rattle.tn_fun_text.proofs.Strings.{first_code, other_codes}
use Rattle.tn_fun_text.proofs.leaf_text.put_codes.Goals as goal

pub code_of-requires : goal.code_of-requires
code_of-requires g c =
    let stored = c.args.terms.now.ok.0 in
    let xs = c.args.terms.now.items in
    let x = c.index.result.now in
    first_code (tree_of x) (trees_of (drop (c.loop-i.i + 1) xs)) (sym (ap are_character_codes (here tree_of xs c.loop-i.i x (omega arith) c.index.ensures)) ∙ c.loop-i.invariant.characters)

pub loop-i-preserved : goal.loop-i-preserved
loop-i-preserved g c =
    let stored = c.args.terms.now.ok.0 in
    let xs = c.args.terms.now.items in
    let x = c.index.result.now in
    record {
      characters = other_codes (tree_of x) (trees_of (drop (c.loop-i.i + 1) xs)) (sym (ap are_character_codes (here tree_of xs c.loop-i.i x (omega arith) c.index.ensures)) ∙ c.loop-i.invariant.characters);
      written = next_written each_character each_character xs c.loop-i.i x [] (string_character (character_code (tree_of x))) c.loop-i.out.items c.loop-i.out.items c.put_code.new.out.items _ (λ ts. refl) (omega arith) c.index.ensures c.loop-i.invariant.written (sym (append-nil c.loop-i.out.items))
          (c.in_ok-put_code.ensures ∙ ap (λ n. c.loop-i.out.items ++ string_character n) c.code_of.ensures);
    }

pub returns : goal.returns
returns g c =
    let stored = c.args.terms.now.ok.0 in
    all_written each_character refl c.args.terms.now.items c.loop-i.i c.loop-i.out.items _ (omega arith) c.loop-i.invariant.written

use Rattle.std.proofs.Common.{◌∙◌, arith}
use Rattle.def_fun.specs.Variables.{matched_part, name_of_whole}
use Rattle.tn_fun.specs.Trees.{fun_expr_seen}
use Rattle.tn_fun.specs.Clauses.{fun_head_seen}
use Rattle.tn_fun_words.specs.Views.{head_names_seen}
use Rattle.tn_fun_words.proofs.NameLists.{part_added, names_begin}
use Rattle.tn_fun_words.proofs.names.names_of.Goals as goal

pub loop-i-init : goal.loop-i-init
loop-i-init g c =
    let text = c.args.bytes.now in
    let head = fun_head_seen text c.args.head.now in
    record {
      of_whole = c.in_ok-names.ensures.whole ∙ c.whole_of.ensures text;
      numbers = names_begin text c.new-parts.result.items c.put_parts.new.out.items (fun_expr_seen text c.matched_part.result.now) (matched_part head) (name_of_whole head) (head_names_seen c.in_ok-names.names).numbers
          c.in_ok-names.ensures.numbers c.new-parts.ensures.items (c.in_ok-put_parts.ensures text) (c.matched_part.ensures text);
    }

pub loop-i-preserved : goal.loop-i-preserved
loop-i-preserved g c =
    let text = c.args.bytes.now in
    let head = fun_head_seen text c.args.head.now in
    let ps = c.put_parts.new.out in
    let size = c.len-i-end.ensures ∙ ps.ok.0 in
    record {
      of_whole = c.in_ok-add_part.ensures.whole ∙ c.loop-i.invariant.of_whole;
      numbers = part_added text ps.items c.loop-i.i c.index.result.now (name_of_whole head) (head_names_seen c.loop-i.names).of_whole (head_names_seen c.loop-i.names).numbers (head_names_seen c.add_part.new.self).numbers _ (omega (arith, size)) c.index.ensures c.loop-i.invariant.of_whole c.in_ok-add_part.ensures.numbers c.loop-i.invariant.numbers;
    }

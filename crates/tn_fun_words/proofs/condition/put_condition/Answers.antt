use Rattle.std.proofs.Common.{◌∙◌, ◌-◌, ◌<◌, ◌++◌, ℕ, List, length, take, drop, map, slice_index_or, sym, ap, arith}
use Rattle.def_fun_words.specs.Words.{condition_text}
use Rattle.tn_fun.specs.Tokens.{span_seen}
use Rattle.tn_fun.specs.Trees.{fun_expr_seen}
use Rattle.tn_fun.specs.declared.token.Token.{Token}
use Rattle.tn_fun.specs.declared.token.Kind.TheVariants.{OpenParen}
use Rattle.tn_fun_words.proofs.Conditions.{at_token, tokens_begin, token_ends, token_more}
use Rattle.tn_fun_words.proofs.condition.put_condition.Goals as goal

pub loop-i-init : goal.loop-i-init
loop-i-init g c =
    let text = c.args.bytes.now in
    record {
      written = tokens_begin text (fun_expr_seen text c.args.condition.now) c.first_byte-end.result c.args.out.now.items (map (span_seen text) c.args.tokens.now) (map (span_seen text) (drop c.index_at-i.result c.args.tokens.now))
          (c.first_byte-end.ensures text) c.requires (c.index_at-i.ensures text);
      depth_before = omega arith;
    }

pub returns-then-is_condition_end : goal.returns-then-is_condition_end
returns-then-is_condition_end g c =
    let text = c.args.bytes.now in
    let tokens = c.args.tokens.now in
    let v : Token = slice_index_or tokens c.loop-i.i (record { kind = OpenParen; from = 0; to = 0 }) in
    let below : c.loop-i.i < length tokens = omega arith in
    token_ends text tokens c.loop-i.i v below (at_token tokens c.loop-i.i (record { kind = OpenParen; from = 0; to = 0 }) below) c.loop-i.depth c.loop-i.end c.loop-i.out.items (c.args.out.now.items ++ condition_text text (fun_expr_seen text c.args.condition.now))
    (sym (c.is_condition_end.ensures (take (v.to - v.from) (drop v.from text)) (drop v.from text)) ∙ c.if-is_condition_end.true) c.loop-i.invariant.written

pub loop-i-preserved : goal.loop-i-preserved
loop-i-preserved g c =
    let text = c.args.bytes.now in
    let tokens = c.args.tokens.now in
    let v : Token = slice_index_or tokens c.loop-i.i (record { kind = OpenParen; from = 0; to = 0 }) in
    let below : c.loop-i.i < length tokens = omega arith in
    let u : List ℕ = take (v.to - v.from) (drop v.from text) in
    record {
      written = token_more text tokens c.loop-i.i v below (at_token tokens c.loop-i.i (record { kind = OpenParen; from = 0; to = 0 }) below) c.loop-i.depth c.open_after-depth.result c.loop-i.end
          c.loop-i.out.items c.put_blank.new.out.items c.extend_from_slice.new.self.items (c.args.out.now.items ++ condition_text text (fun_expr_seen text c.args.condition.now)) (sym (c.is_condition_end.ensures u (drop v.from text)) ∙ c.if-is_condition_end.false) (c.open_after-depth.ensures.open u (drop v.from text))
          c.loop-i.invariant.written c.in_ok-put_blank.ensures (c.in_ok-extend_from_slice.ensures.items ∙ ap (λ x. c.put_blank.new.out.items ++ x) c.token_bytes.ensures);
      depth_before = omega (arith, c.open_after-depth.ensures.grows, c.loop-i.invariant.depth_before);
    }

use Rattle.std.proofs.Common.{◌∙◌, ◌++◌, suc, codes, decimal, flat_map, sym, ap}
use Rattle.std.specs.Option.{option_map}
use Rattle.def_explain.specs.Mismatches.{mismatch}
use Rattle.def_explain.specs.Heads.{after_matching}
use Rattle.def_term.specs.Text.{w}
use Rattle.def_fun_words.specs.WordTexts.{head_parts, line_parts_text, name_numbered, variable_words}
use Rattle.tn_verdict.specs.MismatchTexts.{level_text}
use Rattle.tn_guard.specs.Views.{value_seen}
use Rattle.tn_mismatch.specs.Views.{head_part_seen}
use Rattle.tn_fun_words.specs.Views.{clause_words_seen, name_list_seen}
use Rattle.tn_fun_words.proofs.Reasons.{bound_made, bound_written, plain_ok}
use Rattle.tn_fun_words.proofs.reason.put_mismatch.Goals as goal

pub returns-in-Term : goal.returns-in-Term
returns-in-Term g c =
    let m = c.args.mismatch in
    plain_ok c.put_plain_mismatch.result (option_map clause_words_seen c.args.words) c.args.count m.place.now (head_part_seen m.part) (value_seen m.value) c.args.out.now.items c.put_plain_mismatch.new.out.items (λ k t e. let is = ap head_part_seen c.in-Term.is in cc) c.put_plain_mismatch.ensures

pub returns-in-Tuple : goal.returns-in-Tuple
returns-in-Tuple g c =
    let m = c.args.mismatch in
    plain_ok c.put_plain_mismatch-in-Tuple.result (option_map clause_words_seen c.args.words) c.args.count m.place.now (head_part_seen m.part) (value_seen m.value) c.args.out.now.items c.put_plain_mismatch-in-Tuple.new.out.items (λ k t e. let is = ap head_part_seen c.in-Tuple.is in cc) c.put_plain_mismatch-in-Tuple.ensures

pub returns-in-List : goal.returns-in-List
returns-in-List g c =
    let m = c.args.mismatch in
    plain_ok c.put_plain_mismatch-in-List.result (option_map clause_words_seen c.args.words) c.args.count m.place.now (head_part_seen m.part) (value_seen m.value) c.args.out.now.items c.put_plain_mismatch-in-List.new.out.items (λ k t e. let is = ap head_part_seen c.in-List.is in cc) c.put_plain_mismatch-in-List.ensures

pub returns-in_ok-write_value-in-Bound-2 : goal.returns-in_ok-write_value-in-Bound-2
returns-in_ok-write_value-in-Bound-2 g c =
    let m = c.args.mismatch in
    let n = c.args.count in
    let k = c.in-Bound.number in
    let ws = option_map clause_words_seen c.args.words in
    let ns = name_list_seen c.in_ok-names-in-Bound.names.items in
    let o = c.args.out.now.items in
    bound_written ws ns n k m.place.now (value_seen c.in-Bound.value) (value_seen m.value) o c.write_value-in-Bound.new.out.items c.in_ok-names-in-Bound.ensures
    (bound_made o (((codes "the head doesn't match at element " ++ decimal (suc n)) ++ flat_map level_text m.place.now) ++ codes ": ") (variable_words (name_numbered ns k) k) (codes " is ") (w (value_seen c.in-Bound.value)) (codes ", found ") (w (value_seen m.value))
    c.put_place.new.out.items c.put_name.new.out.items c.extend_from_slice.new.self.items c.write_value.new.out.items c.extend_from_slice-in-Bound.new.self.items c.write_value-in-Bound.new.out.items
    c.in_ok-put_place-in-Bound.ensures c.in_ok-put_name-in-Bound.ensures c.in_ok-extend_from_slice-in-Bound.ensures.items c.in_ok-write_value-in-Bound.ensures.ok c.in_ok-extend_from_slice-in-Bound-2.ensures.items c.in_ok-write_value-in-Bound-2.ensures.ok)
    ∙ ap (λ p. o ++ line_parts_text ws (head_parts (after_matching n (mismatch m.place.now (head_part_seen p) (value_seen m.value))))) (sym c.in-Bound.is)

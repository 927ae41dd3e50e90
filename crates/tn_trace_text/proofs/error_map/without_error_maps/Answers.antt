use Rattle.std.proofs.Common.{◌≡◌, ◌∙◌, ◌++◌, ap, sym, drop, codes, true, rules}
use Rattle.std.specs.Option.{is_none}
use Rattle.def_trace_text.specs.ErrorMaps.{error_map_length, without_maps, without_error_maps}
use Rattle.tn_trace_text.proofs.ErrorMaps.{after_map}
use Rattle.tn_trace_text.proofs.error_map.without_error_maps.Goals as goal

pub loop-rest-preserved-then-begins_error_map : goal.loop-rest-preserved-then-begins_error_map
loop-rest-preserved-then-begins_error_map g c =
    let rest = c.loop-rest.rest.now in
    let left : c.bytes_after-rest.result.now ≡ drop (error_map_length rest) rest = c.bytes_after-rest.ensures ∙ ap (λ n. drop n rest) c.error_map_length.ensures in
    let none : is_none c.loop-rest.quote ≡ true = search rules in
    let copy : c.extend_from_slice.new.self.items ≡ c.loop-rest.copy.items ++ codes "{error_info,[]" = search rules in
    ap (λ t. t ++ without_maps 0 c.loop-rest.quote c.loop-rest.escaped c.bytes_after-rest.result.now) copy
    ∙ ap (λ t. c.loop-rest.copy.items ++ codes "{error_info,[]" ++ without_maps 0 c.loop-rest.quote c.loop-rest.escaped t) left
    ∙ after_map c.loop-rest.copy.items rest (without_error_maps c.args.text.now) c.loop-rest.quote c.loop-rest.escaped (sym c.is_empty.ensures ∙ c.loop-rest-test.true)
    none (sym c.begins_error_map.ensures ∙ c.if-begins_error_map.true) c.loop-rest.invariant

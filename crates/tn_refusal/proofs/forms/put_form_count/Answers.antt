use Rattle.std.proofs.Common.{◌≡◌, ◌++◌, codes, decimal, length, map, OnOk, ap, subst, arith}
use Rattle.std.proofs.lemmas.List.{length-map}
use Rattle.def_text.specs.Faults.{misplaced, too_deep, too_large}
use Rattle.def_text.proofs.Either.{script_one}
use Rattle.tn_term.specs.Views.{tree_of}
use Rattle.tn_refusal.proofs.RefusedItems.{long_no_terms, denied_no_terms}
use Rattle.tn_refusal.proofs.forms.put_form_count.Goals as goal

pub returns-in-Ok : goal.returns-in-Ok
returns-in-Ok g c = λ ts s.
    let same = ap length (script_one c.args.text.now (map (tree_of {A = g.row.A.Denot}) c.in-Ok.terms.items) ts c.in-Ok.ensures s) in
    let size = length-map c.in-Ok.terms.items (tree_of {A = g.row.A.Denot}) in
    let stored = c.in-Ok.terms.ok.0 in
    let counted : c.len.result ≡ length ts = omega (arith, same, size, stored) in
    subst (λ n. OnOk c.put_number.result (c.put_number.new.out.items ≡ c.args.out.now.items ++ codes ": there are " ++ decimal n)) counted c.put_number.ensures

pub returns-in-Err-TooLong : goal.returns-in-Err-TooLong
returns-in-Err-TooLong g c = λ ts s. absurd (long_no_terms c.args.text.now (rw c.in-Err-TooLong.field-0-is at c.in-Err-TooLong.ensures) ts s)

pub returns-in-Err-Token : goal.returns-in-Err-Token
returns-in-Err-Token g c = λ ts s. absurd (denied_no_terms c.args.text.now misplaced _ (rw c.in-Err-Token.field-0-is at c.in-Err-Token.ensures) ts s)

pub returns-in-Err-TooDeep : goal.returns-in-Err-TooDeep
returns-in-Err-TooDeep g c = λ ts s. absurd (denied_no_terms c.args.text.now too_deep _ (rw c.in-Err-TooDeep.field-0-is at c.in-Err-TooDeep.ensures) ts s)

pub returns-in-Err-TooLarge : goal.returns-in-Err-TooLarge
returns-in-Err-TooLarge g c = λ ts s. absurd (denied_no_terms c.args.text.now too_large _ (rw c.in-Err-TooLarge.field-0-is at c.in-Err-TooLarge.ensures) ts s)

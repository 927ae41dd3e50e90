use Rattle.std.proofs.Common.{◌≡◌, true, false, ◌||◌, ◌+◌, drop, ap, sym, ◌∙◌}
use Rattle.std.specs.Str.{bytes_eq}
use Rattle.def_term.specs.Text.{is_among}
use Rattle.tn_script.proofs.Each.{among_more}
use Rattle.tn_script.proofs.params.contains.Goals as goal

pub returns-then-eq : goal.returns-then-eq
returns-then-eq g c =
    let e = among_more c.args.atoms.now c.loop-atom.atom-index c.atom-item.result c.args.text.now c.loop-atom-test.true c.atom-item.is in
    let t : bytes_eq c.args.text.now c.atom-item.result ≡ true = ap (bytes_eq c.args.text.now) (sym c.text.ensures.text) ∙ sym c.eq.ensures ∙ c.if-eq.true in
    sym (c.loop-atom.invariant ∙ e ∙ ap (λ b. b || is_among (drop (c.loop-atom.atom-index + 1) c.args.atoms.now) c.args.text.now) t)

pub loop-atom-preserved : goal.loop-atom-preserved
loop-atom-preserved g c =
    let e = among_more c.args.atoms.now c.loop-atom.atom-index c.atom-item.result c.args.text.now c.loop-atom-test.true c.atom-item.is in
    let t : bytes_eq c.args.text.now c.atom-item.result ≡ false = ap (bytes_eq c.args.text.now) (sym c.text.ensures.text) ∙ sym c.eq.ensures ∙ c.if-eq.false in
    c.loop-atom.invariant ∙ e ∙ ap (λ b. b || is_among (drop (c.loop-atom.atom-index + 1) c.args.atoms.now) c.args.text.now) t

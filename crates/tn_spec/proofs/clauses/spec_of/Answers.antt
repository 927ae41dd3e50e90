use Rattle.std.proofs.Common.{◌≡◌, arith}
use Rattle.std.specs.Prelude.{Ok}
use Rattle.def_spec.specs.Reading as reading
use Rattle.def_spec.proofs.Reading.{read_specs_are_sound}
use Rattle.tn_term.specs.Views.{tree_of}
use Rattle.tn_spec.specs.Views.{dialect_of, clause_list, spec_from}
use Rattle.tn_spec.proofs.Parts.{spec_read}
use Rattle.tn_spec.proofs.Sizes.{spec_small, few}
use Rattle.tn_spec.proofs.clauses.spec_of.Goals as goal

pub invariant_of-result : goal.invariant_of-result
invariant_of-result g c =
    let d = dialect_of c.args.dialect in
    let t = tree_of c.args.term.now in
    let stored = c.in-Some.terms.now.ok.0 in
    let is : reading.spec_of d t ≡ Ok (spec_from c.args.dialect c.in_ok-clauses.clauses.items) =
    spec_read d t c.in-Some.terms.now.items (clause_list c.in_ok-clauses.clauses) (λ e. c.if-len-eq0.false (omega (arith, e))) c.in-Some.ensures c.in_ok-clauses.ensures in
    record {
      sound = ∣ read_specs_are_sound d t _ is ∣₁;
      bounded = few _ _ _ c.size.ensures c.if-size-gt-LARGEST.false (spec_small d t _ is);
    }

pub returns-clause-read : goal.returns-clause-read
returns-clause-read g c =
    let stored = c.in-Some.terms.now.ok.0 in
    spec_read (dialect_of c.args.dialect) (tree_of c.args.term.now) c.in-Some.terms.now.items (clause_list c.in_ok-clauses.clauses) (λ e. c.if-len-eq0.false (omega (arith, e))) c.in-Some.ensures c.in_ok-clauses.ensures

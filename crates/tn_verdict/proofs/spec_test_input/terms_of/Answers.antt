use Rattle.tn_verdict.proofs.spec_test_input.terms_of.Goals as goal

pub returns : goal.returns
returns g c = record {
  of_list = c.in_ok-list.ensures;
  of_caller = c.in_ok-caller.ensures;
  of_spec = c.in_ok-spec.ensures;
}

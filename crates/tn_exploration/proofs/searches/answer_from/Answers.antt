use Rattle.tn_exploration.proofs.searches.answer_from.Goals as goal

pub returns : goal.returns
returns g c =
    let h = c.in_ok-answer.ensures in record {
      written = (λ i. record { text = h.text i; settled = h.settled i; unmet = h.unmet i });
      departs = c.in_ok-departure.ensures (record { settled = h.settled; unmet = h.unmet });
    }

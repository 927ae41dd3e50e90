use Rattle.std.proofs.Common.{◌≡◌, ◌++◌, map, refl, rules}
use Rattle.tn_refusal.specs.Lines.{printable_byte}
use Rattle.tn_refusal.proofs.Printables.{all_shown}
use Rattle.tn_refusal.proofs.line.line_of.Goals as goal

pub returns : goal.returns
returns g c =
    let named : c.extend_from_slice.new.self.items ≡ c.in_ok-line.line.items ++ c.words_of.result.now = search rules in
    let found : c.append_shown.new.line.items ≡ c.extend_from_slice.new.self.items ++ map printable_byte c.in_ok-found.found.items = search rules in
    record {
      mark = c.in_ok-mark.mark.location;
      rest = map printable_byte c.in_ok-found.found.items;
      place = c.in_ok-mark.ensures.place;
      text = cc (named, found, c.in_ok-line.ensures, c.words_of.ensures);
      details = record { detail = c.in_ok-found.found.items; told = c.in_ok-found.ensures; shown = refl };
      printable = all_shown c.in_ok-found.found.items;
    }

pub detail_of-requires : goal.detail_of-requires
detail_of-requires g c = record { form = c.in_ok-mark.ensures.form; forms = c.in_ok-mark.ensures.forms }

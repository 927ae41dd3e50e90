-- What is explained is the move by which a run departs from the trace.
use Rattle.std.proofs.Common.{◌≡◌, ◌∙◌, Bool, true, false, ap, refl, sym, subst}
use Rattle.std.specs.Prelude.{Option, Some, None, length, take, if◌then◌else◌}
use Rattle.def_compare.specs.Traces.{begins_trace, prefix_pairs}
use Rattle.def_compare.specs.Entries.{Match, Prefix, possible_by, longest_prefix}
use Rattle.def_compare.proofs.Matches.{IsMatch, match_is, none_is, some_is}
use Rattle.def_compare.proofs.Prefixes.{prefix_is_longest}
use Rattle.def_departure.specs.Departures.{departure_by, departure_unless}
use Rattle.def_departure.specs.Laws.{IsDeparture, PossibleHasNoDeparture, DepartureEndsARun}

pub possible_has_no_departure : PossibleHasNoDeparture
possible_has_no_departure a es m h = subst (λ o. departure_unless o a es ≡ None) (sym h) refl

pub departure_ends_a_run : DepartureEndsARun
departure_ends_a_run a q ss p before es journal sound h = by_match (possible_by a es) h
  where
    of_entry : (f : Prefix) → IsMatch (begins_trace a.messages) q ss p before (prefix_pairs (take f.count a.messages)) f.by → (b : Bool) → begins_trace a.messages f.by.entry.kept ≡ b →
        (if b then None else Some f.by.entry.journal) ≡ Some journal → IsDeparture a q ss p before journal
    of_entry f begins true is g = absurd (none_is journal g)
    of_entry f begins false is g =
        subst (IsDeparture a q ss p before) (some_is f.by.entry.journal journal g)
        (record { from = begins.entry.from; ends = begins.entry.ends; departs = ap (begins_trace a.messages) begins.entry.keeps ∙ is })

    of_prefix : (o : Option Prefix) → longest_prefix a.messages es (length a.messages) ≡ o → departure_by a o ≡ Some journal → IsDeparture a q ss p before journal
    of_prefix None is g = absurd (none_is journal g)
    of_prefix (Some f) is g =
        let begins : IsMatch (begins_trace a.messages) q ss p before (prefix_pairs (take f.count a.messages)) f.by =
        match_is (begins_trace a.messages) q ss p before (prefix_pairs (take f.count a.messages)) es f.by sound (prefix_is_longest a.messages es (length a.messages) f is).0 in
        of_entry f begins (begins_trace a.messages f.by.entry.kept) refl g

    by_match : (o : Option Match) → departure_unless o a es ≡ Some journal → IsDeparture a q ss p before journal
    by_match (Some m) g = absurd (none_is journal g)
    by_match None g = of_prefix (longest_prefix a.messages es (length a.messages)) refl g

-- Closed journals answer the same.
use Rattle.std.proofs.Common.{◌≡◌, ◌∙◌, ℕ, List, map, slice_get, Option, Some, None, Bool, IsTrue, ◌↔◌, sym, ap, subst}
use Rattle.std.specs.Option.{option_map}
use Rattle.std.specs.Borrow.{Bor}
use Rattle.def_script.specs.Program.{Program}
use Rattle.def_run.specs.Listing.{answer, messages, replies}
use Rattle.tn_text.specs.declared.written_term.WrittenTerm.{WrittenTerm}
use Rattle.tn_text.specs.WrittenTrees.{written_tree}
use Rattle.tn_trace.specs.Cores.{Lists, creation_numbered}
use Rattle.tn_live.specs.declared.entry.Entry.{Entry}
use Rattle.tn_live.specs.declared.entry.Receipt.{Receipt}
use Rattle.tn_live.specs.Journal.{entry, picks_of}
use Rattle.tn_live.specs.ClosedJournals.{Confirms}
use Rattle.complete_runs.specs.Alike.{listing_seen}
use Rattle.complete_live.specs.Alike.{receipt_seen}
use Rattle.complete_live.proofs.SameStarts.{same_truth}

-- the messages of a listing are determined
lists_seen : {A : Type 0} (p : Program) (picks : List ℕ) (n : ℕ) (o : Option (Bor (List (WrittenTerm A)))) → Lists p picks n o → listing_seen o ≡ option_map (λ s. messages s.0 p picks) (creation_numbered p n)
lists_seen p picks n None h = ap (option_map (λ s. messages s.0 p picks)) (sym h)
lists_seen p picks n (Some v) h = ap Some h.2 ∙ ap (option_map (λ s. messages s.0 p picks)) (sym h.1)

pub same_listings : {A : Type 0} (p q : Program) (es fs : List Entry) (n : ℕ) (o u : Option (Bor (List (WrittenTerm A)))) → p ≡ q → es ≡ fs → Lists p (picks_of es) n o → Lists q (picks_of fs) n u → listing_seen o ≡ listing_seen u
same_listings p q es fs n o u named entries h i =
    let back : (q, fs) ≡ (p, es) = λ j. (sym named j, sym entries j) in
    lists_seen p (picks_of es) n o h ∙ sym (lists_seen p (picks_of es) n u (subst (λ (z : Program × List Entry). Lists z.0 (picks_of z.1) n u) back i))

pub same_replies : {A : Type 0} (p q : Program) (es fs : List Entry) (v w : List (WrittenTerm A)) → p ≡ q → es ≡ fs → map written_tree v ≡ replies p (picks_of es) → map written_tree w ≡ replies q (picks_of fs) → map written_tree v ≡ map written_tree w
same_replies p q es fs v w named entries h i = h ∙ (λ j. replies (named j) (picks_of (entries j))) ∙ sym i

-- whether it is confirmed goes by what a receipt says
confirms_seen : {A : Type 0} (p : Program) (es : List Entry) (r s : Receipt A) → receipt_seen r ≡ receipt_seen s → Confirms p es s → Confirms p es r
confirms_seen p es r s same h =
    let seat = ap (λ z. z.seat) same in
    let number = ap (λ z. z.number) same in
    let pick = ap (λ z. z.pick) same in
    let items = ap (λ z. z.items) same in
    record {
      entered = (λ j. slice_get es (number j)) ∙ h.entered ∙ (λ j. Some (entry (sym seat j) (sym pick j)));
      answered = items ∙ h.answered ∙ (λ j. answer p (picks_of es) (sym number j));
    }

pub same_confirms : {A : Type 0} (p q : Program) (es fs : List Entry) (r s : Receipt A) (x y : Bool) → p ≡ q → es ≡ fs → receipt_seen r ≡ receipt_seen s
    → IsTrue x ↔ Confirms p es r → IsTrue y ↔ Confirms q fs s → x ≡ y
same_confirms p q es fs r s x y named entries same h i' =
    let back : (q, fs) ≡ (p, es) = λ j. (sym named j, sym entries j) in
    let i : IsTrue y ↔ Confirms p es s = subst (λ (z : Program × List Entry). IsTrue y ↔ Confirms z.0 z.1 s) back i' in
    same_truth x y h (λ yes. confirms_seen p es r s same (i.0 yes), λ yes. i.1 (confirms_seen p es s r (sym same) yes))

-- Loops that read the words of an array, and the members of an object.
use Rattle.std.proofs.Common.{◌≡◌, ◌∙◌, ℕ, ◌+◌, ◌<◌, ◌≤◌, List, [], ◌∷◌, ◌++◌, length, get_or, drop, map, Option, Some, None, option_map, option_and_then, Result, Ok, Err, refl, sym, ap, append_assoc, append-nil}
use Rattle.std.proofs.lemmas.List.{drop_more, drop_all, map-append}
use Rattle.std.specs.Borrow.{Bor}
use Rattle.std.specs.declared.vec.Vec.{Vec}
use Rattle.json.specs.declared.value.Value.{Value}
use Rattle.json.specs.declared.value.Value.TheVariants.{Object}
use Rattle.json.proofs.Trees.{view-Object}
use Rattle.json.specs.Json.{item, member}
use Rattle.json.specs.Find.{as_str}
use Rattle.json.specs.Value.{value_view, items_view, members_view}
use Rattle.def_serve.specs.Requests.{RequestParts, RequestFault, words_in, with_member, with_members, then_parts, no_parts, request_of_all, request_of_json}

-- ---- words

-- what was read so far, before the rest
abbrev pub words_before : List (List ℕ) → Option (List (List ℕ)) → Option (List (List ℕ))
words_before done rest = option_map (λ words. done ++ words) rest

before_one : (done : List (List ℕ)) (w : List ℕ) (rest : Option (List (List ℕ))) → words_before done (option_map (λ words. w ∷ words) rest) ≡ words_before (done ++ w ∷ []) rest
before_one done w None = refl
before_one done w (Some ws) = ap Some (sym (append_assoc done (w ∷ []) ws))

pub words_begin : (rest : Option (List (List ℕ))) → rest ≡ words_before [] rest
words_begin None = refl
words_begin (Some ws) = refl

module _ {A S : Type 0} (h : S → List ℕ) (vs : List (Value A)) (i : ℕ) (done : List S) where
  -- the rest is read after what was read so far
  abbrev pub WordsSo : Type 0
  WordsSo = words_in (items_view vs) ≡ words_before (map h done) (words_in (items_view (drop i vs)))

  item_here : (v : Value A) → i < length vs → v ≡ get_or vs i v → items_view (drop i vs) ≡ item (value_view v) (items_view (drop (i + 1) vs))
  item_here v below is = ap items_view (drop_more vs i v below) ∙ ap (λ x. items_view (x ∷ drop (i + 1) vs)) (sym is)

  abbrev next_of : Option (List ℕ) → Option (List (List ℕ))
  next_of text = option_and_then (λ word. option_map (λ words. word ∷ words) (words_in (items_view (drop (i + 1) vs)))) text

  pub words_fail : (v : Value A) → i < length vs → v ≡ get_or vs i v → as_str (value_view v) ≡ None → WordsSo → words_in (items_view vs) ≡ None
  words_fail v below is none so_far = so_far ∙ ap (λ js. words_before (map h done) (words_in js)) (item_here v below is) ∙ ap (λ o. words_before (map h done) (next_of o)) none

  pub words_end : length vs ≤ i → WordsSo → words_in (items_view vs) ≡ Some (map h done)
  words_end past so_far = so_far ∙ ap (λ ys. words_before (map h done) (words_in (items_view ys))) (drop_all i vs past) ∙ ap Some (append-nil (map h done))

  pub words_next : (v : Value A) (new : List S) (s : S) → i < length vs → v ≡ get_or vs i v → as_str (value_view v) ≡ Some (h s) → new ≡ done ++ s ∷ [] → WordsSo
      → words_in (items_view vs) ≡ words_before (map h new) (words_in (items_view (drop (i + 1) vs)))
  words_next v new s below is text pushed so_far =
      so_far ∙ ap (λ js. words_before (map h done) (words_in js)) (item_here v below is) ∙ ap (λ o. words_before (map h done) (next_of o)) text
      ∙ before_one (map h done) (h s) (words_in (items_view (drop (i + 1) vs)))
      ∙ ap (λ zs. words_before zs (words_in (items_view (drop (i + 1) vs)))) (sym (ap (map h) pushed ∙ map-append h done (s ∷ [])))

-- ---- members

module _ {A : Type 0} (ms : List (Bor (List ℕ) × Value A)) (i : ℕ) (parts : RequestParts) (whole : Result RequestParts RequestFault) where
  -- the rest is read after what was read so far
  abbrev pub MembersSo : Type 0
  MembersSo = whole ≡ with_members (members_view (drop i ms)) parts

  member_here : (m : Bor (List ℕ) × Value A) → i < length ms → m ≡ get_or ms i m → members_view (drop i ms) ≡ member m.0.now (value_view m.1) (members_view (drop (i + 1) ms))
  member_here m below is = ap members_view (drop_more ms i m below) ∙ ap (λ x. members_view (x ∷ drop (i + 1) ms)) (sym is)

  then_rest : (m : Bor (List ℕ) × Value A) (one : Result RequestParts RequestFault) → i < length ms → m ≡ get_or ms i m → with_member parts m.0.now (value_view m.1) ≡ one → MembersSo
      → whole ≡ then_parts (with_members (members_view (drop (i + 1) ms))) one
  then_rest m one below is read so_far =
      so_far ∙ ap (λ js. with_members js parts) (member_here m below is) ∙ ap (then_parts (with_members (members_view (drop (i + 1) ms)))) read

  pub members_next : (m : Bor (List ℕ) × Value A) (next : RequestParts) → i < length ms → m ≡ get_or ms i m → with_member parts m.0.now (value_view m.1) ≡ Ok next → MembersSo
      → whole ≡ with_members (members_view (drop (i + 1) ms)) next
  members_next m next below is read so_far = then_rest m (Ok next) below is read so_far

  pub members_fail : (m : Bor (List ℕ) × Value A) (fault : RequestFault) → i < length ms → m ≡ get_or ms i m → with_member parts m.0.now (value_view m.1) ≡ Err fault → MembersSo → whole ≡ Err fault
  members_fail m fault below is read so_far = then_rest m (Err fault) below is read so_far

  pub members_end : length ms ≤ i → MembersSo → whole ≡ Ok parts
  members_end past so_far = so_far ∙ ap (λ ys. with_members (members_view ys) parts) (drop_all i ms past)

-- an object is read by its members
pub object_read : {A : Type 0} (value : Value A) (v : Vec (Bor (List ℕ) × Value A) A) (ms : List (Bor (List ℕ) × Value A)) (r : Result RequestParts RequestFault)
    → value ≡ Object v → ms ≡ v.items → with_members (members_view ms) no_parts ≡ r → request_of_json (value_view value) ≡ request_of_all r
object_read value v ms r is same read =
    ap (λ x. request_of_json (value_view x)) is ∙ ap request_of_json (view-Object v)
    ∙ ap (λ l. request_of_all (with_members (members_view l) no_parts)) (sym same) ∙ ap request_of_all read

-- The commands of a text begin where the items of its forms do.
use Rattle.std.proofs.Common.{◌≡◌, ℕ, pos, zero, suc, ◌+◌, ◌-◌, ◌<◌, cond, Bool, true, false, List, [], ◌∷◌, ◌++◌, length, Option, Some, None, slice_get, codes, inl, inr, refl, ap, ap₂, sym, ◌∙◌, subst, append_assoc, length-append, arith}
use Rattle.std.specs.Option.{option_map}
use Rattle.std.specs.Str.{bytes_eq}
use Rattle.std.proofs.lemmas.Slice.Eq.{bytes_eq-Decides}
use Rattle.def_term.specs.Tree.{Tree, int, atom, pid, tuple, list, Trees, none, more, elements}
use Rattle.def_term.specs.Names.{Name}
use Rattle.def_text.specs.Tokens as text
use Rattle.def_text.specs.Tokens.{Token, TokenSpan, Tokens}
use Rattle.def_text.specs.Grammar.{of_codes, Derives, DerivesAll, DerivesRest, DerivesScript}
use Rattle.def_text.specs.Spelling.{tokens_of, offset_of}
use Rattle.def_text.specs.Forms.{after_stops}
use Rattle.def_text.proofs.Unique.{same_tokens}
use Rattle.def_script.specs.Program.{Step, Function, Entry, Command, Form, declares, starts, controls}
use Rattle.def_script.specs.Shapes.{both, all_three, all_four, each_in, is_atom_of, is_tagged, name_in, exported_in, params_in, args_in, steps_in, command_in, commands_in, function_from, entry_from, function_in, process_in, control_in, form_in, forms_in}
use Rattle.def_script.specs.Rules.{commands_of_form, commands_of}
use Rattle.def_script.specs.Script.{SpellsForms}
use Rattle.def_refusal.specs.Items.{FormItem, step, command, numbered_command}
use Rattle.def_refusal.specs.ItemStarts.{role_of, is_opener, tokens_past_commas, from_element, from_item}
use Rattle.def_explain.specs.CommandPlaces.{before_form, at_tag, in_other_form, in_control, place_after_token, begins_command, command_starts}
use Rattle.def_wording.specs.CommandOffsetLaws.{IsItemOfCommand, CommandBeginsAtItem, CommandStartsAreAll}
use Rattle.def_wording.proofs.TokenWalks.{BeginsBy, begins_by, starts_by, quiet, commas_by, stops_by, Over, close_brace_quiet, all_over}

-- ---- elements of a list of offsets

past_first : (front back : List ℕ) (j : ℕ) → slice_get (front ++ back) (length front + j) ≡ slice_get back j
past_first [] back j = ap (slice_get back) (let n : 0 + j ≡ j = omega arith in n)
past_first (a ∷ front) back j = ap (slice_get (a ∷ (front ++ back))) (let n : length (a ∷ front) + j ≡ suc (length front + j) = omega arith in n) ∙ past_first front back j

among_first : (front back : List ℕ) (j : ℕ) → j < length front → slice_get (front ++ back) j ≡ slice_get front j
among_first [] back j h = absurd (omega (arith, h))
among_first (a ∷ front) back zero h = refl
among_first (a ∷ front) back (suc j) h = among_first front back j (omega (arith, h))

-- ---- what is read of a term

no_read : {X : Type 0} (P : Type 0) (x : X) → None ≡ Some x → P
no_read P x e = cc

same_read : {X : Type 0} (x y : X) → Some x ≡ Some y → x ≡ y
same_read x y e = cc

-- the first of several terms that are each read, and the others
record ReadFirst (X : Type 0) (f : Tree → Option X) (t : Tree) (ts : List Tree) (xs : List X) : Type 0 where
  pub first : X
  pub others : List X
  pub whole : xs ≡ first ∷ others
  pub is : f t ≡ Some first
  pub each : each_in f ts ≡ Some others

first_by : {X : Type 0} (f : Tree → Option X) (t : Tree) (ts : List Tree) (xs : List X) (o : Option X) (p : Option (List X)) → f t ≡ o → each_in f ts ≡ p → both (λ y ys. y ∷ ys) o p ≡ Some xs → ReadFirst X f t ts xs
first_by f t ts xs None p is each e = no_read _ xs e
first_by f t ts xs (Some y) None is each e = no_read _ xs e
first_by f t ts xs (Some y) (Some ys) is each e = record { first = y; others = ys; whole = sym (same_read (y ∷ ys) xs e); is = is; each = each }

read_first : {X : Type 0} (f : Tree → Option X) (t : Tree) (ts : List Tree) (xs : List X) → each_in f (t ∷ ts) ≡ Some xs → ReadFirst X f t ts xs
read_first f t ts xs e = first_by f t ts xs (f t) (each_in f ts) refl refl e

none_read : {X : Type 0} (f : Tree → Option X) (xs : List X) → each_in f [] ≡ Some xs → xs ≡ []
none_read f xs e = sym (same_read [] xs e)

-- ---- the commands of one list

-- of these tokens, which are those of so many commands and the bracket after them: where the commands begin, and the tokens after them.
-- The element k stands after f k commas
record AreCommands (f : ℕ → ℕ) (ts : List Token) (xs : List TokenSpan) (count : ℕ) : Type 0 where
  pub left : List TokenSpan
  pub tokens : tokens_of left ≡ ts
  pub offsets : List ℕ
  pub walk : command_starts (in_control 2) xs ≡ offsets ++ command_starts (in_control 1) left
  pub many : length offsets ≡ count
  pub each : (end k : ℕ) → k < count → slice_get offsets k ≡ Some (offset_of end (tokens_past_commas 0 (f k) xs))
  pub stops : (k : ℕ) → after_stops (suc k) xs ≡ after_stops (suc k) left

no_commands : (f : ℕ → ℕ) (us : List Token) (xs : List TokenSpan) (w : BeginsBy text.close_bracket us xs) (cs : List Command) → cs ≡ [] → AreCommands f us xs (length cs)
no_commands f us xs w cs e = record {
  left = w.others;
  tokens = w.tokens;
  offsets = [];
  walk = ap (command_starts (in_control 2)) w.whole ∙ quiet (in_control 2) text.close_bracket w.first w.others w.is refl;
  many = ap length (sym e);
  each = λ end k h. absurd (let none_there : length cs ≡ 0 = ap length e in omega (arith, h, none_there));
  stops = λ k. ap (after_stops (suc k)) w.whole ∙ stops_by k text.close_bracket w.first w.others w.is;
}

-- one command, and those after it
with_command : (us vs : List Token) (xs : List TokenSpan) (w : BeginsBy text.open_brace us xs) (p : Over suc (λ n. n) vs w.others) (ws : List Token) (n : ℕ) → AreCommands suc ws p.left n → AreCommands (λ k. k) ws xs (suc n)
with_command us vs xs w p ws n q = record {
  left = q.left;
  tokens = q.tokens;
  offsets = w.first.from ∷ q.offsets;
  walk = ap (command_starts (in_control 2)) w.whole ∙ starts_by (in_control 2) text.open_brace w.first w.others w.is ∙ ap (λ l. w.first.from ∷ l) (p.starts 2 (omega arith) ∙ q.walk);
  many = ap suc q.many;
  each = each;
  stops = λ k. ap (after_stops (suc k)) w.whole ∙ stops_by k text.open_brace w.first w.others w.is ∙ p.stops k ∙ q.stops k;
}
  where
    each : (end k : ℕ) → k < suc n → slice_get (w.first.from ∷ q.offsets) k ≡ Some (offset_of end (tokens_past_commas 0 k xs))
    each end zero h = ap (λ l. Some (offset_of end (tokens_past_commas 0 0 l))) (sym w.whole)
    each end (suc k) h =
        q.each end k (omega (arith, h))
        ∙ ap (λ l. Some (offset_of end l)) (sym (ap (tokens_past_commas 0 (suc k)) w.whole ∙ commas_by 0 k text.open_brace w.first w.others w.is ∙ p.commas 0 k))

after_comma : (us : List Token) (xs : List TokenSpan) (w : BeginsBy text.comma us xs) (ws : List Token) (n : ℕ) → AreCommands (λ k. k) ws w.others n → AreCommands suc ws xs n
after_comma us xs w ws n q = record {
  left = q.left;
  tokens = q.tokens;
  offsets = q.offsets;
  walk = ap (command_starts (in_control 2)) w.whole ∙ quiet (in_control 2) text.comma w.first w.others w.is refl ∙ q.walk;
  many = q.many;
  each = λ end k h. q.each end k h ∙ ap (λ l. Some (offset_of end l)) (sym (ap (tokens_past_commas 0 (suc k)) w.whole ∙ commas_by 0 k text.comma w.first w.others w.is ∙ ap (λ m. tokens_past_commas 0 m w.others) (let less : suc k - 1 ≡ k = omega arith in less)));
  stops = λ k. ap (after_stops (suc k)) w.whole ∙ stops_by k text.comma w.first w.others w.is ∙ q.stops k;
}

-- a term that is read as a command is a tuple
command_first : (v : Tree) (front rest us : List Token) (xs : List TokenSpan) (c : Command) (n : ℕ) → command_in v ≡ Some c → Derives front v → tokens_of xs ≡ (front ++ rest) ++ us
    → ((ys : List TokenSpan) → tokens_of ys ≡ rest ++ us → AreCommands suc us ys n) → AreCommands (λ k. k) us xs (suc n)
command_first (int k) front rest us xs c n is h e later = no_read _ c is
command_first (atom s) front rest us xs c n is h e later = no_read _ c is
command_first (pid k) front rest us xs c n is h e later = no_read _ c is
command_first (tuple vs) front rest us xs c n is h e later =
    let w = begins_by text.open_brace (h.0 ++ (rest ++ us)) xs (e ∙ append_assoc front rest us ∙ ap (λ l. l ++ (rest ++ us)) h.1) in
    let p = all_over text.close_brace close_brace_quiet h.0 vs h.2 (rest ++ us) w.others w.tokens in
    with_command (h.0 ++ (rest ++ us)) (rest ++ us) xs w p us n (later p.left p.tokens)
command_first (list vs) front rest us xs c n is h e later = no_read _ c is

rest_commands : (ts : List Token) (vs : Trees) → DerivesRest text.close_bracket ts vs → (cs : List Command) → each_in command_in (elements vs) ≡ Some cs → (us : List Token) (xs : List TokenSpan) → tokens_of xs ≡ ts ++ us → AreCommands suc us xs (length cs)
rest_commands ts none h cs r us xs e = no_commands suc us xs (begins_by text.close_bracket us xs (e ∙ ap (λ l. l ++ us) h)) cs (none_read command_in cs r)
rest_commands ts (more v vs) h cs r us xs e =
    let d = read_first command_in v (elements vs) cs r in
    let w = begins_by text.comma ((h.0 ++ h.1) ++ us) xs (e ∙ ap (λ l. l ++ us) h.2) in
    subst (λ l. AreCommands suc us xs (length l)) (sym d.whole)
    (after_comma ((h.0 ++ h.1) ++ us) xs w us (suc (length d.others))
    (command_first v h.0 h.1 us w.others d.first (length d.others) d.is h.3 w.tokens (λ ys g. rest_commands h.1 vs h.4 d.others d.each us ys g)))

all_commands : (ts : List Token) (vs : Trees) → DerivesAll text.close_bracket ts vs → (cs : List Command) → each_in command_in (elements vs) ≡ Some cs → (us : List Token) (xs : List TokenSpan) → tokens_of xs ≡ ts ++ us → AreCommands (λ k. k) us xs (length cs)
all_commands ts none h cs r us xs e = no_commands (λ k. k) us xs (begins_by text.close_bracket us xs (e ∙ ap (λ l. l ++ us) h)) cs (none_read command_in cs r)
all_commands ts (more v vs) h cs r us xs e =
    let d = read_first command_in v (elements vs) cs r in
    subst (λ l. AreCommands (λ k. k) us xs (length l)) (sym d.whole)
    (command_first v h.0 h.1 us xs d.first (length d.others) d.is h.3 (e ∙ ap (λ l. l ++ us) h.2) (λ ys g. rest_commands h.1 vs h.4 d.others d.each us ys g))

-- ---- the list of a control form

-- of these tokens, which are those of a list of so many commands: where the commands begin, and the tokens after the list
record InList (ts : List Token) (xs : List TokenSpan) (count : ℕ) : Type 0 where
  pub left : List TokenSpan
  pub tokens : tokens_of left ≡ ts
  pub offsets : List ℕ
  pub walk : command_starts (in_control 1) xs ≡ offsets ++ command_starts (in_control 1) left
  pub many : length offsets ≡ count
  pub each : (end k : ℕ) → k < count → slice_get offsets k ≡ Some (offset_of end (from_element (suc k) xs))
  pub stops : (k : ℕ) → after_stops (suc k) xs ≡ after_stops (suc k) left

in_brackets : (us vs : List Token) (xs : List TokenSpan) (w : BeginsBy text.open_bracket us xs) (n : ℕ) → AreCommands (λ k. k) vs w.others n → InList vs xs n
in_brackets us vs xs w n q = record {
  left = q.left;
  tokens = q.tokens;
  offsets = q.offsets;
  walk = ap (command_starts (in_control 1)) w.whole ∙ quiet (in_control 1) text.open_bracket w.first w.others w.is refl ∙ q.walk;
  many = q.many;
  each = λ end k h. q.each end k h ∙ ap (λ l. Some (offset_of end l)) (sym (element k));
  stops = λ k. ap (after_stops (suc k)) w.whole ∙ stops_by k text.open_bracket w.first w.others w.is ∙ q.stops k;
}
  where
    element : (k : ℕ) → from_element (suc k) xs ≡ tokens_past_commas 0 k w.others
    element k =
        ap (from_element (suc k)) w.whole
        ∙ ap (λ t. tokens_past_commas 0 (suc k - 1) (cond (is_opener (role_of t)) w.others (w.first ∷ w.others))) w.is
        ∙ ap (λ m. tokens_past_commas 0 m w.others) (let less : suc k - 1 ≡ k = omega arith in less)

no_codes : (s : List ℕ) (cs : List Command) → each_in command_in (elements (of_codes s)) ≡ Some cs → cs ≡ []
no_codes [] cs e = none_read command_in cs e
no_codes (c ∷ s) cs e = let d = read_first command_in (int (pos c)) (elements (of_codes s)) cs e in no_read _ d.first d.is

in_string : (us : List Token) (xs : List TokenSpan) (s : List ℕ) (w : BeginsBy (text.characters s) us xs) (cs : List Command) → cs ≡ [] → InList us xs (length cs)
in_string us xs s w cs e = record {
  left = w.others;
  tokens = w.tokens;
  offsets = [];
  walk = ap (command_starts (in_control 1)) w.whole ∙ quiet (in_control 1) (text.characters s) w.first w.others w.is refl;
  many = ap length (sym e);
  each = λ end k h. absurd (let none_there : length cs ≡ 0 = ap length e in omega (arith, h, none_there));
  stops = λ k. ap (after_stops (suc k)) w.whole ∙ stops_by k (text.characters s) w.first w.others w.is;
}

in_list : (ts : List Token) (v : Tree) (cs : List Command) → Derives ts v → commands_in v ≡ Some cs → (us : List Token) (xs : List TokenSpan) → tokens_of xs ≡ ts ++ us → InList us xs (length cs)
in_list ts (int k) cs h r us xs e = no_read _ cs r
in_list ts (atom s) cs h r us xs e = no_read _ cs r
in_list ts (pid k) cs h r us xs e = no_read _ cs r
in_list ts (tuple vs) cs h r us xs e = no_read _ cs r
in_list ts (list vs) cs (inl h) r us xs e =
    let w = begins_by text.open_bracket (h.0 ++ us) xs (e ∙ ap (λ l. l ++ us) h.1) in
    in_brackets (h.0 ++ us) us xs w (length cs) (all_commands h.0 vs h.2 cs r us w.others w.tokens)
in_list ts (list vs) cs (inr h) r us xs e =
    in_string us xs h.0 (begins_by (text.characters h.0) us xs (e ∙ ap (λ l. l ++ us) h.1)) cs (no_codes h.0 cs (subst (λ l. each_in command_in (elements l) ≡ Some cs) h.2 r))

-- ---- one form

-- of these tokens, which are those of a form and its full stop: where the form's commands begin, and the tokens after it
record OfForm (f : Form) (ts : List Token) (xs : List TokenSpan) : Type 0 where
  pub left : List TokenSpan
  pub tokens : tokens_of left ≡ ts
  pub offsets : List ℕ
  pub walk : command_starts before_form xs ≡ offsets ++ command_starts before_form left
  pub many : length offsets ≡ length (commands_of_form f)
  pub each : (end k : ℕ) → k < length (commands_of_form f) → slice_get offsets k ≡ Some (offset_of end (from_element (suc k) (from_element 2 xs)))
  pub stops : (k : ℕ) → after_stops (suc k) xs ≡ after_stops k left

-- the commands that stand in a term {control,Commands}
record IsControl (us : Trees) (f : Form) : Type 0 where
  pub word : Name
  pub value : Tree
  pub commands : List Command
  pub whole : us ≡ more (atom word) (more value none)
  pub spelled : bytes_eq word (codes "control") ≡ true
  pub read : commands_in value ≡ Some commands
  pub form : f ≡ controls commands

control_by : (tag v : Tree) (o : Option (List Command)) (f : Form) → commands_in v ≡ o → is_atom_of (codes "control") tag ≡ true → option_map controls o ≡ Some f → IsControl (more tag (more v none)) f
control_by (int n) v o f e is r = absurd (let denied : false ≡ true = is in cc)
control_by (atom s) v None f e is r = no_read _ f r
control_by (atom s) v (Some cs) f e is r = record { word = s; value = v; commands = cs; whole = refl; spelled = is; read = e; form = sym (same_read (controls cs) f r) }
control_by (pid n) v o f e is r = absurd (let denied : false ≡ true = is in cc)
control_by (tuple us) v o f e is r = absurd (let denied : false ≡ true = is in cc)
control_by (list us) v o f e is r = absurd (let denied : false ≡ true = is in cc)

control_of : (us : Trees) (f : Form) → is_tagged "control" (elements us) ≡ true → control_in (elements us) ≡ Some f → IsControl us f
control_of none f is r = no_read _ f r
control_of (more t none) f is r = no_read _ f r
control_of (more t (more v none)) f is r = control_by t v (commands_in v) f refl is r
control_of (more t (more v (more w us))) f is r = no_read _ f r

-- after the first three tokens, `{`, `control` and `,`, stands the list, and after it `}` and the full stop
of_list : (f : Form) (us ts zs : List Token) (xs : List TokenSpan) (a : BeginsBy text.open_brace ts xs) (s : Name) (b : BeginsBy (text.atom s) us a.others) (vs : List Token) (c : BeginsBy text.comma vs b.others)
    → bytes_eq s (codes "control") ≡ true → InList (text.close_brace ∷ text.stop ∷ zs) c.others (length (commands_of_form f)) → OfForm f zs xs
of_list f us ts zs xs a s b vs c spelled q =
    let d = begins_by text.close_brace (text.stop ∷ zs) q.left q.tokens in
    let e = begins_by text.stop zs d.others d.tokens in
    let walk_left : command_starts (in_control 1) q.left ≡ command_starts before_form e.others =
    ap (command_starts (in_control 1)) d.whole ∙ quiet (in_control 1) text.close_brace d.first d.others d.is refl
    ∙ ap (command_starts (in_control 0)) e.whole ∙ quiet (in_control 0) text.stop e.first e.others e.is refl in
    let walk_list : command_starts before_form xs ≡ command_starts (in_control 1) c.others =
    ap (command_starts before_form) a.whole ∙ quiet before_form text.open_brace a.first a.others a.is refl
    ∙ ap (command_starts at_tag) b.whole ∙ quiet at_tag (text.atom s) b.first b.others b.is refl
    ∙ ap (λ t. command_starts (cond t (in_control 1) in_other_form) b.others) spelled
    ∙ ap (command_starts (in_control 1)) c.whole ∙ quiet (in_control 1) text.comma c.first c.others c.is refl in
    let stops_list : (k : ℕ) → after_stops (suc k) xs ≡ after_stops (suc k) c.others = λ k.
    ap (after_stops (suc k)) a.whole ∙ stops_by k text.open_brace a.first a.others a.is
    ∙ ap (after_stops (suc k)) b.whole ∙ stops_by k (text.atom s) b.first b.others b.is
    ∙ ap (after_stops (suc k)) c.whole ∙ stops_by k text.comma c.first c.others c.is in
    let stops_left : (k : ℕ) → after_stops (suc k) q.left ≡ after_stops k e.others = λ k.
    ap (after_stops (suc k)) d.whole ∙ stops_by k text.close_brace d.first d.others d.is
    ∙ ap (after_stops (suc k)) e.whole ∙ stops_by k text.stop e.first e.others e.is in
    let second : from_element 2 xs ≡ c.others =
    ap (from_element 2) a.whole ∙ ap (λ t. tokens_past_commas 0 1 (cond (is_opener (role_of t)) a.others (a.first ∷ a.others))) a.is
    ∙ ap (tokens_past_commas 0 1) b.whole ∙ commas_by 0 0 (text.atom s) b.first b.others b.is
    ∙ ap (tokens_past_commas 0 1) c.whole ∙ commas_by 0 0 text.comma c.first c.others c.is ∙ at_once c.others in
    record {
      left = e.others;
      tokens = e.tokens;
      offsets = q.offsets;
      walk = walk_list ∙ q.walk ∙ ap (λ l. q.offsets ++ l) walk_left;
      many = q.many;
      each = λ end k h. q.each end k h ∙ ap (λ l. Some (offset_of end (from_element (suc k) l))) (sym second);
      stops = λ k. stops_list k ∙ q.stops k ∙ stops_left k;
    }
  where
    at_once : (ys : List TokenSpan) → tokens_past_commas 0 0 ys ≡ ys
    at_once [] = refl
    at_once (y ∷ ys) = refl

control_form : (ts zs : List Token) (f : Form) (xs : List TokenSpan) (s : Name) (v : Tree) (cs : List Command) → bytes_eq s (codes "control") ≡ true → commands_in v ≡ Some cs → f ≡ controls cs
    → Derives ts (tuple (more (atom s) (more v none))) → tokens_of xs ≡ ts ++ text.stop ∷ zs → OfForm f zs xs
control_form ts zs f xs s v cs spelled read form h e =
    let all = h.2 in
    let rest = all.4 in
    let us : List Token = text.stop ∷ zs in
    let a = begins_by text.open_brace (h.0 ++ us) xs (e ∙ ap (λ l. l ++ us) h.1) in
    let b = begins_by (text.atom s) (all.1 ++ us) a.others (a.tokens ∙ ap (λ l. l ++ us) (all.2 ∙ ap (λ l. l ++ all.1) all.3)) in
    let c = begins_by text.comma ((rest.0 ++ rest.1) ++ us) b.others (b.tokens ∙ ap (λ l. l ++ us) rest.2) in
    let q = in_list rest.0 v cs rest.3 read (text.close_brace ∷ us) c.others (c.tokens ∙ append_assoc rest.0 rest.1 us ∙ ap (λ l. rest.0 ++ (l ++ us)) rest.4) in
    of_list f (all.1 ++ us) (h.0 ++ us) zs xs a s b ((rest.0 ++ rest.1) ++ us) c spelled (subst (λ g. InList (text.close_brace ∷ us) c.others (length (commands_of_form g))) (sym form) q)

-- ---- a form of another kind

-- the first of these tokens says that the form is of another kind
of_other_kind : (t : Token) (us : List Token) (xs : List TokenSpan) → BeginsBy t us xs → place_after_token at_tag t ≡ in_other_form → begins_command at_tag t ≡ false → begins_command in_other_form t ≡ false → place_after_token in_other_form t ≡ in_other_form
    → command_starts at_tag xs ≡ command_starts in_other_form xs
of_other_kind t us xs w tag first other after =
    ap (command_starts at_tag) w.whole ∙ quiet at_tag t w.first w.others w.is first ∙ ap (λ p. command_starts p w.others) (tag ∙ sym after)
    ∙ sym (quiet in_other_form t w.first w.others w.is other) ∙ ap (command_starts in_other_form) (sym w.whole)

first_term : (v : Tree) (ts : List Token) → Derives ts v → is_atom_of (codes "control") v ≡ false → (us : List Token) (xs : List TokenSpan) → tokens_of xs ≡ ts ++ us → command_starts at_tag xs ≡ command_starts in_other_form xs
first_term (int k) ts h other us xs e = of_other_kind (text.integer k) us xs (begins_by (text.integer k) us xs (e ∙ ap (λ l. l ++ us) h)) refl refl refl refl
first_term (atom s) ts h other us xs e = of_other_kind (text.atom s) us xs (begins_by (text.atom s) us xs (e ∙ ap (λ l. l ++ us) h)) (ap (λ b. cond b (in_control 1) in_other_form) other) refl refl refl
first_term (pid k) ts h other us xs e = of_other_kind (text.pid k) us xs (begins_by (text.pid k) us xs (e ∙ ap (λ l. l ++ us) h)) refl refl refl refl
first_term (tuple vs) ts h other us xs e = of_other_kind text.open_brace (h.0 ++ us) xs (begins_by text.open_brace (h.0 ++ us) xs (e ∙ ap (λ l. l ++ us) h.1)) refl refl refl refl
first_term (list vs) ts (inl h) other us xs e = of_other_kind text.open_bracket (h.0 ++ us) xs (begins_by text.open_bracket (h.0 ++ us) xs (e ∙ ap (λ l. l ++ us) h.1)) refl refl refl refl
first_term (list vs) ts (inr h) other us xs e = of_other_kind (text.characters h.0) us xs (begins_by (text.characters h.0) us xs (e ∙ ap (λ l. l ++ us) h.1)) refl refl refl refl

first_element : (ws : Trees) (ts : List Token) → DerivesAll text.close_brace ts ws → is_tagged "control" (elements ws) ≡ false → (us : List Token) (xs : List TokenSpan) → tokens_of xs ≡ ts ++ us → command_starts at_tag xs ≡ command_starts in_other_form xs
first_element none ts h other us xs e = of_other_kind text.close_brace us xs (begins_by text.close_brace us xs (e ∙ ap (λ l. l ++ us) h)) refl refl refl refl
first_element (more v vs) ts h other us xs e = first_term v h.0 h.3 other (h.1 ++ us) xs (e ∙ ap (λ l. l ++ us) h.2 ∙ append_assoc h.0 h.1 us)

other_form : (ts zs : List Token) (ws : Trees) (f : Form) (xs : List TokenSpan) → is_tagged "control" (elements ws) ≡ false → commands_of_form f ≡ [] → Derives ts (tuple ws) → tokens_of xs ≡ ts ++ text.stop ∷ zs → OfForm f zs xs
other_form ts zs ws f xs other without h e =
    let us : List Token = text.stop ∷ zs in
    let a = begins_by text.open_brace (h.0 ++ us) xs (e ∙ ap (λ l. l ++ us) h.1) in
    let p = all_over text.close_brace close_brace_quiet h.0 ws h.2 us a.others a.tokens in
    let b = begins_by text.stop zs p.left p.tokens in
    record {
      left = b.others;
      tokens = b.tokens;
      offsets = [];
      walk = ap (command_starts before_form) a.whole ∙ quiet before_form text.open_brace a.first a.others a.is refl ∙ first_element ws h.0 h.2 other us a.others a.tokens ∙ p.others
          ∙ ap (command_starts in_other_form) b.whole ∙ quiet in_other_form text.stop b.first b.others b.is refl;
      many = ap length (sym without);
      each = λ end k g. absurd (let none_there : length (commands_of_form f) ≡ 0 = ap length without in omega (arith, g, none_there));
      stops = λ k. ap (after_stops (suc k)) a.whole ∙ stops_by k text.open_brace a.first a.others a.is ∙ p.stops k ∙ ap (after_stops (suc k)) b.whole ∙ stops_by k text.stop b.first b.others b.is;
    }

-- ---- which form a term is

-- a word is no other word
not_other : (word other : List ℕ) → bytes_eq word other ≡ false → (s : Name) → bytes_eq s word ≡ true → bytes_eq s other ≡ false
not_other word other differ s e = ap (λ u. bytes_eq u other) ((bytes_eq-Decides s word).0 e) ∙ differ

no_function : (ts : List Tree) → is_tagged "control" ts ≡ true → is_tagged "function" ts ≡ false
no_function [] e = refl
no_function (int n ∷ ts) e = refl
no_function (atom s ∷ ts) e = not_other (codes "control") (codes "function") refl s e
no_function (pid n ∷ ts) e = refl
no_function (tuple us ∷ ts) e = refl
no_function (list us ∷ ts) e = refl

no_process : (ts : List Tree) → is_tagged "control" ts ≡ true → is_tagged "process" ts ≡ false
no_process [] e = refl
no_process (int n ∷ ts) e = refl
no_process (atom s ∷ ts) e = not_other (codes "control") (codes "process") refl s e
no_process (pid n ∷ ts) e = refl
no_process (tuple us ∷ ts) e = refl
no_process (list us ∷ ts) e = refl

declares_without : (a : Option (List Step → Function)) (b : Option (List Step)) (f : Form) → both (λ make ss. declares (make ss)) a b ≡ Some f → commands_of_form f ≡ []
declares_without None b f e = no_read _ f e
declares_without (Some make) None f e = no_read _ f e
declares_without (Some make) (Some ss) f e = ap commands_of_form (sym (same_read (declares (make ss)) f e))

function_without : (ts : List Tree) (f : Form) → function_in ts ≡ Some f → commands_of_form f ≡ []
function_without [] f e = no_read _ f e
function_without (a ∷ []) f e = no_read _ f e
function_without (a ∷ b ∷ []) f e = no_read _ f e
function_without (a ∷ b ∷ c ∷ []) f e = no_read _ f e
function_without (a ∷ b ∷ c ∷ d ∷ []) f e = no_read _ f e
function_without (a ∷ b ∷ c ∷ d ∷ g ∷ []) f e = no_read _ f e
function_without (a ∷ b ∷ c ∷ d ∷ g ∷ h ∷ []) f e = declares_without (all_four function_from (name_in b) (name_in c) (exported_in d) (params_in g)) (steps_in h) f e
function_without (a ∷ b ∷ c ∷ d ∷ g ∷ h ∷ i ∷ ts) f e = no_read _ f e

starts_without : (o : Option Entry) (f : Form) → option_map starts o ≡ Some f → commands_of_form f ≡ []
starts_without None f e = no_read _ f e
starts_without (Some n) f e = ap commands_of_form (sym (same_read (starts n) f e))

process_without : (ts : List Tree) (f : Form) → process_in ts ≡ Some f → commands_of_form f ≡ []
process_without [] f e = no_read _ f e
process_without (a ∷ []) f e = no_read _ f e
process_without (a ∷ b ∷ []) f e = no_read _ f e
process_without (a ∷ b ∷ c ∷ []) f e = no_read _ f e
process_without (a ∷ b ∷ c ∷ d ∷ []) f e = starts_without (all_three entry_from (name_in b) (name_in c) (args_in d)) f e
process_without (a ∷ b ∷ c ∷ d ∷ g ∷ ts) f e = no_read _ f e

other_without : (ts : List Tree) (f : Form) (is_function is_process : Bool) → cond is_function (function_in ts) (cond is_process (process_in ts) None) ≡ Some f → commands_of_form f ≡ []
other_without ts f true b e = function_without ts f e
other_without ts f false true e = process_without ts f e
other_without ts f false false e = no_read _ f e

form_by : (ts zs : List Token) (ws : Trees) (f : Form) (xs : List TokenSpan) (c : Bool) → is_tagged "control" (elements ws) ≡ c → form_in (tuple ws) ≡ Some f → Derives ts (tuple ws) → tokens_of xs ≡ ts ++ text.stop ∷ zs → OfForm f zs xs
form_by ts zs ws f xs false is r h e =
    other_form ts zs ws f xs is
    (other_without (elements ws) f (is_tagged "function" (elements ws)) (is_tagged "process" (elements ws))
    (ap (λ b. cond (is_tagged "function" (elements ws)) (function_in (elements ws)) (cond (is_tagged "process" (elements ws)) (process_in (elements ws)) (cond b (control_in (elements ws)) None))) (sym is) ∙ r)) h e
form_by ts zs ws f xs true is r h e =
    let i = control_of ws f is
    (ap₂ (λ a b. cond a (function_in (elements ws)) (cond b (process_in (elements ws)) (control_in (elements ws)))) (sym (no_function (elements ws) is)) (sym (no_process (elements ws) is))
    ∙ ap (λ b. cond (is_tagged "function" (elements ws)) (function_in (elements ws)) (cond (is_tagged "process" (elements ws)) (process_in (elements ws)) (cond b (control_in (elements ws)) None))) (sym is) ∙ r) in
    control_form ts zs f xs i.word i.value i.commands i.spelled i.read i.form (subst (λ l. Derives ts (tuple l)) i.whole h) e

one_form : (ts zs : List Token) (u : Tree) (f : Form) (xs : List TokenSpan) → form_in u ≡ Some f → Derives ts u → tokens_of xs ≡ ts ++ text.stop ∷ zs → OfForm f zs xs
one_form ts zs (int n) f xs r h e = no_read _ f r
one_form ts zs (atom s) f xs r h e = no_read _ f r
one_form ts zs (pid n) f xs r h e = no_read _ f r
one_form ts zs (tuple ws) f xs r h e = form_by ts zs ws f xs (is_tagged "control" (elements ws)) refl r h e
one_form ts zs (list ws) f xs r h e = no_read _ f r

-- ---- all forms

-- of these tokens, which are those of the forms: how many commands begin, and where each does
record OfForms (fs : List Form) (xs : List TokenSpan) : Type 0 where
  pub many : length (command_starts before_form xs) ≡ length (commands_of fs)
  pub each : (end : ℕ) (earlier later : List Form) (cs : List Command) (k : ℕ) → fs ≡ earlier ++ controls cs ∷ later → k < length cs
      → slice_get (command_starts before_form xs) (length (commands_of earlier) + k) ≡ Some (offset_of end (from_element (suc k) (from_element 2 (after_stops (length earlier) xs))))

no_forms : (xs : List TokenSpan) (fs : List Form) → tokens_of xs ≡ [] → fs ≡ [] → OfForms fs xs
no_forms [] fs e none_there = record {
  many = ap (λ gs. length (commands_of gs)) (sym none_there);
  each = λ end earlier later cs k whole h. absurd (in_none earlier later cs (sym none_there ∙ whole));
}
  where
    in_none : (earlier later : List Form) (cs : List Command) → [] ≡ earlier ++ controls cs ∷ later → ⊥
    in_none [] later cs e = cc
    in_none (g ∷ earlier) later cs e = cc
no_forms (x ∷ xs) fs e none_there = absurd (let one_there : x.token ∷ tokens_of xs ≡ [] = e in cc)

with_form : (f : Form) (fs : List Form) (zs : List Token) (xs : List TokenSpan) (q : OfForm f zs xs) → OfForms fs q.left → OfForms (f ∷ fs) xs
with_form f fs zs xs q later_forms = record {
  many = ap length q.walk ∙ length-append q.offsets (command_starts before_form q.left) ∙ ap₂ (λ a b. a + b) q.many later_forms.many ∙ sym (length-append (commands_of_form f) (commands_of fs));
  each = each;
}
  where
    each : (end : ℕ) (earlier later : List Form) (cs : List Command) (k : ℕ) → f ∷ fs ≡ earlier ++ controls cs ∷ later → k < length cs
        → slice_get (command_starts before_form xs) (length (commands_of earlier) + k) ≡ Some (offset_of end (from_element (suc k) (from_element 2 (after_stops (length earlier) xs))))
    each end [] later cs k whole h =
        let form : f ≡ controls cs = cc in
        let most : k < length (commands_of_form f) = subst (λ g. k < length (commands_of_form g)) (sym form) h in
        ap₂ slice_get q.walk (let n : 0 + k ≡ k = omega arith in n)
        ∙ among_first q.offsets (command_starts before_form q.left) k (let e = q.many in omega (arith, most, e))
        ∙ q.each end k most
    each end (g ∷ earlier) later cs k whole h =
        let form : f ≡ g = cc in
        let forms : fs ≡ earlier ++ controls cs ∷ later = cc in
        let count : length (commands_of (g ∷ earlier)) + k ≡ length q.offsets + (length (commands_of earlier) + k) =
        ap (λ n. n + k) (length-append (commands_of_form g) (commands_of earlier) ∙ ap (λ n. n + length (commands_of earlier)) (ap (λ e. length (commands_of_form e)) (sym form) ∙ sym q.many)) ∙ (let n : (length q.offsets + length (commands_of earlier)) + k ≡ length q.offsets + (length (commands_of earlier) + k) = omega arith in n) in
        ap₂ slice_get q.walk count
        ∙ past_first q.offsets (command_starts before_form q.left) (length (commands_of earlier) + k)
        ∙ later_forms.each end earlier later cs k forms h
        ∙ ap (λ l. Some (offset_of end (from_element (suc k) (from_element 2 l)))) (sym (q.stops (length earlier)))

all_forms : (us : List Tree) (ts : List Token) (fs : List Form) (xs : List TokenSpan) → DerivesScript ts us → forms_in us ≡ Some fs → tokens_of xs ≡ ts → OfForms fs xs
all_forms [] ts fs xs h r e = no_forms xs fs (e ∙ h) (none_read form_in fs r)
all_forms (u ∷ us) ts fs xs h r e =
    let d = read_first form_in u us fs r in
    let q = one_form h.0 h.1 u d.first xs d.is h.3 (e ∙ h.2) in
    subst (λ gs. OfForms gs xs) (sym d.whole) (with_form d.first d.others h.1 xs q (all_forms us h.1 d.others q.left h.4 d.each q.tokens))

of_text : (bytes : List ℕ) (fs : List Form) (xs : List TokenSpan) → SpellsForms bytes fs → Tokens bytes xs → OfForms fs xs
of_text bytes fs xs s are =
    all_forms s.terms (tokens_of s.spelled.tokens) fs xs s.spelled.derives s.shaped (ap tokens_of (same_tokens 0 bytes xs s.spelled.tokens are s.spelled.are))

pub starts_are_all : CommandStartsAreAll
starts_are_all bytes fs xs s are = (of_text bytes fs xs s are).many

-- ---- an item

item_of : (i : FormItem) (n position number : ℕ) (xs : List TokenSpan) → IsItemOfCommand i position number → from_item n i xs ≡ from_element position (from_element 2 (after_stops (n - 1) xs))
item_of (step k) n position number xs h = absurd h
item_of (command k) n position number xs h = ap (λ p. from_element p (from_element 2 (after_stops (n - 1) xs))) h
item_of (numbered_command k m) n position number xs h = ap (λ p. from_element p (from_element 2 (after_stops (n - 1) xs))) h.0

pub begins_at_item : CommandBeginsAtItem
begins_at_item bytes fs xs i n position number at s are c o b =
    let k : ℕ = position - 1 in
    let least = c.least in
    let most = c.most in
    let counted = c.counted in
    let form = c.form in
    let one : suc k ≡ position = omega (arith, least) in
    let index : number - 1 ≡ length (commands_of c.earlier) + k = omega (arith, least, counted) in
    let before : n - 1 ≡ length c.earlier = omega (arith, form) in
    ap (slice_get (command_starts before_form xs)) index
    ∙ (of_text bytes fs xs s are).each (length bytes) c.earlier c.later c.commands k c.whole (omega (arith, least, most))
    ∙ ap₂ (λ p m. Some (offset_of (length bytes) (from_element p (from_element 2 (after_stops m xs))))) one (sym before)
    ∙ ap (λ l. Some (offset_of (length bytes) l)) (sym (item_of i n position number xs o))
    ∙ ap (λ l. Some (offset_of (length bytes) (from_item n i l))) (same_tokens 0 bytes xs b.tokens are b.are)
    ∙ ap Some (sym b.offset)

-- Messages that are lent, and rows of words.
use Rattle.std.specs.Prelude.{◌≡◌, ◌||◌, ◌++◌, Bool, List, map}
use Rattle.std.specs.Borrow.{Bor}
use Rattle.std.specs.declared.vec.Vec.{Vec}
use Rattle.def_term.specs.Tree.{Tree}
use Rattle.tn_messages.specs.MessageViews.{message_tree}
use Rattle.tn_messages.specs.declared.shared_message.SharedMessage.{SharedMessage}
use Rattle.json.specs.Json.{Json}
use Rattle.def_formats.specs.JsonRows.{json_line}
use Rattle.tn_answers.specs.declared.word_rows.WordRows.{WordRows}

abbrev pub lent_message : {A : Type 0} → Bor (SharedMessage A) → Tree
lent_message m = message_tree m.now

abbrev pub lent_messages : {A B : Type 0} → Vec (Bor (SharedMessage A)) B → List Tree
lent_messages v = map lent_message v.items

-- a row comes after those before it, and its demand is refuted or one before it is
pub record AddsWord {A : Type 0} (old : WordRows A) (row : Json) (refuted : Bool) (new : WordRows A) : Type 0 where
  pub rows : new.out.lines.items ≡ old.out.lines.items ++ json_line row
  pub refuted_too : new.is_refuted ≡ (old.is_refuted || refuted)

-- Two answers about one word.
use Rattle.std.proofs.Common.{◌≡◌, ◌∙◌, ℕ, List, Option, Some, None, refl, sym, ap}
use Rattle.std.specs.Prelude.{SomeIff}
use Rattle.std.specs.Borrow.{Bor}
use Rattle.tn_command.specs.Sources.{IsSourceOf}
use Rattle.tn_command.specs.declared.source.Source.{Source}
use Rattle.tn_command.specs.declared.source.Source.TheVariants.{Input, File}
use Rattle.complete_command.specs.Words.{source_seen, word_seen}

pub one_value : {T : Type 0} (P : Type 0) (v : T) (a b : Option T) → SomeIff a P v → SomeIff b P v → a ≡ b
one_value P v None None h i = refl
one_value P v None (Some y) h i = absurd (h i.0)
one_value P v (Some x) None h i = absurd (i h.0)
one_value P v (Some x) (Some y) h i = ap Some (h.1 ∙ sym i.1)

input_file : {P : Type 0} (w : Bor (List ℕ)) → Input ≡ File w → P
input_file w e = cc

-- a word that names a file has the file's path
path_is : (w path : Bor (List ℕ)) → IsSourceOf (Some w) (File path) → Some path.now ≡ word_seen (Some w)
path_is w path h = ap source_seen (h.1 (λ e. input_file path (sym (h.0 e))))

-- two words with the same bytes don't name standard input and a file
not_both : {P : Type 0} (w v path : Bor (List ℕ)) → w.now ≡ v.now → IsSourceOf (Some w) Input → IsSourceOf (Some v) (File path) → P
not_both w v path e h i = input_file w (h.1 (λ k. input_file path (sym (i.0 (sym e ∙ k)))))

bytes_are : (w v : Bor (List ℕ)) → word_seen (Some w) ≡ word_seen (Some v) → w.now ≡ v.now
bytes_are w v e = cc

none_word : {P : Type 0} (w : Bor (List ℕ)) → None ≡ word_seen (Some w) → P
none_word w e = cc

pub one_source : (word other : Option (Bor (List ℕ))) (a b : Source) → word_seen word ≡ word_seen other → IsSourceOf word a → IsSourceOf other b → source_seen a ≡ source_seen b
one_source None None a b e h i = ap source_seen (h ∙ sym i)
one_source None (Some v) a b e h i = none_word v e
one_source (Some w) None a b e h i = none_word w (sym e)
one_source (Some w) (Some v) Input Input e h i = refl
one_source (Some w) (Some v) Input (File path) e h i = not_both w v path (bytes_are w v e) h i
one_source (Some w) (Some v) (File path) Input e h i = not_both v w path (sym (bytes_are w v e)) i h
one_source (Some w) (Some v) (File path) (File other) e h i = path_is w path h ∙ e ∙ sym (path_is v other i)

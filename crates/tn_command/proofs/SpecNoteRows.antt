-- Lists that were probably meant as calls, and lists of another length, computed.
use Rattle.std.proofs.Common.{◌≡◌, [], Some, None, pos, codes, refl}
use Rattle.std.specs.Fmt.{digits}
use Rattle.def_term.specs.Tree.{Tree, int, tuple, list, Trees, none, more, triple}
use Rattle.def_term.specs.Names.{word}
use Rattle.def_term.specs.Text.{is_written_bare}
use Rattle.def_spec.specs.Expressions.{for_calls, for_sends, for_receives, in_condition, in_body}
use Rattle.tn_command.specs.SpecNotes.{CallShape, call_in_list, list_in_part, list_as_call, list_length_of, other_length, call_text, call_words, list_words, list_note, spec_notes}

abbrev one : Tree → Trees
one t = more t none

-- {'_',[C,..],[B,..]}
abbrev clause : (conditions body : Trees) → Tree
clause cs bs = triple (word "_") (list cs) (list bs)

-- [return_trace]
abbrev listed : Tree
listed = list (one (word "return_trace"))

-- ['>','$1',1]
abbrev compared : Tree
compared = list (more (word ">") (more (word "$1") (one (int (pos 1)))))

abbrev returns : CallShape
returns = record { name = codes "return_trace"; arguments = 0 }

abbrev compares : CallShape
compares = record { name = codes ">"; arguments = 2 }

-- ---- terms

row-name : call_in_list listed ≡ Some returns
row-name = refl

row-arguments : call_in_list compared ≡ Some compares
row-arguments = refl

-- another number of arguments
row-count : call_in_list (list (more (word ">") (one (word "$1")))) ≡ None
row-count = refl

-- the name of no function
row-other : call_in_list (list (more (word "a") (one (word "b")))) ≡ None
row-other = refl

-- a function that isn't supported
row-unsupported : call_in_list (list (one (word "display"))) ≡ None
row-unsupported = refl

-- {return_trace} itself, and [[return_trace]]
row-call : call_in_list (tuple (one (word "return_trace"))) ≡ None
row-call = refl

row-nested : call_in_list (list (one listed)) ≡ None
row-nested = refl

-- ---- specifications

row-body : list_as_call (list (one (clause none (one listed)))) ≡ Some (0, list_in_part in_body (0, returns))
row-body = refl

-- the second condition, after one that is a call, and before the body
row-condition : list_as_call (list (one (clause (more (tuple (more (word "is_atom") (one (word "a")))) (one compared)) (one listed)))) ≡ Some (0, list_in_part in_condition (1, compares))
row-condition = refl

-- the first clause that has one
row-clause : list_as_call (list (more (clause (one (word "true")) none) (more (clause none (more (word "a") (one listed))) (one (clause (one listed) none))))) ≡ Some (1, list_in_part in_body (1, returns))
row-clause = refl

row-none : list_as_call (list (one (clause none (one (tuple (one (word "return_trace"))))))) ≡ None
row-none = refl

-- ---- lengths

row-send : other_length (list_length_of for_sends) 3 ≡ Some 2
row-send = refl

row-two : other_length (list_length_of for_sends) 2 ≡ None
row-two = refl

row-receive : other_length (list_length_of for_receives) 2 ≡ Some 3
row-receive = refl

row-calls : other_length (list_length_of for_calls) 0 ≡ None
row-calls = refl

-- ---- texts

row-call-text : call_text returns ≡ codes "{return_trace}"
unfolding is_written_bare
row-call-text = refl

row-quoted : call_text compares ≡ codes "{'>',..}"
unfolding is_written_bare
row-quoted = refl

row-note : list_note (0, list_in_part in_body (1, returns)) ≡ codes "note: clause 1: body 2 is a list, not a call; a call is written {return_trace}\n"
unfolding list_words call_words is_written_bare digits
row-note = refl

row-notes : spec_notes for_sends (list none) (list (one (clause (one compared) none)))
    ≡ codes "note: clause 1: condition 1 is a list, not a call; a call is written {'>',..}\nnote: the list of a send has 2 elements, found 0\n"
unfolding list_words call_words is_written_bare digits
row-notes = refl

row-receives : spec_notes for_receives (list (one (word "a"))) (list (one (clause none none))) ≡ codes "note: the list of a receive has 3 elements, found 1\n"
unfolding digits
row-receives = refl

-- nothing for calls of any length
row-nothing : spec_notes for_calls (list (one (word "a"))) (list (one (clause none none))) ≡ []
row-nothing = refl

use Rattle.std.proofs.Common.{◌≡◌, ◌++◌, drop}
use Rattle.def_picture.specs.Templates.{xml_text}
use Rattle.tn_picture.proofs.templates.put_xml.Given as goal

abbrev pub invariant-loop-byte : goal.invariant-loop-byte
invariant-loop-byte g l = l.out.items ++ xml_text (drop l.byte-index l.text) ≡ l.fn.out.items ++ xml_text l.text

use Rattle.def_picture.proofs.Contents.{xml_text_is_content}
use Rattle.def_picture.proofs.a_content_has_no_markup.Goals as goal

pub returns : goal.returns
returns c = xml_text_is_content

-- The tokens of JSON that are written of a row of a picture.
use Rattle.std.specs.Prelude.{List, ◌++◌, codes}
use Rattle.json.specs.Token.{Token}
use Rattle.def_formats.specs.JsonRows.{text_value, number_value}
use Rattle.def_picture.specs.Picture.{Life, Shape}
use Rattle.def_picture.specs.JsonPicture.{shape_word, shape_process, shape_target, shape_depth, pid_value, value_or_null}
use Rattle.tn_formats.specs.Tokens.{json_member}

-- of the shape of a row
abbrev pub shape_tokens : Shape → List Token
shape_tokens s =
    json_member (codes "shape") (text_value (shape_word s)) ++ json_member (codes "pid") (value_or_null pid_value (shape_process s))
    ++ json_member (codes "to") (value_or_null pid_value (shape_target s)) ++ json_member (codes "depth") (value_or_null number_value (shape_depth s))

-- of the rows of a life
abbrev pub span_tokens : Life → List Token
span_tokens l = json_member (codes "first") (number_value l.first) ++ json_member (codes "last") (number_value l.last)

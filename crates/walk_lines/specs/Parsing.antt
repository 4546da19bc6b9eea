-- What a parsed line asks for.
use Rattle.std.specs.Prelude.{vec_items}
use Rattle.walk_lines.specs.declared.request.Request.{Request}
use Rattle.walk_lines.specs.Requests.{Asked}

abbrev pub asked : Request → Asked
asked q = record { kind = q.kind; key = vec_items q.key; iv = vec_items q.iv; places = vec_items q.places }

-- What a parsed line asks for.
use Rattle.std.specs.Prelude.{vec_items}
use Rattle.query.specs.declared.Query.{Query}
use Rattle.query.specs.Queries.{Asked}

abbrev pub asked : Query → Asked
asked q =
    record { kind = q.kind; key = vec_items q.key; iv = vec_items q.iv; from = q.from; count = q.count }

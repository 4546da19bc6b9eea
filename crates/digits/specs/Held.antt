-- What the head of a line holds.
use Rattle.digits.specs.declared.line.Head.{Head}
use Rattle.digits.specs.Lines.{Heading}

abbrev pub headed : {K : Type 0} → Head K → Heading K
headed h = record { kind = h.kind; key = h.key.now; iv = h.iv.now; rest = h.rest.now }

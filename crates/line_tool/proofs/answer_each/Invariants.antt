use Rattle.std.specs.Io.Buffered.{reader_remaining}
use Rattle.std.specs.Io.Iter.{bytes_remaining}
use Rattle.line_tool.proofs.Printing.{Going}
use Rattle.line_tool.proofs.answer_each.Given as goal

abbrev pub invariant-loop-b : goal.invariant-loop-b
invariant-loop-b g l =
    Going g.T.Tool.answers g.row.MOST (g.R.Read.remaining l.fn.input)
    (bytes_remaining (reader_remaining g.R.Read.remaining) l.b-iterator) l.pending
    (g.W.Write.contents l.fn.output) (g.W.Write.contents l.output)

use Rattle.std.proofs.Common.{◌≡◌, ◌++◌, take, vec_items}
use Rattle.std.specs.List.{flat_map}
use Rattle.walk_tool.specs.Texts.{spaced}
use Rattle.walk_tool.proofs.answer.words_text.Given as goal

abbrev pub invariant-loop-word : goal.invariant-loop-word
invariant-loop-word g l =
    vec_items l.text ≡ vec_items l.initial.text ++ flat_map (spaced g.W.Printed.bytes) (take l.word-index l.rest)

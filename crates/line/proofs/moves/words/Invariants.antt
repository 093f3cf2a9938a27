use Rattle.std.proofs.Common.{◌≡◌, ℕ, ◌<◌, List, ◌++◌, length, get_or}
use Rattle.line.specs.Lines.{word_of}
use Rattle.line.specs.Parts.{bits_of}
use Rattle.line.specs.Words.{Node}
use Rattle.sheet.specs.Views.{nodes_in}
use Rattle.line.proofs.moves.words.Given as goal

-- the words of the lines that were read, which are the last ones
abbrev pub invariant-loop-node : goal.invariant-loop-node
invariant-loop-node l =
    (length l.words ≡ 32)
    × ((tail : List Node) × (nodes_in l.sheet ≡ l.node-iterator.iter.rest.now ++ tail) × ((b : ℕ) → b < 32 → get_or l.words b 0 ≡ word_of l.wires (bits_of b tail)))

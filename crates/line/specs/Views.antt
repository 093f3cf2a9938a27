-- What a line stands for.
use Rattle.std.specs.Prelude.{Bool, true, List, [], take, Option, Some, None}
use Rattle.std.specs.Option.{is_some}
use Rattle.line.specs.Words.{Node, Model}
use Rattle.sheet.specs.declared.class.Class.TheVariants as Of
use Rattle.sheet.specs.Nodes.{count_of}
use Rattle.sheet.specs.Views.{nodes_in}
use Rattle.line.specs.declared.line.Line.{Line}
use Rattle.line.specs.declared.board.Board.{Board}
use Rattle.line.specs.Lines.{State}

-- the values of a board's flops: their table is read as far as the sheet has f lines
abbrev pub flops_of : Board → List Bool
flops_of b = take (count_of Of.Flop (nodes_in b.sheet)) b.flops

-- a line on which a board is mounted, by the belts of its bank
abbrev pub running : List Model → Board → State
running bank b = record { bank = bank; mounted = true; sheet = nodes_in b.sheet; flops = flops_of b }

-- the lines and the flops' values of what is mounted, if anything is
abbrev pub lines_on : Option Board → List Node
lines_on None = []
lines_on (Some b) = nodes_in b.sheet

abbrev pub flops_on : Option Board → List Bool
flops_on None = []
flops_on (Some b) = flops_of b

-- a line by the belts of its bank
abbrev pub seen : List Model → Option Board → State
seen bank o = record { bank = bank; mounted = is_some o; sheet = lines_on o; flops = flops_on o }

abbrev pub view : {B : Type 0} → (B → List Model) → Line B → State
view belts l = seen (belts l.bank) l.board

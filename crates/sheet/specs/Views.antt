-- What the structures stand for.
use Rattle.std.specs.Prelude.{List, take}
use Rattle.sheet.specs.Words.{Node}
use Rattle.sheet.specs.declared.sheet.Sheet.{Sheet}
use Rattle.sheet.specs.declared.sheet.draft.Draft.{Draft}

-- the lines of a sheet
abbrev pub nodes_in : Sheet → List Node
nodes_in s = take s.len s.nodes

-- the nodes read so far
abbrev pub so_far : Draft → List Node
so_far d = take d.len d.nodes

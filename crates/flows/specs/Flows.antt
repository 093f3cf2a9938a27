-- The flow of a belt: what it gains in a row of free wire values, as a form. Assumes nothing.
use Rattle.std.specs.Prelude.{ℕ, List, [], map, get_or, negsuc, count_by, slice_index_or}
use Rattle.std.specs.List.{range_with_len, position_or_len}
use Rattle.sheet.specs.declared.node.Node.{Node}
use Rattle.sheet.specs.Nodes.{is_belt, is_room_of, is_item_of, belts_of}
use Rattle.terms.specs.Forms.{Form, and_form, add_scaled}
use Rattle.forms.specs.Gates.{forms_of}

-- the wires that a belt's events look at; that of a part that is missing is the number of lines
pub record Ports : Type 0 where
  pub offer : ℕ
  pub room : ℕ
  pub take : ℕ
  pub item : ℕ

abbrev pub ports_of : List Node → ℕ → Ports
ports_of ns b = record {
  offer = (get_or (belts_of ns) b (0, 0)).0;
  room = position_or_len (is_room_of b) ns;
  take = (get_or (belts_of ns) b (0, 0)).1;
  item = position_or_len (is_item_of b) ns;
}

-- the form of the entering event, offer and room, less that of the leaving event, take and item
abbrev pub flow_by : List Form → Ports → Form
flow_by fs p =
    add_scaled (negsuc 0)
    (and_form (slice_index_or fs p.offer []) (slice_index_or fs p.room []))
    (and_form (slice_index_or fs p.take []) (slice_index_or fs p.item []))

-- a belt's flow
abbrev pub flow_of : List Node → ℕ → Form
flow_of ns b = flow_by (forms_of ns) (ports_of ns b)

-- the flows of a sheet's belts, in belt order
abbrev pub flows_of : List Node → List Form
flows_of ns = map (flow_of ns) (range_with_len 0 (count_by is_belt ns))

pub mod RackRows

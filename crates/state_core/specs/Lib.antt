-- What the states of networks, scopes and frozen networks are, a file a line.
pub mod Visits
pub mod CountedFunction
pub mod CountedForms
pub mod CountedContext
pub mod State
pub mod EmptyScope
pub mod StandsByForm
pub mod Stands
pub mod RowsView
pub mod ParamsView
pub mod CellCode
pub mod CellsView
pub mod StateCode
pub mod Tree
pub mod StateView
pub mod Depth
pub mod Deep

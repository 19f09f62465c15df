pub mod Rooms
pub mod Paths
pub mod Rounds
pub mod Arcs
pub mod Costs
pub mod Sets

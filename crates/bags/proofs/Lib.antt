-- The laws of bags in lists, which crates above cite: rows and columns of a list (Cells), items (Items), bags of participants and nodes
-- (Nodes), freeing (Freeing). What a turn of a loop does (Turns) only this crate cites.
pub mod Cells
pub mod Freeing
pub mod Items
pub mod Nodes
mod Turns

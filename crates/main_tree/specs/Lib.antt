pub mod EditedTrees

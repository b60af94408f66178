pub mod Tied
pub mod Spans
pub mod Counts
pub mod CountLaws
pub mod SweepLaws
pub mod Pieces
pub mod Theorems

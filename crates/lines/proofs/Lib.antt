pub mod Cutting
pub mod Decimal
pub mod Fronted
pub mod Offered
pub mod Sequence

pub mod Args
pub mod Program
pub mod RunList
pub mod Series

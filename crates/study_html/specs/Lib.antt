pub mod Escape
pub mod Elements
pub mod Drawings
pub mod Markup
pub mod Frame

pub mod FormShapes

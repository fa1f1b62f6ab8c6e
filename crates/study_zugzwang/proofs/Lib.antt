pub mod Zugzwangs

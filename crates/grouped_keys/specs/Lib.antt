pub mod Grouped

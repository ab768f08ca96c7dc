pub mod WholeInput

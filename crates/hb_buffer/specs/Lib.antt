pub mod BoundedBytes

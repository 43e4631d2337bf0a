-- Streams of bytes in C, a file a line.
pub mod Streams
pub mod Writing
pub mod Reading
pub mod Filter

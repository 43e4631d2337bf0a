-- The C of a program, a file a line.
pub mod Compared
pub mod FunctionC
pub mod ProgramC
pub mod Samples
pub mod FileLaw
pub mod Guarded

-- That the C of a program outputs its network's stream, a file a line.
pub mod Links
pub mod TypeFunctions
pub mod Compared
pub mod Functions
pub mod Handing
pub mod Entries
pub mod Guarded
pub mod Programs

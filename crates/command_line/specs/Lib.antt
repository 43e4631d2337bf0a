-- What the words of a command line ask for, a file a line.
pub mod CommandLine
pub mod CommandRows
